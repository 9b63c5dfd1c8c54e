use Rattle.std.proofs.Common.{◌∙◌, ap, map, not, false}
use Rattle.vortex_buffer.proofs.Bits.{map-replicate}
use Rattle.vortex_array_kinds.proofs.joined.all_set.Goals as goal

pub returns : goal.returns
returns c = c.in_ok-all.ensures ∙ ap (map not) c.in_ok-none.ensures ∙ map-replicate not c.args.len false
