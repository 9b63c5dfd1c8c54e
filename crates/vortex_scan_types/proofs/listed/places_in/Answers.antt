use Rattle.std.proofs.Common.{◌-◌, ◌∙◌, sym}
use Rattle.std.proofs.lemmas.List.FromFn.{length-range_with_len}
use Rattle.vortex_scan_types.proofs.listed.places_in.Goals as goal

pub returns : goal.returns
returns c = c.saturating_sub.ensures ∙ sym (length-range_with_len c.args.range.now.start (c.args.range.now.end - c.args.range.now.start))
