use Rattle.std.proofs.Common.{rules, ap, replicate, ◌∙◌}
use Rattle.vortex_buffer.proofs.Bits.{div_ceil-64}
use Rattle.vortex_scan_types.proofs.listed_words.equal_words.Goals as goal

pub returns : goal.returns
returns c = c.in_ok-from_elem.ensures.items_if_clones_equal (search rules) ∙ ap (λ n. replicate n c.args.word) (c.div_ceil.ensures ∙ div_ceil-64 c.args.len)
