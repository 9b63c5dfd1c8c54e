use Rattle.std.proofs.Common.{eqb, ap, ◌∙◌}
use Rattle.vortex_buffer.specs.Mask.{mask_bits}
use Rattle.vortex_buffer.proofs.Counts.{all_counted}
use Rattle.vortex_buffer.proofs.mask.Mask.all_true.Goals as goal

pub returns : goal.returns
returns c = ap (λ n. eqb n c.len.result) c.true_count.ensures ∙ ap (eqb _) c.len.ensures ∙ all_counted (mask_bits c.args.self.now)
