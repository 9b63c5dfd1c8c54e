use Rattle.std.proofs.Common.{◌∙◌, sym}
use Rattle.std.proofs.lemmas.List.{length-map}
use Rattle.vortex_array_types.specs.declared.scalar.Value.TheVariants as values
use Rattle.vortex_array_order.proofs.bools.BitBufferCompared.count.Goals as goal

pub returns : goal.returns
returns c = c.len.ensures ∙ sym (length-map c.args.self.now (λ b. values.Bool b))
