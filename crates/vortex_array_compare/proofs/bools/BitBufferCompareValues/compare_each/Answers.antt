use Rattle.std.proofs.Common.{◌∙◌, refl}
use Rattle.std.specs.Ordering.{bool_cmp}
use Rattle.vortex_array_types.specs.declared.scalar.Value.TheVariants as value
use Rattle.vortex_array_compare.proofs.OrderAnswers.{each-compared}
use Rattle.vortex_array_compare.proofs.bools.BitBufferCompareValues.compare_each.Goals as goal

pub returns : goal.returns
returns c = c.in_ok-bits.ensures ∙ each-compared (λ b. value.Bool b) (λ b. value.Bool b) bool_cmp c.args.operator (λ x y. refl) c.args.self.now c.args.other.now
