use Rattle.std.proofs.Common.{◌∙◌, refl}
use Rattle.std.specs.Ordering.{bool_cmp}
use Rattle.vortex_array_types.specs.declared.scalar.Value.TheVariants as value
use Rattle.vortex_array_compare.proofs.OrderAnswers.{same-compared}
use Rattle.vortex_array_compare.proofs.bools.BitBufferCompareValues.compare_with.Goals as goal

pub returns : goal.returns
returns c =
    rw c.in-Bool.is
    ((rw (c.new-same.ensures.value, c.new-same.ensures.len) at c.in_ok-bits-in-Bool.ensures)
    ∙ same-compared (λ b. value.Bool b) (λ b. value.Bool b) bool_cmp c.args.operator (λ x y. refl) c.args.self.now c.len.result c.in-Bool.bit c.len.ensures)
