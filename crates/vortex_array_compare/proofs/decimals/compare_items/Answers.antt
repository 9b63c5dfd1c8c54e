use Rattle.std.proofs.Common.{◌∙◌, map, refl}
use Rattle.std.specs.Ordering.{int_cmp}
use Rattle.vortex_array_types.specs.declared.scalar.Value.TheVariants as value
use Rattle.vortex_array_compare.proofs.OrderAnswers.{each-compared}
use Rattle.vortex_array_compare.proofs.decimals.compare_items.Goals as goal

pub returns : goal.returns
returns g c =
    (rw (c.unscaled_lanes.ensures, c.unscaled_lanes-2.ensures) at c.in_ok-bits.ensures)
    ∙ each-compared (λ n. value.Decimal n) (λ n. value.Decimal n) int_cmp c.args.operator (λ x y. refl) (map g.A.DecimalWidth.unscaled c.args.left.now) (map g.B.DecimalWidth.unscaled c.args.right.now)
