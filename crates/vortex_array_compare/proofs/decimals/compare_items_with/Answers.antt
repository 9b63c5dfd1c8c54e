use Rattle.std.proofs.Common.{◌∙◌, ◌≡◌, length, map, refl, replicate, sym}
use Rattle.std.specs.Ordering.{int_cmp}
use Rattle.std.specs.Simd.Lanes.{zip2}
use Rattle.std.proofs.lemmas.Int.{to_z-of_z}
use Rattle.std.proofs.lemmas.List.{length-map}
use Rattle.vortex_array_types.specs.Order.{accepts}
use Rattle.vortex_array_types.specs.declared.scalar.Value.TheVariants as value
use Rattle.vortex_array_compare.proofs.OrderAnswers.{same-compared}
use Rattle.vortex_array_compare.proofs.decimals.compare_items_with.Goals as goal

pub returns : goal.returns
returns g c =
    let xs = map g.T.DecimalWidth.unscaled c.args.items.now in
    let fits = c.ranges.number in
    let said : c.in_ok-bits.bits ≡ map (accepts c.args.operator) (zip2 int_cmp xs (replicate (length c.args.items.now) c.args.number)) = simp (to_z-of_z, fits) at (rw (c.new-same.ensures.value, c.new-same.ensures.len, c.unscaled_lanes.ensures, c.len.ensures) at c.in_ok-bits.ensures) in
    said ∙ same-compared (λ n. value.Decimal n) (λ n. value.Decimal n) int_cmp c.args.operator (λ x y. refl) xs (length c.args.items.now) c.args.number (sym (length-map c.args.items.now g.T.DecimalWidth.unscaled))
