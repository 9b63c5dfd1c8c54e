use Rattle.std.proofs.Common.{◌∙◌, ◌≡◌, ap, length, map}
use Rattle.std.proofs.lemmas.Int.{to_z-of_z}
use Rattle.std.proofs.lemmas.List.{map-id}
use Rattle.vortex_array_types.specs.declared.scalar.Value.TheVariants as value
use Rattle.vortex_array_kinds.specs.Validities.{valid_bits}
use Rattle.vortex_array_cast.specs.Filled.{filled_items}
use Rattle.vortex_array_cast.proofs.FilledRows.{map-filled}
use Rattle.vortex_array_cast.proofs.decimals.fill_unscaled.Goals as goal

pub returns : goal.returns
returns g c =
    let numbers = map g.T.DecimalWidth.unscaled c.args.items.now in
    let bits = valid_bits c.args.validity.now (length numbers) in
    let fits = c.ranges.fill in
    let said : c.in_ok-filled.filled ≡ filled_items c.args.fill numbers bits = simp (to_z-of_z, fits) at (rw (c.as_slice.ensures.value, c.in_ok-wide.ensures) at c.in_ok-filled.ensures) in
    ap (map (λ n. value.Decimal n)) (map-id c.in_ok-filled.filled ∙ said) ∙ map-filled (λ n. value.Decimal n) c.args.fill numbers bits
