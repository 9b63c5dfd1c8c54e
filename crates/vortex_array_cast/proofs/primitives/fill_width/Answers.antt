use Rattle.std.proofs.Common.{◌∙◌, ◌≡◌, ap, sym, map, length}
use Rattle.std.specs.Prelude.{ℤ, List}
use Rattle.std.proofs.lemmas.Int.{to_z-of_z}
use Rattle.std.proofs.lemmas.List.{length-map}
use Rattle.vortex_array_types.specs.declared.scalar.Value.{Value}
use Rattle.vortex_array_types.specs.declared.scalar.Value.TheVariants as value
use Rattle.vortex_array_kinds.specs.Validities.{valid_bits}
use Rattle.vortex_array_cast.specs.Filled.{filled_items}
use Rattle.vortex_array_cast.proofs.FilledRows.{map-filled}
use Rattle.vortex_array_cast.proofs.primitives.fill_width.Goals as goal

pub returns-clause-ok : goal.returns-clause-ok
returns-clause-ok g c =
    let f = g.T.NativeValue.number in
    let xs = c.args.items.now in
    let v = c.args.validity.now in
    let number : f c.in-Some.item ≡ c.args.fill = simp (to_z-of_z, c.ranges.fill) at c.in-Some.ensures.value in
    let ints : List ℤ → List Value = map (λ n. value.Int n) in
    ap ints
    (c.into_buffer.ensures.numbers
    ∙ ap (map f) (rw c.as_slice.ensures at c.in_ok-filled-in-Some.ensures)
    ∙ map-filled f c.in-Some.item xs (valid_bits v (length xs))
    ∙ ap (λ d. filled_items d (map f xs) (valid_bits v (length xs))) number
    ∙ ap (λ n. filled_items c.args.fill (map f xs) (valid_bits v n)) (sym (length-map xs f)))
    ∙ map-filled (λ n. value.Int n) c.args.fill (map f xs) (valid_bits v (length (map f xs)))
