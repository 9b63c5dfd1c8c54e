use Rattle.std.proofs.Common.{◌∙◌, ◌≡◌, ap, map, sym, Some}
use Rattle.std.proofs.lemmas.Int.{to_z-of_z}
use Rattle.vortex_array_types.specs.Order.{compares}
use Rattle.vortex_array_types.specs.declared.scalar.Value.TheVariants as value
use Rattle.vortex_array_compare.proofs.OrderAnswers.{numbers-beside}
use Rattle.vortex_array_compare.proofs.primitives.compare_items_with.Goals as goal

pub returns : goal.returns
returns g c =
    let f = g.T.NativeValue.number in
    let number : f c.in-Some.item ≡ c.args.number = simp (to_z-of_z, c.ranges.number) at c.in-Some.ensures.value in
    (rw (c.new-same.ensures.value, c.new-same.ensures.len, c.new.ensures, c.as_slice.ensures, c.len.ensures) at c.in_ok-bits-in-Some.ensures)
    ∙ numbers-beside (λ n. value.Int n) f g.T.Ord.cmp c.args.operator (λ x y. ap (λ o. Some o) (sym (g.met.T.PrimitiveWidth.ordered x y))) c.args.items.now c.in-Some.item
    ∙ ap (λ n. map (λ v. compares c.args.operator v (value.Int n)) (map (λ n. value.Int n) (map f c.args.items.now))) number
