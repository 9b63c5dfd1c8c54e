use Rattle.std.proofs.Common.{◌∙◌, ap, map, sym, Some}
use Rattle.std.specs.Simd.Lanes.{zip2}
use Rattle.vortex_array_types.specs.Order.{compares}
use Rattle.vortex_array_types.specs.declared.scalar.Value.TheVariants as value
use Rattle.vortex_array_types.proofs.SameTypes.{same-width}
use Rattle.vortex_array_kinds.specs.Kinds.{ptype_of}
use Rattle.vortex_array_compare.proofs.OrderAnswers.{numbers-compared}
use Rattle.vortex_array_compare.proofs.primitives.compare_items.Goals as goal

pub items-requires : goal.items-requires
items-requires g c = sym (same-width g.T.NativeValue.width (ptype_of c.args.other.now) c.requires.same_width)

pub returns : goal.returns
returns g c =
    (rw (c.new-left.ensures, c.new-right.ensures, c.as_slice.ensures, c.as_slice-2.ensures) at c.in_ok-bits.ensures)
    ∙ numbers-compared (λ n. value.Int n) g.T.NativeValue.number g.T.NativeValue.number g.T.Ord.cmp c.args.operator (λ x y. ap (λ o. Some o) (sym (g.met.T.PrimitiveWidth.ordered x y))) c.args.items.now c.items.result.now
    ∙ ap (λ xs. zip2 (compares c.args.operator) (map (λ n. value.Int n) (map g.T.NativeValue.number c.args.items.now)) (map (λ n. value.Int n) xs)) (sym c.items.ensures)
