-- The extreme values of a column, from the places of them.
use Rattle.std.proofs.Common.{ℕ, ◌≡◌, true, Bool, List, length, get_or, refl, ap, ◌∙◌, Option, Some, None}
use Rattle.std.specs.Prelude.{IsTrue, is_some, Contains}
use Rattle.std.specs.declared.cmp.Ordering.{Ordering}
use Rattle.std.specs.Ordering.{is_le, is_some_and}
use Rattle.std.proofs.lemmas.Bool.{false≢true}
use Rattle.std.proofs.lemmas.List.{get_or_default}
use Rattle.vortex_array_types.specs.Order.{compares, value_cmp}
use Rattle.vortex_array_types.specs.Row.{Column, TypedRow}
use Rattle.vortex_array_types.specs.Widths.{full_form}
use Rattle.vortex_array_types.specs.declared.scalar.Value.{Value}
use Rattle.vortex_buffer.specs.declared.compare_operator.CompareOperator.TheVariants.{Lte}
use Rattle.vortex_array_order.specs.InOrder.{at_most}
use Rattle.vortex_array_order.specs.Extremes.{LeastOf, GreatestOf, IsExtreme, AreExtremes}

-- what is at most another is so by the operator
compares_at_most : (v w : Value) → IsTrue (at_most (Some v) (Some w)) → IsTrue (compares Lte v w)
compares_at_most v w h = by_order (value_cmp v w) refl h
  where
    by_order : (x : Option Ordering) → value_cmp v w ≡ x → is_some_and is_le x ≡ true → IsTrue (compares Lte v w)
    by_order None e k = absurd (false≢true k)
    by_order (Some o) e k = rw e k

-- a value at an extreme place is a row, and stands so to each
extreme_value : (stand : Option Value → Option Value → Bool) (rows : List (Option Value)) (i : ℕ) (v : Value) → IsExtreme stand rows (length rows) i → get_or rows i None ≡ Some v
    → Contains rows (Some v) × ((w : Value) → Contains rows (Some w) → IsTrue (stand (Some v) (Some w)))
extreme_value stand rows i v h e = (
  (i, h.within, get_or_default rows i (Some v) None h.within ∙ e),
  λ w k.
      let here : get_or rows k.0 None ≡ Some w = get_or_default rows k.0 None (Some w) k.1 ∙ k.2 in
      rw (e, here) at (h.bound k.0 k.1 (ap is_some here)),
)

some_value : (row : Option Value) → is_some row ≡ true → (v : Value) × (row ≡ Some v)
some_value None s = absurd (false≢true s)
some_value (Some v) s = (v, refl)

-- the rows at the extreme places, of the type without nulls, are the extreme values
pub are-extremes : (c : Column) (min max : TypedRow) (i j : ℕ) → LeastOf c.rows (length c.rows) i → GreatestOf c.rows (length c.rows) j → min ≡ record { dtype = full_form c.dtype; value = get_or c.rows i None } → max ≡ record { dtype = full_form c.dtype; value = get_or c.rows j None } → AreExtremes c min max
are-extremes c min max i j h k p q =
    let v = some_value (get_or c.rows i None) h.some in
    let w = some_value (get_or c.rows j None) k.some in
    let least = extreme_value at_most c.rows i v.0 h v.1 in
    let greatest = extreme_value (λ a b. at_most b a) c.rows j w.0 k w.1 in
    record {
      min_type = ap (λ s. s.dtype) p;
      max_type = ap (λ s. s.dtype) q;
      least = (v.0, ap (λ s. s.value) p ∙ v.1, record { among = least.0; bound = λ x m. compares_at_most v.0 x (least.1 x m) });
      greatest = (w.0, ap (λ s. s.value) q ∙ w.1, record { among = greatest.0; bound = λ x m. compares_at_most x w.0 (greatest.1 x m) });
    }
