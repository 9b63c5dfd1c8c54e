-- Rows that are equal by their order.
use Rattle.std.proofs.Common.{◌≡◌, true, refl, ap, subst, ◌∙◌, Option, Some, None}
use Rattle.std.specs.Prelude.{◌↔◌, IsTrue}
use Rattle.std.specs.declared.cmp.Ordering.{Ordering}
use Rattle.std.specs.declared.cmp.Ordering.TheVariants.{Equal}
use Rattle.std.specs.Ordering.{is_eq, is_some_and}
use Rattle.std.proofs.lemmas.Bool.{false≢true}
use Rattle.vortex_array_types.specs.Order.{compares, row_cmp, value_cmp}
use Rattle.vortex_array_types.specs.declared.scalar.Value.{Value}
use Rattle.vortex_buffer.specs.declared.compare_operator.CompareOperator.TheVariants.{Eq}
use Rattle.vortex_array_order.proofs.OrderLaws.{equal-same, row-itself}

same_values : (v w : Value) → IsTrue (compares Eq v w) → Some v ≡ Some w
same_values v w h = by_order (value_cmp v w) refl h
  where
    by_order : (x : Option Ordering) → value_cmp v w ≡ x → IsTrue (compares Eq v w) → Some v ≡ Some w
    by_order None e k = absurd (false≢true (rw e at k))
    by_order (Some o) e k = let equal : is_eq o ≡ true = rw e at k in equal-same (Some v) (Some w) (ap (is_some_and is_eq) e ∙ equal)

equal_values : (v w : Value) → Some v ≡ Some w → IsTrue (compares Eq v w)
equal_values v w h =
    let e : value_cmp v w ≡ Some Equal = subst (λ (row : Option Value). row_cmp (Some v) row ≡ Some Equal) h (row-itself (Some v)) in
    rw e refl

-- values are equal exactly where the operator says so
pub same-values : (v w : Value) → IsTrue (compares Eq v w) ↔ (Some v ≡ Some w)
same-values v w = (same_values v w, equal_values v w)
