-- The order of equal rows.
use Rattle.std.proofs.Common.{ℕ, inl, inr, ◌<◌, ◌≤◌, ◌≡◌, ◌+◌, true, Bool, length, ap, refl, ◌∙◌, arith, Option, Some, None}
use Rattle.std.specs.Prelude.{IsTrue, is_some, replicate, ◌⊎◌}
use Rattle.std.proofs.lemmas.Bool.{cases_lt, false≢true}
use Rattle.std.proofs.lemmas.List.{get_or-replicate, length-replicate}
use Rattle.vortex_array_types.specs.declared.scalar.Value.{Value}
use Rattle.vortex_array_order.specs.InOrder.{IsSorted, IsStrictlySorted, at_most, below}
use Rattle.vortex_array_order.specs.Extremes.{ExtremesOf, IsExtreme, NoneOf}
use Rattle.vortex_array_order.proofs.OrderLaws.{at_most-itself, row-itself}
use Rattle.vortex_array_order.proofs.ExtremeSteps.{IsPreorder, at-least, at-most}

-- equal rows are sorted
pub constant-sorted : (n : ℕ) (row : Option Value) → IsSorted (replicate n row)
constant-sorted n row = λ i l.
    let inside : i + 1 < n = omega (arith, l, length-replicate n row) in
    rw (get_or-replicate n i row None (omega (arith, inside)), get_or-replicate n (i + 1) row None inside) (at_most-itself row)

-- one row stands strictly, and two do not
pub constant-strict : (n : ℕ) (row : Option Value) → n < 2 → IsStrictlySorted (replicate n row)
constant-strict n row h = λ i l. absurd (omega (arith, h, l, length-replicate n row))

not_below : (row : Option Value) → IsTrue (below row row) → ⊥
not_below row h = false≢true (rw (row-itself row) at h)

pub strict-short : (n : ℕ) (row : Option Value) → IsStrictlySorted (replicate n row) → n < 2
strict-short n row h = by_length (cases_lt n 2)
  where
    by_length : (n < 2) ⊎ (2 ≤ n) → n < 2
    by_length (inl l) = l
    by_length (inr l) = absurd (not_below row (rw (get_or-replicate n 0 row None (omega (arith, l)), get_or-replicate n 1 row None (omega (arith, l))) at (h 0 (omega (arith, l, length-replicate n row)))))

constant_extreme : (stand : Option Value → Option Value → Bool) → IsPreorder stand → (n : ℕ) (row : Option Value) → 0 < n → is_some row ≡ true → IsExtreme stand (replicate n row) (length (replicate n row)) 0
constant_extreme stand order n row l s = record {
  within = omega (arith, l, length-replicate n row);
  some = ap is_some (get_or-replicate n 0 row None l) ∙ s;
  bound = λ j m _. rw (get_or-replicate n 0 row None l, get_or-replicate n j row None (omega (arith, m, length-replicate n row))) (order.itself row);
}

-- the first of equal rows is both extremes where it is a value
pub constant-extremes : (n : ℕ) (row : Option Value) → (n ≡ 0 → ⊥) → (row ≡ None → ⊥) → ExtremesOf (replicate n row) (length (replicate n row)) 0 0
constant-extremes n row some value = record { least = constant_extreme at_most at-most n row (omega (arith, some)) (some_value row value); greatest = constant_extreme (λ a b. at_most b a) at-least n row (omega (arith, some)) (some_value row value) }
  where
    some_value : (row : Option Value) → (row ≡ None → ⊥) → is_some row ≡ true
    some_value None h = absurd (h refl)
    some_value (Some v) h = refl

-- and none is where there is no row, or it is null
pub constant-none : (n : ℕ) (row : Option Value) → (0 < n → row ≡ None) → NoneOf (replicate n row) (length (replicate n row))
constant-none n row h =
    record { null = λ j m. get_or-replicate n j row None (omega (arith, m, length-replicate n row)) ∙ h (omega (arith, m, length-replicate n row)) }
