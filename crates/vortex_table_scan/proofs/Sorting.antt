-- Batches that were sorted by scope.
use Rattle.std.proofs.Common.{◌≡◌, sym, refl, ℕ, ◌+◌, ◌<◌, ◌≤◌, Bool, true, false, List, cond, get_or, arith, inl, inr}
use Rattle.std.specs.Prelude.{◌⊎◌, ◌==◌, ◌≢◌, OnOk, Result, Ok, Err, nat_lt}
use Rattle.std.specs.List.Sorted.{IsSortedByKey}
use Rattle.std.specs.Ordering.{is_lt, nat_cmp, ordering_then}
use Rattle.std.specs.declared.cmp.Ordering.TheVariants.{Less, Equal, Greater}
use Rattle.std.proofs.lemmas.Map.Keys.{ge_from_not_lt}
use Rattle.std.proofs.lemmas.Bool.{ltb-false}
use Rattle.vortex_scan_types.specs.declared.batch.Batch.{Batch}
use Rattle.vortex_table_scan.specs.Cut.{AreInOrder}

-- by what batches are sorted
abbrev pub scope_key : Batch → ℕ × ℕ
scope_key batch = (batch.scope.file_ordinal, batch.scope.rows.start)

-- where one pair is not less than another, the other is less, or has the same first and no greater second number
no_less : (a b p q : ℕ) → is_lt (ordering_then (nat_cmp a b) (nat_cmp p q)) ≡ false → (b < a) ⊎ ((b ≡ a) × (q ≤ p))
no_less a b p q e = by (nat_lt a b) (a == b) refl refl e
  where
    by : (less same : Bool) → nat_lt a b ≡ less → (a == b) ≡ same → is_lt (ordering_then (cond less Less (cond same Equal Greater)) (nat_cmp p q)) ≡ false → (b < a) ⊎ ((b ≡ a) × (q ≤ p))
    by true same l s f = absurd (cc)
    by false true l s f = let equal : a ≡ b = grind (arith, s) in inr (sym equal, ge_from_not_lt p q f)
    by false false l s f = let more : b ≤ a = ltb-false a b l in let other : a ≢ b = λ equal. grind (arith, equal, s) in inl (omega (arith, more, other))

pub sorted_in_order : (batches : List Batch) → IsSortedByKey scope_key (λ x y. ordering_then (nat_cmp x.0 y.0) (nat_cmp x.1 y.1)) batches → AreInOrder batches
sorted_in_order batches sorted k d less = no_less (get_or batches (k + 1) d).scope.file_ordinal (get_or batches k d).scope.file_ordinal (get_or batches (k + 1) d).scope.rows.start (get_or batches k d).scope.rows.start (sorted k d (omega arith) less)

pub on_ok : {T E : Type 0} (result : Result T E) (P Q : Type 0) → (P → Q) → OnOk result P → OnOk result Q
on_ok (Ok value) P Q f p = f p
on_ok (Err error) P Q f p = p
