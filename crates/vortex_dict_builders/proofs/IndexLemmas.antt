-- Entries as rows, and where they stand.
use Rattle.std.proofs.Common.{ℕ, ◌+◌, ◌<◌, ◌≤◌, ◌≡◌, Bool, true, false, List, [], ◌∷◌, length, get_or, map, refl, sym, ap, subst, ◌∙◌, arith, Option, Some, None, inl, inr}
use Rattle.std.specs.Prelude.{◌⊎◌}
use Rattle.std.proofs.lemmas.Bool.{cases_eq, cases_lt, false≢true}
use Rattle.std.proofs.lemmas.Option.{same_Some}
use Rattle.vortex_array_types.specs.declared.scalar.Value.{Value}
use Rattle.vortex_array_types.specs.declared.types.Nullability.TheVariants as nulls
use Rattle.vortex_array_kinds.specs.Pushed.{Grows, with_row}
use Rattle.vortex_array_kinds.specs.Validities.{nullability_of, row_of, rows_under, valid_at}
use Rattle.vortex_array_kinds.specs.declared.validity.Validity.{Validity}
use Rattle.vortex_dict_builders.specs.Firsts.{AreDistinct, StandsAt, has_row}
use Rattle.vortex_dict_builders.specs.Indexed.{AllPresent, HasNull, IsNullAt, NullAt}
use Rattle.vortex_dict_builders.proofs.FirstsLemmas.{none-among}
use Rattle.vortex_dict_builders.proofs.ValidityLemmas.{row-at, rows-long, valid-before, valid-last}

-- one entry at most is null
pub one-null : (v : Validity) (n : ℕ) (null : Option ℕ) → NullAt v n null → (i j : ℕ) → i < n → j < n → valid_at v i ≡ false → valid_at v j ≡ false → i ≡ j
one-null v n None at i j l m p q = absurd (false≢true (sym p ∙ at i l))
one-null v n (Some place) at i j l m p q = there i l p ∙ sym (there j m q)
  where
    there : (k : ℕ) → k < n → valid_at v k ≡ false → k ≡ place
    there k l p = by_case (cases_eq k place)
      where
        by_case : (k ≡ place) ⊎ (k ≡ place → ⊥) → k ≡ place
        by_case (inl e) = e
        by_case (inr apart) = absurd (false≢true (sym p ∙ at.2 k l apart))

-- some item of a list that has one
first_item : {X : Type 0} (xs : List X) (i : ℕ) → i < length xs → X
first_item [] i l = absurd (omega (arith, l))
first_item (x ∷ xs) i l = x

module _ {X : Type 0} (f : X → Value) where
  -- an item that is a value stands at its place
  pub value-stands : (v : Validity) (xs : List X) (p : ℕ) (d : X) (w : Value) → Grows v (length xs) → p < length xs → valid_at v p ≡ true → f (get_or xs p d) ≡ w → StandsAt (rows_under v (map f xs)) (Some w) p
  value-stands v xs p d w g l valid e = record {
    within = omega (arith, l, rows-long f v xs g);
    here = row-at f v xs p d g l ∙ ap (row_of (f (get_or xs p d))) valid ∙ ap (λ x. Some x) e;
  }

  -- and where a value stands there is such an item
  pub stands-value : (v : Validity) (xs : List X) (p : ℕ) (d : X) (w : Value) → Grows v (length xs) → StandsAt (rows_under v (map f xs)) (Some w) p → (p < length xs) × (valid_at v p ≡ true) × (f (get_or xs p d) ≡ w)
  stands-value v xs p d w g h =
      let inside : p < length xs = omega (arith, h.within, rows-long f v xs g) in
      let row : row_of (f (get_or xs p d)) (valid_at v p) ≡ Some w = sym (row-at f v xs p d g inside) ∙ h.here in
      let there = of_row (f (get_or xs p d)) (valid_at v p) row in
      (inside, there.0, there.1)
    where
      of_row : (y : Value) (b : Bool) → row_of y b ≡ Some w → (b ≡ true) × (y ≡ w)
      of_row y true e = (refl, same_Some y w e)
      of_row y false e = absurd (cc e)

  -- null stands where an entry is null
  pub null-stands : (v : Validity) (xs : List X) (p : ℕ) → Grows v (length xs) → IsNullAt xs v p → StandsAt (rows_under v (map f xs)) None p
  null-stands v xs p g h =
      let d = first_item xs p h.within in
      record {
        within = omega (arith, h.within, rows-long f v xs g);
        here = row-at f v xs p d g h.within ∙ ap (row_of (f (get_or xs p d))) h.null;
      }

  -- and nowhere where none is
  pub null-nowhere : (v : Validity) (xs : List X) → Grows v (length xs) → AllPresent xs v → has_row (rows_under v (map f xs)) None ≡ false
  null-nowhere v xs g h = none-among (rows_under v (map f xs)) None
      (λ p s.
      let inside : p < length xs = omega (arith, s.within, rows-long f v xs g) in
      let d = first_item xs p inside in
      let row : row_of (f (get_or xs p d)) (valid_at v p) ≡ None = sym (row-at f v xs p d g inside) ∙ s.here in
      cc (sym row ∙ ap (row_of (f (get_or xs p d))) (h p inside)))

  -- a value that no item has is none of the rows
  pub value-nowhere : (v : Validity) (xs : List X) (d : X) (w : Value) → Grows v (length xs) → ((p : ℕ) → p < length xs → valid_at v p ≡ true → f (get_or xs p d) ≡ w → ⊥) → has_row (rows_under v (map f xs)) (Some w) ≡ false
  value-nowhere v xs d w g h = none-among (rows_under v (map f xs)) (Some w) (λ p s. let there = stands-value v xs p d w g s in h p there.0 there.1 there.2)

  -- rows are distinct where items are and one place at most is null
  pub distinct-rows : (v : Validity) (xs : List X) (null : Option ℕ) → Grows v (length xs) → NullAt v (length xs) null
      → ((i j : ℕ) (d : X) → i < length xs → j < length xs → valid_at v i ≡ true → valid_at v j ≡ true → f (get_or xs i d) ≡ f (get_or xs j d) → i ≡ j)
      → AreDistinct (rows_under v (map f xs))
  distinct-rows v xs null g at h = λ i j l m e.
      let inside : i < length xs = omega (arith, l, rows-long f v xs g) in
      let there : j < length xs = omega (arith, m, rows-long f v xs g) in
      let d = first_item xs i inside in
      let same : row_of (f (get_or xs i d)) (valid_at v i) ≡ row_of (f (get_or xs j d)) (valid_at v j) = sym (row-at f v xs i d g inside) ∙ e ∙ row-at f v xs j d g there in
      by_bits i j d inside there (valid_at v i) (valid_at v j) refl refl same
    where
      by_bits : (i j : ℕ) (d : X) → i < length xs → j < length xs → (a b : Bool) → valid_at v i ≡ a → valid_at v j ≡ b → row_of (f (get_or xs i d)) a ≡ row_of (f (get_or xs j d)) b → i ≡ j
      by_bits i j d l m true true p q e = h i j d l m p q (same_Some _ _ e)
      by_bits i j d l m true false p q e = absurd (cc e)
      by_bits i j d l m false true p q e = absurd (cc e)
      by_bits i j d l m false false p q e = one-null v (length xs) null at i j l m p q

-- the place of the null entry, where there is one
pub null-there : {X : Type 0} (xs : List X) (v : Validity) (place : ℕ) → HasNull xs v (Some place) → IsNullAt xs v place
null-there xs v place h = record { within = h.at.0; null = h.at.1 }

-- one more entry that is a value
pub null-kept : (v : Validity) (n : ℕ) (null : Option ℕ) → Grows v n → NullAt v n null → NullAt (with_row true v) (n + 1) null
null-kept v n None g at = λ p l. by_place p (cases_lt p n) l
  where
    by_place : (p : ℕ) → (p < n) ⊎ (n ≤ p) → p < n + 1 → valid_at (with_row true v) p ≡ true
    by_place p (inl before) l = valid-before v n p true g before ∙ at p before
    by_place p (inr from) l = let here : n ≡ p = omega (arith, from, l) in subst (λ k. valid_at (with_row true v) k ≡ true) here (valid-last v n true g (λ _. refl))
null-kept v n (Some place) g at = (omega (arith, at.0), valid-before v n place true g at.0 ∙ at.1, λ p l apart. by_place p (cases_lt p n) l apart)
  where
    by_place : (p : ℕ) → (p < n) ⊎ (n ≤ p) → p < n + 1 → (p ≡ place → ⊥) → valid_at (with_row true v) p ≡ true
    by_place p (inl before) l apart = valid-before v n p true g before ∙ at.2 p before apart
    by_place p (inr from) l apart = let here : n ≡ p = omega (arith, from, l) in subst (λ k. valid_at (with_row true v) k ≡ true) here (valid-last v n true g (λ _. refl))

-- the null entry behind values
pub null-put : (v : Validity) (n : ℕ) → Grows v n → nullability_of v ≡ nulls.Nullable → ((p : ℕ) → p < n → valid_at v p ≡ true) → NullAt (with_row false v) (n + 1) (Some n)
null-put v n g nullable all = (
  omega arith,
  valid-last v n false g (λ none. cc (sym none ∙ nullable)),
  λ p l apart. let before : p < n = omega (arith, l, apart) in valid-before v n p false g before ∙ all p before,
)
