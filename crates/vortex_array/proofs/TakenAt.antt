-- Indices as places.
use Rattle.std.proofs.Common.{ℕ, ◌<◌, ◌≡◌, Bool, true, false, cond, List, [], ◌∷◌, length, get_or, map, replicate, refl, sym, ap, subst, ◌∙◌, arith, Option, None}
use Rattle.std.specs.Prelude.{pos, IsTrue, All}
use Rattle.std.proofs.lemmas.List.{ext_get_or, get_or-map, get_or-replicate, length-map, length-replicate}
use Rattle.vortex_array_types.specs.Row.{Column, TypedRow}
use Rattle.vortex_array_types.specs.declared.types.DType.{DType}
use Rattle.vortex_array_types.specs.declared.types.DType.TheVariants as dtype
use Rattle.vortex_array_types.specs.declared.types.PType.TheVariants as width
use Rattle.vortex_array_types.specs.declared.scalar.Value.{Value}
use Rattle.vortex_array_types.specs.declared.scalar.Value.TheVariants as value
use Rattle.vortex_array_kinds.specs.Kinds.{constant_column}
use Rattle.vortex_array_kinds.specs.Validities.{is_as_long, nullability_of, rows_under, valid_at}
use Rattle.vortex_array_select.specs.Selected.{IndexBelow, is_index_type, row_at, taken}
use Rattle.vortex_array_select.specs.SelectedParts.{PlacesBelow, index_column}
use Rattle.vortex_array_kinds.specs.declared.validity.Validity.{Validity}
use Rattle.vortex_array_kinds.proofs.RowLemmas.{column_with}
use Rattle.vortex_array_kinds.proofs.TruthColumns.{same_column}
use Rattle.vortex_array_select.proofs.TakenRows.{index_rows, length-taken, place-below, places-below, taken-at}
use Rattle.vortex_array.specs.Index.{number_column}
use Rattle.vortex_array.specs.Plain.{is_primitive_type}

-- places as numbers are the numbers of places
places_as_numbers : {P : Type 0} (f : P → ℕ) (places : List P) → map (λ i. value.Int (pos i)) (map f places) ≡ map (λ n. value.Int n) (map (λ p. pos (f p)) places)
places_as_numbers f [] = refl
places_as_numbers f (p ∷ places) = ap (λ vs. value.Int (pos (f p)) ∷ vs) (places_as_numbers f places)

pub same-indices : {P : Type 0} (f : P → ℕ) (w : Validity) (places : List P) → index_column w (map f places) ≡ number_column w (map (λ p. pos (f p)) places)
same-indices f w places = ap (λ vs. column_with (dtype.Primitive width.U64 (nullability_of w)) (rows_under w vs)) (places_as_numbers f places)

-- a type of indices is one of whole numbers
pub index-type : (t : DType) → IsTrue (is_index_type t) → IsTrue (is_primitive_type t)
index-type (dtype.Primitive w n) k = refl
index-type t k = absurd (cc k)

-- each place of one row is 0
zero_at : (n k : ℕ) → k < n → get_or (map (λ (i : ℕ). i) (replicate n 0)) k 0 ≡ 0
zero_at n k l = get_or-map (λ (i : ℕ). i) (replicate n 0) k 0 0 (omega (arith, l, length-replicate {A = ℕ} n 0)) ∙ get_or-replicate n k 0 0 l

length_zeros : (n : ℕ) → length (map (λ (i : ℕ). i) (replicate n 0)) ≡ n
length_zeros n = length-map (replicate n 0) (λ (i : ℕ). i) ∙ length-replicate {A = ℕ} n 0

one_there : (x : Option Value) (n i j : ℕ) (b : Bool) → j ≡ 0 → (b ≡ true → i < n) → cond b (get_or (x ∷ []) j None) None ≡ cond b (get_or (replicate n x) i None) None
one_there x n i j true e h = ap (λ k. get_or (x ∷ []) k None) e ∙ sym (get_or-replicate n i x None (h refl))
one_there x n i j false e h = refl

rows_of_one : (x : Option Value) (n : ℕ) (w : Validity) (places : List ℕ) → IsTrue (is_as_long w (length places)) → PlacesBelow n w places
    → map (row_at (x ∷ [])) (index_rows w (map (λ i. i) (replicate (length places) 0))) ≡ map (row_at (replicate n x)) (index_rows w places)
rows_of_one x n w places long h =
    let firsts = map (λ (i : ℕ). i) (replicate (length places) 0) in
    let same : length firsts ≡ length places = length_zeros (length places) in
    let count : length (map (row_at (x ∷ [])) (index_rows w firsts)) ≡ length places = length-taken (x ∷ []) w firsts (rw same long) ∙ same in
    ext_get_or None (map (row_at (x ∷ [])) (index_rows w firsts)) (map (row_at (replicate n x)) (index_rows w places))
    (count ∙ sym (length-taken (replicate n x) w places long))
    (λ k l.
    let inside : k < length places = omega (arith, l, count) in
    taken-at (x ∷ []) w firsts k (omega (arith, inside, same))
    ∙ one_there x n (get_or places k 0) (get_or firsts k 0) (valid_at w k) (zero_at (length places) k inside) (place-below n w places k h inside)
    ∙ sym (taken-at (replicate n x) w places k inside))

-- what is taken of equal rows is what is taken of one of them
pub one-taken : (row : TypedRow) (n : ℕ) (w : Validity) (places : List ℕ) → IsTrue (is_as_long w (length places)) → PlacesBelow n w places
    → taken (index_column w (map (λ i. i) (replicate (length places) 0))) (column_with row.dtype (row.value ∷ [])) ≡ taken (index_column w places) (constant_column (record { scalar = row; len = n }))
one-taken row n w places long h = same_column _ _ _ _ refl (rows_of_one row.value n w places long h)

-- and by places of any type
pub one-taken-by : {P : Type 0} (f : P → ℕ) (row : TypedRow) (n : ℕ) (w : Validity) (places : List P) → IsTrue (is_as_long w (length places)) → PlacesBelow (length (replicate n row.value)) w (map f places)
    → taken (index_column w (map (λ i. i) (replicate (length places) 0))) (column_with row.dtype (row.value ∷ [])) ≡ taken (index_column w (map f places)) (constant_column (record { scalar = row; len = n }))
one-taken-by f row n w places long h =
    ap (λ m. taken (index_column w (map (λ i. i) (replicate m 0))) (column_with row.dtype (row.value ∷ []))) (sym (length-map places f))
    ∙ one-taken row n w (map f places) (rw (length-map places f) long) (subst (λ m. PlacesBelow m w (map f places)) (length-replicate n row.value) h)

-- numbers below n as indices are places below n
pub numbers-below : {P : Type 0} (f : P → ℕ) (n : ℕ) (w : Validity) (places : List P) → IsTrue (is_as_long w (length (map (λ p. pos (f p)) places))) → All (IndexBelow n) (number_column w (map (λ p. pos (f p)) places)).rows → PlacesBelow n w (map f places)
numbers-below f n w places l h =
    let long : IsTrue (is_as_long w (length (map f places))) = rw (length-map places f) (rw (length-map places (λ p. pos (f p))) at l) in
    places-below n w (map f places) long (subst (λ (c : Column). All (IndexBelow n) c.rows) (sym (same-indices f w places)) h)
