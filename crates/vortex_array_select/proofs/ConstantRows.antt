-- Parts of equal rows.
use Rattle.std.proofs.Common.{ℕ, zero, suc, ◌-◌, ◌<◌, ◌≤◌, ◌≡◌, Bool, true, false, cond, List, [], ◌∷◌, length, get_or, take, map, replicate, refl, sym, ap, ◌∙◌, arith, Option, None}
use Rattle.std.specs.Prelude.{IsTrue}
use Rattle.std.specs.List.{count_by}
use Rattle.std.proofs.lemmas.List.{drop-replicate, ext_get_or, get_or-replicate, length-map, length-replicate, take-replicate}
use Rattle.std.proofs.lemmas.Bool.{false≢true}
use Rattle.vortex_array_types.specs.Row.{TypedRow}
use Rattle.vortex_array_types.specs.declared.scalar.Value.{Value}
use Rattle.vortex_array_rows.specs.Kept.{kept_by}
use Rattle.vortex_array_rows.proofs.Kept.{length-kept_by}
use Rattle.vortex_array_kinds.specs.Kinds.{constant_column}
use Rattle.vortex_array_kinds.proofs.RowLemmas.{column_with}
use Rattle.vortex_array_kinds.specs.Validities.{has_none, is_as_long, valid_at}
use Rattle.vortex_array_kinds.specs.declared.validity.Validity.{Validity}
use Rattle.vortex_array_kinds.specs.declared.validity.Validity.TheVariants.{NonNullable, AllValid, AllInvalid, Bits}
use Rattle.vortex_array_select.specs.Selected.{filtered, row_at, sliced, taken}
use Rattle.vortex_array_select.specs.SelectedParts.{PlacesBelow, index_column, taken_type}
use Rattle.vortex_array_select.proofs.TakenRows.{index_rows, length-taken, place-below, taken-at}

-- a part of equal rows is fewer of them
pub constant-sliced : (row : TypedRow) (n i j : ℕ) → i ≤ j → j ≤ length (replicate n row.value)
    → column_with row.dtype (replicate (j - i) row.value) ≡ sliced i j (constant_column (record { scalar = row; len = n }))
constant-sliced row n i j order within =
    let few : j - i ≤ n - i = omega (arith, order, within, length-replicate n row.value) in
    ap (column_with row.dtype) (sym (ap (take (j - i)) (drop-replicate i n row.value) ∙ take-replicate (j - i) (n - i) row.value few))

kept_equal : {X : Type 0} (set : List Bool) (n : ℕ) (x : X) → kept_by set (replicate n x) ≡ replicate (length (kept_by set (replicate n x))) x
kept_equal [] n x = refl
kept_equal (b ∷ set) zero x = refl
kept_equal (true ∷ set) (suc n) x = ap (λ xs. x ∷ xs) (kept_equal set n x)
kept_equal (false ∷ set) (suc n) x = kept_equal set n x

-- what a mask keeps of equal rows is as many as it has bits set
pub constant-kept : (row : TypedRow) (n : ℕ) (set : List Bool) → length set ≡ length (replicate n row.value)
    → column_with row.dtype (replicate (count_by (λ bit. bit) set) row.value) ≡ filtered set (constant_column (record { scalar = row; len = n }))
constant-kept row n set same =
    ap (column_with row.dtype) (ap (λ k. replicate k row.value) (sym (length-kept_by set (replicate n row.value) same)) ∙ sym (kept_equal set n row.value))

-- where no row is null, any length will do
all_valid : (w : Validity) (n k : ℕ) → IsTrue (has_none w) → IsTrue (is_as_long w n) × (valid_at w k ≡ true)
all_valid NonNullable n k e = (refl, refl)
all_valid AllValid n k e = (refl, refl)
all_valid AllInvalid n k e = absurd (false≢true e)
all_valid (Bits set) n k e = absurd (false≢true e)

rows_taken : (x : Option Value) (n : ℕ) (w : Validity) (places : List ℕ) → IsTrue (has_none w) → PlacesBelow (length (replicate n x)) w places → replicate (length places) x ≡ map (row_at (replicate n x)) (index_rows w places)
rows_taken x n w places e h = ext_get_or None _ _
    (length-replicate (length places) x ∙ sym (length-taken (replicate n x) w places (all_valid w (length places) 0 e).0))
    (λ k l.
    let inside : k < length places = omega (arith, l, length-replicate (length places) x) in
    let valid = (all_valid w 0 k e).1 in
    let below : get_or places k 0 < n = omega (arith, place-below (length (replicate n x)) w places k h inside valid, length-replicate n x) in
    get_or-replicate (length places) k x None inside
    ∙ sym (taken-at (replicate n x) w places k inside ∙ ap (λ b. cond b (get_or (replicate n x) (get_or places k 0) None) None) valid ∙ get_or-replicate n (get_or places k 0) x None below))

-- equal rows at places that are not null are as many as the places
pub constant-taken : {P : Type 0} (f : P → ℕ) (row : TypedRow) (n : ℕ) (w : Validity) (places : List P) → IsTrue (has_none w) → PlacesBelow (length (replicate n row.value)) w (map f places)
    → column_with (taken_type w row.dtype) (replicate (length places) row.value) ≡ taken (index_column w (map f places)) (constant_column (record { scalar = row; len = n }))
constant-taken f row n w places e h =
    ap (column_with (taken_type w row.dtype)) (ap (λ k. replicate k row.value) (sym (length-map places f)) ∙ rows_taken row.value n w (map f places) e h)
