-- Rows at places.
use Rattle.std.proofs.Common.{ℕ, zero, suc, inl, inr, ◌<◌, ◌≤◌, ◌≡◌, Bool, true, false, cond, List, [], ◌∷◌, length, get_or, map, replicate, refl, sym, ap, subst, ◌∙◌, arith, Option, Some, None, eq-eqb}
use Rattle.std.specs.Prelude.{pos, IsTrue, All, option_map, slice_get, ◌⊎◌}
use Rattle.std.proofs.lemmas.Bool.{cases_lt, false≢true}
use Rattle.std.proofs.lemmas.List.{ext_get_or, get_or-map, get_or-replicate, get_or_default, get_or_past, length-map, length-replicate}
use Rattle.std.proofs.lemmas.List.Elements.{All-from_get_or, All-get_or}
use Rattle.std.proofs.lemmas.Option.{slice_get-get_or, slice_get-map}
use Rattle.std.proofs.lemmas.Simd.{get_or-zip2}
use Rattle.vortex_array_types.specs.Widths.{with_nullability}
use Rattle.vortex_array_types.specs.declared.types.DType.{DType}
use Rattle.vortex_array_types.specs.declared.types.Nullability.{Nullability}
use Rattle.vortex_array_types.specs.declared.types.Nullability.TheVariants as nulls
use Rattle.vortex_array_types.specs.declared.scalar.Value.{Value}
use Rattle.vortex_array_types.specs.declared.scalar.Value.TheVariants as value
use Rattle.vortex_array_rows.proofs.Taken.{length-taken_or}
use Rattle.vortex_array_kinds.specs.Kinds.{plain_column}
use Rattle.vortex_array_kinds.specs.Parts.{PlainParts}
use Rattle.vortex_array_kinds.specs.Validities.{rows_under, is_as_long, valid_at, nullability_of, nullable_validity}
use Rattle.vortex_array_kinds.specs.declared.validity.Validity.{Validity}
use Rattle.vortex_array_kinds.specs.declared.validity.Validity.TheVariants.{NonNullable, AllValid, AllInvalid, Bits}
use Rattle.vortex_array_kinds.proofs.RowLemmas.{length-rows, long_bits, nullable-long}
use Rattle.vortex_array_kinds.proofs.TruthColumns.{same_column}
use Rattle.vortex_array_select.specs.Selected.{IndexBelow, row_at, taken}
use Rattle.vortex_array_select.specs.SelectedParts.{AreTaken, PlacesBelow, index_column, taken_type, taken_validity, taken_values}

-- the rows of indices at places
abbrev pub index_rows : Validity → List ℕ → List (Option Value)
index_rows w places = rows_under w (map (λ i. value.Int (pos i)) places)

some_get : {X : Type 0} (xs : List X) (k : ℕ) → get_or (map (λ x. Some x) xs) k None ≡ slice_get xs k
some_get [] k = refl
some_get (x ∷ xs) zero = refl
some_get (x ∷ xs) (suc k) = some_get xs k

none_get : {X : Type 0} (xs : List X) (k : ℕ) → get_or (rows_under AllInvalid xs) k None ≡ None
none_get [] k = refl
none_get (x ∷ xs) zero = refl
none_get (x ∷ xs) (suc k) = none_get xs k

always : {A : Type 0} (b : Bool) (x : A) → cond b x x ≡ x
always true x = refl
always false x = refl

bits_get : {X : Type 0} (xs : List X) (bits : List Bool) (k : ℕ) → get_or (rows_under (Bits bits) xs) k None ≡ cond (get_or bits k false) (slice_get xs k) None
bits_get [] bits k = sym (always (get_or bits k false) None)
bits_get (x ∷ xs) [] k = refl
bits_get (x ∷ xs) (b ∷ bits) zero = refl
bits_get (x ∷ xs) (b ∷ bits) (suc k) = bits_get xs bits k

-- the row at a place is the value there where it is not null
pub row-get : {X : Type 0} (v : Validity) (xs : List X) (k : ℕ) → get_or (rows_under v xs) k None ≡ cond (valid_at v k) (slice_get xs k) None
row-get NonNullable xs k = some_get xs k
row-get AllValid xs k = some_get xs k
row-get AllInvalid xs k = none_get xs k
row-get (Bits bits) xs k = bits_get xs bits k

get_or-map_any : {X Y : Type 0} (f : X → Y) (xs : List X) (i : ℕ) (d : X) → get_or (map f xs) i (f d) ≡ f (get_or xs i d)
get_or-map_any f [] i d = refl
get_or-map_any f (x ∷ xs) zero d = refl
get_or-map_any f (x ∷ xs) (suc i) d = get_or-map_any f xs i d

-- the index at a place
index_at : (w : Validity) (places : List ℕ) (k : ℕ) → k < length places → get_or (index_rows w places) k None ≡ cond (valid_at w k) (Some (value.Int (pos (get_or places k 0)))) None
index_at w places k l =
    row-get w (map (λ i. value.Int (pos i)) places) k
    ∙ ap (λ r. cond (valid_at w k) r None) (slice_get-map (λ i. value.Int (pos i)) places k ∙ ap (option_map (λ i. value.Int (pos i))) (slice_get-get_or places k 0 l))

-- what an index takes: the row at its place where it is not null
pub taken-at : (rows : List (Option Value)) (w : Validity) (places : List ℕ) (k : ℕ) → k < length places
    → get_or (map (row_at rows) (index_rows w places)) k None ≡ cond (valid_at w k) (get_or rows (get_or places k 0) None) None
taken-at rows w places k l = get_or-map_any (row_at rows) (index_rows w places) k None ∙ ap (row_at rows) (index_at w places k l) ∙ by_bit (valid_at w k)
  where
    by_bit : (b : Bool) → row_at rows (cond b (Some (value.Int (pos (get_or places k 0)))) None) ≡ cond b (get_or rows (get_or places k 0) None) None
    by_bit true = refl
    by_bit false = refl

-- it is as many rows as places
pub length-taken : (rows : List (Option Value)) (w : Validity) (places : List ℕ) → IsTrue (is_as_long w (length places)) → length (map (row_at rows) (index_rows w places)) ≡ length places
length-taken rows w places e = length-map (index_rows w places) (row_at rows) ∙ length-rows w (map (λ i. value.Int (pos i)) places) (rw length-map e) ∙ length-map places (λ i. value.Int (pos i))

-- an item that is taken
taken_item : {X : Type 0} (d : X) (w : Validity) (items : List X) (places : List ℕ) (k : ℕ) → IsTrue (is_as_long w (length places)) → k < length places
    → get_or (taken_values d w items places) k d ≡ cond (valid_at w k) (get_or items (get_or places k 0) d) d
taken_item d NonNullable items places k e l = get_or-map (λ i. get_or items i d) places k 0 d l
taken_item d AllValid items places k e l = get_or-map (λ i. get_or items i d) places k 0 d l
taken_item d AllInvalid items places k e l =
    get_or-zip2 (λ place bit. cond bit (get_or items place d) d) places (replicate (length places) false) k 0 false d l (rw length-replicate l)
    ∙ ap (λ b. cond b (get_or items (get_or places k 0) d) d) (get_or-replicate (length places) k false false l)
taken_item d (Bits set) items places k e l = get_or-zip2 (λ place bit. cond bit (get_or items place d) d) places set k 0 false d l (omega (arith, l, long_bits set (length places) e))

-- as many are taken as there are places
length_taken_values : {X : Type 0} (d : X) (w : Validity) (items : List X) (places : List ℕ) → IsTrue (is_as_long w (length places)) → length (taken_values d w items places) ≡ length places
length_taken_values d NonNullable items places e = length-map places (λ i. get_or items i d)
length_taken_values d AllValid items places e = length-map places (λ i. get_or items i d)
length_taken_values d AllInvalid items places e = length-taken_or d items places (replicate (length places) false) (sym (length-replicate (length places) false))
length_taken_values d (Bits set) items places e = length-taken_or d items places set (sym (long_bits set (length places) e))

-- a place that is not null is below what all of those are
pub place-below : (n : ℕ) (w : Validity) (places : List ℕ) (k : ℕ) → PlacesBelow n w places → k < length places → valid_at w k ≡ true → get_or places k 0 < n
place-below n NonNullable places k h l s = h k 0 l
place-below n AllValid places k h l s = h k 0 l
place-below n AllInvalid places k h l s = absurd (false≢true s)
place-below n (Bits set) places k h l s = h k l s

-- items at places of which none is null
pub present-taken : {X : Type 0} (d : X) (w : Validity) (items : List X) (places : List ℕ) → (w ≡ NonNullable) ⊎ (w ≡ AllValid) → map (λ i. get_or items i d) places ≡ taken_values d w items places
present-taken d w items places (inl e) = rw e refl
present-taken d w items places (inr e) = rw e refl

-- at each place that is not null the item there is taken
pub are-taken : {X : Type 0} (d : X) (w : Validity) (items : List X) (places : List ℕ) → IsTrue (is_as_long w (length places)) → PlacesBelow (length items) w places → AreTaken w places items (taken_values d w items places)
are-taken d w items places e h = record {
  same_length = length_taken_values d w items places e;
  there = λ k l s.
      slice_get-get_or (taken_values d w items places) k d (omega (arith, l, length_taken_values d w items places e))
      ∙ ap (λ x. Some x) (taken_item d w items places k e l ∙ ap (λ b. cond b (get_or items (get_or places k 0) d) d) s)
      ∙ sym (slice_get-get_or items (get_or places k 0) d (place-below (length items) w places k h l s));
}

-- and so of items that are read in another way
pub are-taken-map : {X Y : Type 0} (f : X → Y) (w : Validity) (places : List ℕ) (items taken : List X) → AreTaken w places items taken → AreTaken w places (map f items) (map f taken)
are-taken-map f w places items taken h = record {
  same_length = length-map taken f ∙ h.same_length;
  there = λ k l s. slice_get-map f taken k ∙ ap (option_map f) (h.there k l s) ∙ sym (slice_get-map f items (get_or places k 0));
}

-- a validity that is as long as places is as long as their numbers
pub long-places : {P : Type 0} (f : P → ℕ) (w : Validity) (places : List P) → IsTrue (is_as_long w (length places)) → IsTrue (is_as_long w (length (map f places)))
long-places f w places e = rw (length-map places f) e

-- so what is taken of items is taken of what they are read as
pub are-taken-read : {X Y P : Type 0} (f : X → Y) (place : P → ℕ) (d : X) (w : Validity) (items taken : List X) (places : List P) → IsTrue (is_as_long w (length places)) → PlacesBelow (length items) w (map place places) → taken ≡ taken_values d w items (map place places)
    → AreTaken w (map place places) (map f items) (map f taken)
are-taken-read f place d w items taken places e h is =
    are-taken-map f w (map place places) items taken (subst (λ xs. AreTaken w (map place places) items xs) (sym is) (are-taken d w items (map place places) (long-places place w places e) h))

-- and what holds of all items and of the default holds of all that are taken
pub all-taken : {X : Type 0} (P : X → Type 0) (d : X) (w : Validity) (items : List X) (places : List ℕ) → IsTrue (is_as_long w (length places)) → P d → All P items → All P (taken_values d w items places)
all-taken P d w items places e p h = All-from_get_or P (taken_values d w items places) d (λ k l. subst P (sym (taken_item d w items places k e (omega (arith, l, length_taken_values d w items places e)))) (where_valid (valid_at w k) (get_or places k 0)))
  where
    by_place : (i : ℕ) → (i < length items) ⊎ (length items ≤ i) → P (get_or items i d)
    by_place i (inl l) = All-get_or P items i d l h
    by_place i (inr l) = subst P (sym (get_or_past items i d l)) p

    where_valid : (b : Bool) (i : ℕ) → P (cond b (get_or items i d) d)
    where_valid true i = by_place i (cases_lt i (length items))
    where_valid false i = p

nullable_valid : (v : Validity) (k : ℕ) → valid_at (nullable_validity v) k ≡ valid_at v k
nullable_valid NonNullable k = refl
nullable_valid AllValid k = refl
nullable_valid AllInvalid k = refl
nullable_valid (Bits bits) k = refl

as_it_is : (b : Bool) → b ≡ cond b true false
as_it_is true = refl
as_it_is false = refl

-- a row that is taken is not null where its place is not, nor the row there
taken_valid : (w v : Validity) (places : List ℕ) (k : ℕ) → IsTrue (is_as_long w (length places)) → k < length places → valid_at (taken_validity w places v) k ≡ cond (valid_at w k) (valid_at v (get_or places k 0)) false
taken_valid w NonNullable places k e l = as_it_is (valid_at w k)
taken_valid w AllValid places k e l = nullable_valid w k ∙ as_it_is (valid_at w k)
taken_valid w AllInvalid places k e l = sym (always (valid_at w k) false)
taken_valid w (Bits bits) places k e l = taken_item false w bits places k e l

-- the validity at places is as long as they are
pub taken-long : (w v : Validity) (places : List ℕ) → IsTrue (is_as_long w (length places)) → IsTrue (is_as_long (taken_validity w places v) (length places))
taken-long w NonNullable places e = e
taken-long w AllValid places e = nullable-long w (length places) ∙ e
taken-long w AllInvalid places e = refl
taken-long w (Bits bits) places e = eq-eqb (length (taken_values false w bits places)) (length places) (length_taken_values false w bits places e)

taken_row : (w v : Validity) (places : List ℕ) (xs ys : List Value) (k : ℕ) → IsTrue (is_as_long w (length places)) → AreTaken w places xs ys → k < length places
    → get_or (rows_under (taken_validity w places v) ys) k None ≡ get_or (map (row_at (rows_under v xs)) (index_rows w places)) k None
taken_row w v places xs ys k e h l =
    row-get (taken_validity w places v) ys k
    ∙ ap (λ b. cond b (slice_get ys k) None) (taken_valid w v places k e l)
    ∙ by_bit (valid_at w k) (valid_at v (get_or places k 0)) (slice_get ys k) (slice_get xs (get_or places k 0)) (h.there k l)
    ∙ ap (λ r. cond (valid_at w k) r None) (sym (row-get v xs (get_or places k 0)))
    ∙ sym (taken-at (rows_under v xs) w places k l)
  where
    by_bit : (b u : Bool) (y x : Option Value) → (b ≡ true → y ≡ x) → cond (cond b u false) y None ≡ cond b (cond u x None) None
    by_bit true u y x same = ap (λ z. cond u z None) (same refl)
    by_bit false u y x same = refl

-- the type of rows that indices take
taken_nulls : (t : Nullability → DType) (v w : Validity) (places : List ℕ) → ((m n : Nullability) → t n ≡ with_nullability n (t m)) → t (nullability_of (taken_validity w places v)) ≡ taken_type w (t (nullability_of v))
taken_nulls t NonNullable NonNullable places alike = refl
taken_nulls t AllValid NonNullable places alike = refl
taken_nulls t AllInvalid NonNullable places alike = refl
taken_nulls t (Bits bits) NonNullable places alike = refl
taken_nulls t v w places alike = alike (nullability_of v) nulls.Nullable

-- what indices take of a plain array is what they take of its values and of its validity
pub taken-column : {X : Type 0} (type_of : X → Nullability → DType) (items : X → List Value) (a : PlainParts X) (values : X) (w : Validity) (places : List ℕ)
    → ((m n : Nullability) → type_of a.values n ≡ with_nullability n (type_of a.values m)) → IsTrue (is_as_long w (length places)) → ((n : Nullability) → type_of values n ≡ type_of a.values n) → AreTaken w places (items a.values) (items values)
    → plain_column type_of items (record { values = values; validity = taken_validity w places a.validity }) ≡ taken (index_column w places) (plain_column type_of items a)
taken-column type_of items a values w places alike e same h =
    let many : length (rows_under (taken_validity w places a.validity) (items values)) ≡ length places =
    length-rows (taken_validity w places a.validity) (items values) (rw h.same_length (taken-long w a.validity places e)) ∙ h.same_length in
    same_column _ _ _ _
    (same (nullability_of (taken_validity w places a.validity)) ∙ taken_nulls (type_of a.values) a.validity w places alike)
    (ext_get_or None _ _ (many ∙ sym (length-taken (rows_under a.validity (items a.values)) w places e)) (λ k l. taken_row w a.validity places (items a.values) (items values) k e h (omega (arith, l, many))))

-- indices below n have places below n
pub places-below : (n : ℕ) (w : Validity) (places : List ℕ) → IsTrue (is_as_long w (length places)) → All (IndexBelow n) (index_column w places).rows → PlacesBelow n w places
places-below n w places e h = by_validity w e (λ k l s. subst (IndexBelow n) (index_at w places k l ∙ ap (λ b. cond b (Some (value.Int (pos (get_or places k 0)))) None) s) (h k None (inside k l)))
  where
    inside : (k : ℕ) → k < length places → k < length (index_rows w places)
    inside k l = omega (arith, l, length-rows w (map (λ i. value.Int (pos i)) places) (rw length-map e), length-map places (λ i. value.Int (pos i)))

    by_validity : (w : Validity) → IsTrue (is_as_long w (length places)) → ((k : ℕ) → k < length places → valid_at w k ≡ true → get_or places k 0 < n) → PlacesBelow n w places
    by_validity NonNullable e below = λ k d l. rw (get_or_default places k d 0 l) (below k l refl)
    by_validity AllValid e below = λ k d l. rw (get_or_default places k d 0 l) (below k l refl)
    by_validity AllInvalid e below = tt
    by_validity (Bits set) e below = below
