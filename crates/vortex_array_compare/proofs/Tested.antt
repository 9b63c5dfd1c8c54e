-- Bits that answer pairs of values, as columns.
use Rattle.std.proofs.Common.{ℕ, zero, suc, ◌≡◌, Bool, true, false, ◌&&◌, List, [], ◌∷◌, length, map, refl, sym, ap, ◌∙◌, Option, Some, None}
use Rattle.std.specs.Prelude.{IsTrue, replicate}
use Rattle.std.specs.Simd.Lanes.{zip2}
use Rattle.std.proofs.lemmas.List.{length-map, length-replicate, map-id}
use Rattle.std.proofs.lemmas.Simd.{length-zip2}
use Rattle.vortex_array_types.specs.Row.{Column, nullability, value_fits}
use Rattle.vortex_array_types.specs.Truth.{both}
use Rattle.vortex_array_types.specs.Typed.{same_apart_from_nullability}
use Rattle.vortex_array_types.specs.Widths.{with_nullability}
use Rattle.vortex_array_types.specs.declared.types.DType.{DType}
use Rattle.vortex_array_types.specs.declared.types.DType.TheVariants as dtype
use Rattle.vortex_array_types.specs.declared.types.Nullability.{Nullability}
use Rattle.vortex_array_types.specs.declared.types.Nullability.TheVariants as nulls
use Rattle.vortex_array_types.specs.declared.scalar.Value.{Value}
use Rattle.vortex_array_types.specs.declared.scalar.Value.TheVariants as value
use Rattle.vortex_array_types.proofs.SameTypes.{fits-with, nulls-with}
use Rattle.vortex_array_kinds.specs.Kinds.{bool_column, plain_column}
use Rattle.vortex_array_kinds.specs.Parts.{PlainParts}
use Rattle.vortex_array_kinds.specs.Truths.{BothValid, either, either_column, truth_row, truths}
use Rattle.vortex_array_kinds.specs.Validities.{is_as_long, nullability_of, row_of, rows_under, valid_bits}
use Rattle.vortex_array_kinds.specs.declared.validity.Validity.{Validity}
use Rattle.vortex_array_kinds.proofs.TruthColumns.{truth-column}
use Rattle.vortex_array_kinds.proofs.TruthRows.{cons_same, rows-present, truth_rows}
use Rattle.vortex_array_kinds.proofs.RowLemmas.{rows-counted}
use Rattle.vortex_array_compare.specs.Repeated.{repeated}
pub use Rattle.vortex_array_compare.specs.Tested.{tested}

-- a column whose rows are values, null where the validity says so
pub record Side (xs : List Value) (v : Validity) (a : Column) : Type 0 where
  pub long : IsTrue (is_as_long v (length xs))
  pub rows : a.rows ≡ zip2 row_of xs (valid_bits v (length xs))
  pub nulls : nullability_of v ≡ nullability a.dtype

tested_row : (test : Value → Value → Bool) (x y : Value) (p q : Bool) → row_of (value.Bool (test x y)) (p && q) ≡ truth_row (both test (row_of x p) (row_of y q))
tested_row test x y true true = refl
tested_row test x y true false = refl
tested_row test x y false true = refl
tested_row test x y false false = refl

tested_rows : (test : Value → Value → Bool) (xs ys : List Value) (ps qs : List Bool)
    → truth_rows (zip2 test xs ys) (zip2 ◌&&◌ ps qs) ≡ map truth_row (zip2 (both test) (zip2 row_of xs ps) (zip2 row_of ys qs))
tested_rows test [] ys ps qs = refl
tested_rows test (x ∷ xs) [] [] qs = refl
tested_rows test (x ∷ xs) [] (p ∷ ps) qs = refl
tested_rows test (x ∷ xs) (y ∷ ys) [] qs = refl
tested_rows test (x ∷ xs) (y ∷ ys) (p ∷ ps) [] = refl
tested_rows test (x ∷ xs) (y ∷ ys) (p ∷ ps) (q ∷ qs) = cons_same _ _ _ _ (tested_row test x y p q) (tested_rows test xs ys ps qs)

-- bits that say of each pair what the test says, with the validity of both, are the tested column
pub tested-column : (test : Value → Value → Bool) (xs ys : List Value) (va vb : Validity) (a b : Column) → Side xs va a → Side ys vb b → length xs ≡ length ys
    → (bits : List Bool) (v : Validity) (made : PlainParts (List Bool)) → made ≡ record { values = bits; validity = v } → bits ≡ zip2 test xs ys → BothValid (length bits) va vb v → bool_column made ≡ tested test a b
tested-column test xs ys va vb a b sa sb e bits v made parts is valid =
    let n : length bits ≡ length xs = ap length is ∙ length-zip2 test xs ys e in
    let here : BothValid (length xs) va vb v = rw n at valid in
    let ps : List Bool = valid_bits va (length xs) in
    let qs : List Bool = valid_bits vb (length xs) in
    rw parts (truth-column bits v (length xs) (either_column a b) (zip2 (both test) a.rows b.rows) (zip2 ◌&&◌ ps qs) n
    (here.nulls ∙ ap (λ k. either k (nullability_of vb)) sa.nulls ∙ ap (either (nullability a.dtype)) sb.nulls)
    here.present
    (ap (λ bs. truth_rows bs (zip2 ◌&&◌ ps qs)) is
    ∙ tested_rows test xs ys ps qs
    ∙ ap (λ rows. map truth_row (zip2 (both test) rows (zip2 row_of ys qs))) (sym sa.rows)
    ∙ ap (λ k. map truth_row (zip2 (both test) a.rows (zip2 row_of ys (valid_bits vb k)))) e
    ∙ ap (λ rows. map truth_row (zip2 (both test) a.rows rows)) (sym sb.rows)))

rows_valid : (v : Validity) (xs : List Value) → rows_under v xs ≡ zip2 row_of xs (valid_bits v (length xs))
rows_valid v xs = ap (rows_under v) (sym (map-id xs)) ∙ rows-present (λ x. x) v xs

-- what is known of the values that a plain array keeps: types that differ by nothing but their nulls, and a count
pub record Laws {X : Type 0} (type_of : X → Nullability → DType) (items : X → List Value) (count_of : X → ℕ) : Type 0 where
  pub counted : (x : X) → length (items x) ≡ count_of x
  pub alike : (x : X) (m n : Nullability) → type_of x n ≡ with_nullability n (type_of x m)

-- a plain array
pub plain-side : {X : Type 0} (type_of : X → Nullability → DType) (items : X → List Value) (count_of : X → ℕ) → Laws type_of items count_of
    → (a : PlainParts X) → IsTrue (is_as_long a.validity (count_of a.values)) → Side (items a.values) a.validity (plain_column type_of items a)
plain-side type_of items count_of law a long = record {
  long = rw (law.counted a.values) long;
  rows = rows_valid a.validity (items a.values);
  nulls = let n : Nullability = nullability_of a.validity in sym (ap nullability (law.alike a.values n n) ∙ nulls-with n (type_of a.values n));
}

-- there are as many rows as values
pub plain-rows : {X : Type 0} (type_of : X → Nullability → DType) (items : X → List Value) (count_of : X → ℕ) → Laws type_of items count_of
    → (a : PlainParts X) → IsTrue (is_as_long a.validity (count_of a.values)) → length (plain_column type_of items a).rows ≡ count_of a.values
plain-rows type_of items count_of law a long = rows-counted a.validity (items a.values) (count_of a.values) (law.counted a.values) long

equal_rows : (x : Value) (n : ℕ) → replicate n (Some x) ≡ zip2 row_of (replicate n x) (replicate n true)
equal_rows x zero = refl
equal_rows x (suc n) = ap (λ rows. Some x ∷ rows) (equal_rows x n)

-- a validity without a null, of a type with nulls or without
pub record Full (n : Nullability) (v : Validity) : Type 0 where
  pub kind : nullability_of v ≡ n
  pub present : (m : ℕ) → valid_bits v m ≡ replicate m true
  pub long : (m : ℕ) → IsTrue (is_as_long v m)

-- a value in each row
pub repeated-side : (x : Value) (n : ℕ) (t : DType) (v : Validity) → Full (nullability t) v → Side (replicate n x) v (repeated t x n)
repeated-side x n t v full = record {
  long = full.long (length (replicate n x));
  rows =
      equal_rows x n
      ∙ ap (λ m. zip2 row_of (replicate n x) (replicate m true)) (sym (length-replicate n x))
      ∙ ap (zip2 row_of (replicate n x)) (sym (full.present (length (replicate n x))));
  nulls = full.kind;
}

same_left : (s t : DType) (n : Nullability) → same_apart_from_nullability (with_nullability n s) t ≡ same_apart_from_nullability s t
same_left (dtype.Bool m) t n = refl
same_left (dtype.Primitive p m) t n = refl
same_left (dtype.Decimal d m) t n = refl
same_left (dtype.Utf8 m) t n = refl
same_left (dtype.Binary m) t n = refl

same_right : (s t : DType) (n : Nullability) → same_apart_from_nullability s (with_nullability n t) ≡ same_apart_from_nullability s t
same_right (dtype.Bool k) (dtype.Bool m) n = refl
same_right (dtype.Primitive p k) (dtype.Primitive q m) n = refl
same_right (dtype.Decimal d k) (dtype.Decimal e m) n = refl
same_right (dtype.Utf8 k) (dtype.Utf8 m) n = refl
same_right (dtype.Binary k) (dtype.Binary m) n = refl
same_right s t n = refl

-- types that are the same apart from nullability are so without their nulls
pub bare-types : {X : Type 0} (type_of : X → Nullability → DType) (items : X → List Value) (count_of : X → ℕ) → Laws type_of items count_of → (x y : X) (m n : Nullability)
    → IsTrue (same_apart_from_nullability (type_of x m) (type_of y n)) → IsTrue (same_apart_from_nullability (type_of x nulls.NonNullable) (type_of y nulls.NonNullable))
bare-types type_of items count_of law x y m n same =
    rw (law.alike x m nulls.NonNullable, law.alike y n nulls.NonNullable, same_left (type_of x m) (with_nullability nulls.NonNullable (type_of y n)) nulls.NonNullable, same_right (type_of x m) (type_of y n) nulls.NonNullable) same

-- a value that fits does so without nulls
pub bare-fits : {X : Type 0} (type_of : X → Nullability → DType) (items : X → List Value) (count_of : X → ℕ) → Laws type_of items count_of → (x : X) (n : Nullability) (v : Value)
    → IsTrue (value_fits (type_of x n) v) → IsTrue (value_fits (type_of x nulls.NonNullable) v)
bare-fits type_of items count_of law x n v fits = rw (law.alike x n nulls.NonNullable, fits-with nulls.NonNullable (type_of x n) v) fits

-- there are as many answers as values of each of two lists
pub counted-each : (test : Value → Value → Bool) (xs ys : List Value) (n : ℕ) (bits : List Bool) → length xs ≡ n → length ys ≡ n → bits ≡ zip2 test xs ys → length bits ≡ n
counted-each test xs ys n bits e f is = ap length is ∙ length-zip2 test xs ys (e ∙ sym f) ∙ e

-- and as values of a list that are asked alone
pub counted-with : (test : Value → Bool) (xs : List Value) (n : ℕ) (bits : List Bool) → length xs ≡ n → bits ≡ map test xs → length bits ≡ n
counted-with test xs n bits e is = ap length is ∙ length-map xs test ∙ e

-- two plain arrays of as many rows keep as many values
pub same-count : {X : Type 0} (type_of : X → Nullability → DType) (items : X → List Value) (count_of : X → ℕ) → Laws type_of items count_of → (a b : PlainParts X)
    → IsTrue (is_as_long a.validity (count_of a.values)) → IsTrue (is_as_long b.validity (count_of b.values)) → length (plain_column type_of items a).rows ≡ length (plain_column type_of items b).rows → count_of a.values ≡ count_of b.values
same-count type_of items count_of law a b ka kb e = sym (plain-rows type_of items count_of law a ka) ∙ e ∙ plain-rows type_of items count_of law b kb

either_turned : (m n : Nullability) → either m n ≡ either n m
either_turned nulls.NonNullable nulls.NonNullable = refl
either_turned nulls.NonNullable nulls.Nullable = refl
either_turned nulls.Nullable nulls.NonNullable = refl
either_turned nulls.Nullable nulls.Nullable = refl

row_turned : (f g : Value → Value → Bool) → ((x y : Value) → f y x ≡ g x y) → (x y : Option Value) → both f y x ≡ both g x y
row_turned f g h None None = refl
row_turned f g h None (Some y) = refl
row_turned f g h (Some x) None = refl
row_turned f g h (Some x) (Some y) = ap (λ t. Some t) (h x y)

rows_turned : (f g : Value → Value → Bool) → ((x y : Value) → f y x ≡ g x y) → (xs ys : List (Option Value)) → zip2 (both f) ys xs ≡ zip2 (both g) xs ys
rows_turned f g h [] [] = refl
rows_turned f g h [] (y ∷ ys) = refl
rows_turned f g h (x ∷ xs) [] = refl
rows_turned f g h (x ∷ xs) (y ∷ ys) = ap (λ t. t ∷ zip2 (both f) ys xs) (row_turned f g h x y) ∙ ap (λ rest. both g x y ∷ rest) (rows_turned f g h xs ys)

-- a test of the sides changed is the test turned round
pub tested-turned : (f g : Value → Value → Bool) → ((x y : Value) → f y x ≡ g x y) → (a b : Column) → tested f b a ≡ tested g a b
tested-turned f g h a b =
    ap (λ k. truths k (zip2 (both f) b.rows a.rows)) (either_turned (nullability b.dtype) (nullability a.dtype)) ∙ ap (truths (either_column a b)) (rows_turned f g h a.rows b.rows)
