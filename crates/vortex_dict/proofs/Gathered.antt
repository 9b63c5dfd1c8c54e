-- Answers value by value, gathered by code.
use Rattle.std.proofs.Common.{ℕ, ◌≡◌, Bool, true, false, cond, List, length, map, replicate, refl, sym, ap, ◌∙◌, Option}
use Rattle.std.specs.Prelude.{IsTrue, option_map}
use Rattle.std.specs.Simd.Lanes.{zip2}
use Rattle.std.proofs.lemmas.List.{length-map}
use Rattle.std.proofs.lemmas.Simd.{map-map, zip2_splat}
use Rattle.vortex_array_types.specs.Row.{Column, TypedRow, is_nullable, nullability}
use Rattle.vortex_array_types.specs.Truth.{both}
use Rattle.vortex_array_types.specs.Typed.{same_apart_from_nullability}
use Rattle.vortex_array_types.specs.Widths.{nullable_form}
use Rattle.vortex_array_types.specs.declared.types.DType.{DType}
use Rattle.vortex_array_types.specs.declared.types.DType.TheVariants as dtype
use Rattle.vortex_array_types.specs.declared.types.Nullability.{Nullability}
use Rattle.vortex_array_types.specs.declared.types.Nullability.TheVariants as nulls
use Rattle.vortex_array_types.specs.declared.scalar.Value.{Value}
use Rattle.vortex_array_types.proofs.SameTypes.{nulls-with}
use Rattle.vortex_array_kinds.specs.Kinds.{constant_column}
use Rattle.vortex_array_kinds.specs.StringValues.{is_text_type}
use Rattle.vortex_array_kinds.specs.Truths.{either, truth_row}
use Rattle.vortex_array_kinds.proofs.TruthColumns.{same_column}
use Rattle.vortex_array_select.specs.Selected.{row_at}
use Rattle.vortex_array_compare.specs.Tested.{tested}
use Rattle.vortex_array.specs.Plain.{is_bool_type}
use Rattle.vortex_dict.specs.Answered.{tested as truths_of}
use Rattle.vortex_dict.specs.Decoded.{decoded}
use Rattle.vortex_dict.proofs.Decodings.{rows-read}

-- answers beside one row, as a map
pub beside : (test : Value → Value → Bool) (k : Option Value) (xs : List (Option Value)) (m : ℕ) → length xs ≡ m → map truth_row (zip2 (both test) xs (replicate m k)) ≡ map (λ x. truth_row (both test x k)) xs
beside test k xs m e = ap (map truth_row) (zip2_splat (both test) xs m k e) ∙ map-map truth_row (λ x. both test x k) xs

truth_type : (b : Bool) (t : DType) (q : Nullability) → cond b (nullable_form (dtype.Bool (either (nullability t) q))) (dtype.Bool (either (nullability t) q)) ≡ dtype.Bool (either (nullability (cond b (nullable_form t) t)) q)
truth_type true t q = ap (λ n. dtype.Bool (either n q)) (sym (nulls-with nulls.Nullable t))
truth_type false t q = refl

-- what a test says of each value and one row, gathered by code, is what it says of each row and that one
pub gathered-tested : (test : Value → Value → Bool) (codes values : Column) (k : TypedRow) (m n : ℕ) → length values.rows ≡ m → length codes.rows ≡ n
    → decoded codes (tested test values (constant_column (record { scalar = k; len = m }))) ≡ tested test (decoded codes values) (constant_column (record { scalar = k; len = n }))
gathered-tested test codes values k m n e f = same_column _ _ _ _
    (truth_type (is_nullable codes.dtype) values.dtype (nullability k.dtype))
    (ap (λ rs. map (row_at rs) codes.rows) (beside test k.value values.rows m e)
    ∙ rows-read (λ x. truth_row (both test x k.value)) refl values.rows codes.rows
    ∙ sym (beside test k.value (map (row_at values.rows) codes.rows) n (length-map codes.rows (row_at values.rows) ∙ f)))

-- what the truths of the values are, where the values and the rows beside them are known
pub value-truths : (test : Value → Value → Bool) (lent values beside_them : Column) (k : TypedRow) (m : ℕ) (answered : Column) → answered ≡ tested test lent beside_them → beside_them ≡ constant_column (record { scalar = k; len = m }) → lent ≡ values
    → answered ≡ tested test values (constant_column (record { scalar = k; len = m }))
value-truths test lent values beside_them k m answered is equal same =
    is
    ∙ ap (tested test lent) equal
    ∙ ap (λ c. tested test c (constant_column (record { scalar = k; len = m }))) same

-- there are as many answers as rows
pub length-tested : (test : Value → Value → Bool) (values : Column) (k : TypedRow) (m : ℕ) → length values.rows ≡ m → length (tested test values (constant_column (record { scalar = k; len = m }))).rows ≡ length values.rows
length-tested test values k m e = ap length (beside test k.value values.rows m e) ∙ length-map values.rows (λ x. truth_row (both test x k.value))

bare_type : (b : Bool) (t : DType) → cond b (nullable_form (dtype.Bool (nullability t))) (dtype.Bool (nullability t)) ≡ dtype.Bool (nullability (cond b (nullable_form t) t))
bare_type true t = ap (λ n. dtype.Bool n) (sym (nulls-with nulls.Nullable t))
bare_type false t = refl

-- and so the truths of a test
pub gathered-truths : (truth : Value → Bool) (codes values : Column) → decoded codes (truths_of truth values) ≡ truths_of truth (decoded codes values)
gathered-truths truth codes values = same_column _ _ _ _
    (bare_type (is_nullable codes.dtype) values.dtype)
    (ap (λ rs. map (row_at rs) codes.rows) (map-map truth_row (option_map truth) values.rows)
    ∙ rows-read (λ x. truth_row (option_map truth x)) refl values.rows codes.rows
    ∙ sym (map-map truth_row (option_map truth) (map (row_at values.rows) codes.rows)))

-- a type with nulls or without is the same apart from them
pub same-kind : (b : Bool) (t u : DType) → same_apart_from_nullability (cond b (nullable_form t) t) u ≡ same_apart_from_nullability t u
same-kind false t u = refl
same-kind true (dtype.Bool n) u = bool_kind u
  where
    bool_kind : (u : DType) → same_apart_from_nullability (dtype.Bool nulls.Nullable) u ≡ same_apart_from_nullability (dtype.Bool n) u
    bool_kind (dtype.Bool m) = refl
    bool_kind u = refl
same-kind true (dtype.Primitive w n) u = number_kind u
  where
    number_kind : (u : DType) → same_apart_from_nullability (dtype.Primitive w nulls.Nullable) u ≡ same_apart_from_nullability (dtype.Primitive w n) u
    number_kind (dtype.Primitive v m) = refl
    number_kind u = refl
same-kind true (dtype.Decimal d n) u = decimal_kind u
  where
    decimal_kind : (u : DType) → same_apart_from_nullability (dtype.Decimal d nulls.Nullable) u ≡ same_apart_from_nullability (dtype.Decimal d n) u
    decimal_kind (dtype.Decimal e m) = refl
    decimal_kind u = refl
same-kind true (dtype.Utf8 n) u = text_kind u
  where
    text_kind : (u : DType) → same_apart_from_nullability (dtype.Utf8 nulls.Nullable) u ≡ same_apart_from_nullability (dtype.Utf8 n) u
    text_kind (dtype.Utf8 m) = refl
    text_kind u = refl
same-kind true (dtype.Binary n) u = bytes_kind u
  where
    bytes_kind : (u : DType) → same_apart_from_nullability (dtype.Binary nulls.Nullable) u ≡ same_apart_from_nullability (dtype.Binary n) u
    bytes_kind (dtype.Binary m) = refl
    bytes_kind u = refl

pub text-kind : (b : Bool) (t : DType) → is_text_type (cond b (nullable_form t) t) ≡ is_text_type t
text-kind false t = refl
text-kind true (dtype.Bool n) = refl
text-kind true (dtype.Primitive w n) = refl
text-kind true (dtype.Decimal d n) = refl
text-kind true (dtype.Utf8 n) = refl
text-kind true (dtype.Binary n) = refl

-- truth values at codes are truth values
pub bools-taken : (b : Bool) (n : Nullability) → IsTrue (is_bool_type (cond b (nullable_form (dtype.Bool n)) (dtype.Bool n)))
bools-taken true n = refl
bools-taken false n = refl
