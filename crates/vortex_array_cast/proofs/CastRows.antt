-- Rows under a validity that is written anew, and rows that fit a type.
use Rattle.std.proofs.Common.{ℕ, ◌<◌, ◌≡◌, Bool, true, false, ◌||◌, List, length, get_or, refl, sym, ap, subst, ◌∙◌, arith, None, Some}
use Rattle.std.specs.Prelude.{◌==◌, IsTrue, cond, count_by}
use Rattle.std.specs.List.{list_all}
use Rattle.std.proofs.lemmas.Bool.{false≢true}
use Rattle.std.proofs.lemmas.List.{ext_get_or}
use Rattle.std.proofs.lemmas.List.Elements.{All-from_get_or}
use Rattle.std.proofs.lemmas.List.Sums.{AllPass-from_list_all}
use Rattle.vortex_buffer.proofs.Counts.{all_counted}
use Rattle.vortex_array_types.specs.Row.{Column, fits_type, is_nullable, nullability, value_fits}
use Rattle.vortex_array_types.specs.Widths.{with_nullability}
use Rattle.vortex_array_types.specs.declared.types.DType.{DType}
use Rattle.vortex_array_types.specs.declared.types.Nullability.{Nullability}
use Rattle.vortex_array_types.specs.declared.types.Nullability.TheVariants as nulls
use Rattle.vortex_array_types.specs.declared.scalar.Value.{Value}
use Rattle.vortex_array_types.specs.declared.scalar.Value.TheVariants as value
use Rattle.vortex_array_types.proofs.SameTypes.{with-own}
use Rattle.vortex_array_kinds.specs.Kinds.{plain_column}
use Rattle.vortex_array_kinds.specs.Parts.{PlainParts}
use Rattle.vortex_array_kinds.specs.Validities.{row_of, rows_under, is_as_long, valid_at, nullability_of, nullable_validity}
use Rattle.vortex_array_kinds.specs.declared.validity.Validity.{Validity}
use Rattle.vortex_array_kinds.specs.declared.validity.Validity.TheVariants.{NonNullable, AllValid, AllInvalid, Bits}
use Rattle.vortex_array_kinds.proofs.RowLemmas.{length-rows, long_bits, nullable-long, nullable-type, row-here}
use Rattle.vortex_array_kinds.proofs.TruthColumns.{same_column}
use Rattle.vortex_array_cast.specs.declared.errors.CastError.TheVariants.{HasNull, DoesNotFit}
use Rattle.vortex_array_cast.specs.Casts.{AllFit, AreCast, RefusesCast, StopsAt, cast_column, validity_with}

fits_row : (t : DType) (x : Value) (b : Bool) → IsTrue (value_fits t x) → IsTrue (b || is_nullable t) → IsTrue (fits_type t (row_of x b))
fits_row t x true h k = h
fits_row t x false h k = k

-- all rows fit where all values do, and null does or no row is null
pub all-fit : (t : DType) (v : Validity) (xs : List Value) (n : ℕ) → length xs ≡ n → IsTrue (is_as_long v n) → IsTrue (list_all (value_fits t) xs) → ((i : ℕ) → i < n → IsTrue (valid_at v i || is_nullable t)) → AllFit t (rows_under v xs)
all-fit t v xs n e long fit known =
    let d : Value = value.Bool true in
    let as_long : IsTrue (is_as_long v (length xs)) = rw e long in
    All-from_get_or (λ row. IsTrue (fits_type t row)) (rows_under v xs) None
    (λ i l.
    let inside : i < length xs = omega (arith, l, length-rows v xs as_long) in
    subst (λ row. IsTrue (fits_type t row)) (row-here v xs i d as_long inside)
    (fits_row t (get_or xs i d) (valid_at v i) (AllPass-from_list_all (value_fits t) xs fit i d inside) (known i (omega (arith, inside, e)))))

-- bits of which so many are set as there are say of no row that it is null
pub counted-valid : (bits : List Bool) (n : ℕ) (b : Bool) → IsTrue (is_as_long (Bits bits) n) → IsTrue (count_by (λ bit. bit) bits == length bits) → (i : ℕ) → i < n → IsTrue (get_or bits i false || b)
counted-valid bits n b long all i l = rw (AllPass-from_list_all (λ bit. bit) bits (sym (all_counted bits) ∙ all) i false (omega (arith, l, long_bits bits n long))) refl

-- why a cast is refused at a row that does not fit
pub stops : (t : DType) (c : Column) (i : ℕ) (is_value : Bool) → StopsAt t c i is_value → RefusesCast t c (cond is_value (DoesNotFit i) (HasNull i))
stops t c i true h = h
stops t c i false h = h

-- a validity that is written anew has the same length
long_with : (n : Nullability) (v : Validity) (len : ℕ) → IsTrue (is_as_long v len) → IsTrue (is_as_long (validity_with n v) len)
long_with nulls.NonNullable v len e = refl
long_with nulls.Nullable v len e = nullable-long v len ∙ e

-- it makes a type with nulls or without
type_with : (n : Nullability) (v : Validity) → nullability_of (validity_with n v) ≡ n
type_with nulls.NonNullable v = refl
type_with nulls.Nullable v = nullable-type v

nullable_valid : (v : Validity) (i : ℕ) → valid_at (nullable_validity v) i ≡ valid_at v i
nullable_valid NonNullable i = refl
nullable_valid AllValid i = refl
nullable_valid AllInvalid i = refl
nullable_valid (Bits bits) i = refl

-- null stands in no type without nulls
no_null : (t : DType) → nullability t ≡ nulls.NonNullable → is_nullable t ≡ false
no_null t e = rw e refl

-- a row that fits is the same where it is cast
cast_row : (t : DType) (v : Validity) (i : ℕ) (x y : Value) (n : Nullability) (b : Bool) → nullability t ≡ n → valid_at v i ≡ b → IsTrue (fits_type t (row_of x b)) → (IsTrue (value_fits t x) → y ≡ x) → row_of y (valid_at (validity_with n v) i) ≡ row_of x b
cast_row t v i x y nulls.NonNullable true e g h same = ap (λ z. Some z) (same h)
cast_row t v i x y nulls.NonNullable false e g h same = absurd (false≢true (sym (no_null t e) ∙ h))
cast_row t v i x y nulls.Nullable true e g h same = rw (nullable_valid v i, g) (ap (λ z. Some z) (same h))
cast_row t v i x y nulls.Nullable false e g h same = rw (nullable_valid v i, g) refl

-- rows that fit are the same where they are cast
cast_rows : (t : DType) (v : Validity) (xs ys : List Value) → length ys ≡ length xs → IsTrue (is_as_long v (length xs)) → AreCast (value_fits t) xs ys → AllFit t (rows_under v xs) → rows_under (validity_with (nullability t) v) ys ≡ rows_under v xs
cast_rows t v xs ys n long cast fit =
    let d : Value = value.Bool true in
    let w : Validity = validity_with (nullability t) v in
    let as_long : IsTrue (is_as_long w (length ys)) = rw n (long_with (nullability t) v (length xs) long) in
    ext_get_or None (rows_under w ys) (rows_under v xs) (length-rows w ys as_long ∙ n ∙ sym (length-rows v xs long))
    (λ i l.
    let inside : i < length ys = omega (arith, l, length-rows w ys as_long) in
    let there : i < length xs = omega (arith, inside, n) in
    let here = row-here v xs i d long there in
    sym (row-here w ys i d as_long inside)
    ∙ cast_row t v i (get_or xs i d) (get_or ys i d) (nullability t) (valid_at v i) refl refl (subst (λ row. IsTrue (fits_type t row)) (sym here) (fit i None (omega (arith, there, length-rows v xs long)))) (cast.same i d inside)
    ∙ here)

-- a plain array of values that are cast, all of whose rows fit, is the column cast
pub cast-plain : {X : Type 0} (type_of : X → Nullability → DType) (items : X → List Value) (a : PlainParts X) (made : X) (t : DType) → length (items made) ≡ length (items a.values) → IsTrue (is_as_long a.validity (length (items a.values)))
    → ((n : Nullability) → type_of made n ≡ with_nullability n t) → AreCast (value_fits t) (items a.values) (items made) → AllFit t (rows_under a.validity (items a.values))
    → plain_column type_of items (record { values = made; validity = validity_with (nullability t) a.validity }) ≡ cast_column t (plain_column type_of items a)
cast-plain type_of items a made t n long typed cast fit =
    same_column _ _ _ _ (ap (type_of made) (type_with (nullability t) a.validity) ∙ typed (nullability t) ∙ with-own t) (cast_rows t a.validity (items a.values) (items made) n long cast fit)
