-- Casts of a most significant part, as casts of the decimals.
use Rattle.std.proofs.Common.{ℕ, zero, suc, ◌<◌, ◌≡◌, false, List, [], ◌∷◌, length, get_or, map, refl, sym, ap, subst, ◌∙◌, arith, Option, Some, None}
use Rattle.std.specs.Prelude.{ℤ, IsTrue, IsFalse, is_some}
use Rattle.std.specs.List.{AllZip}
use Rattle.std.specs.Simd.Lanes.{zip2}
use Rattle.std.proofs.lemmas.List.{get_or_default, length-map}
use Rattle.vortex_array_types.specs.Digits.{Digits}
use Rattle.vortex_array_types.specs.Row.{Column, fits_type, is_nullable, nullability}
use Rattle.vortex_array_types.specs.Widths.{with_nullability}
use Rattle.vortex_array_types.specs.declared.types.DType.{DType}
use Rattle.vortex_array_types.specs.declared.types.DType.TheVariants as dtype
use Rattle.vortex_array_types.specs.declared.types.Nullability.{Nullability}
use Rattle.vortex_array_types.specs.declared.scalar.Value.{Value}
use Rattle.vortex_array_types.specs.declared.scalar.Value.TheVariants as value
use Rattle.vortex_array_cast.specs.Casts.{AllFit, FirstUnfit}
use Rattle.vortex_array_types.proofs.SameTypes.{nulls-with}
use Rattle.vortex_array_kinds.proofs.RowLemmas.{column_with}
use Rattle.vortex_array.specs.declared.arrays.Array.{Array}
use Rattle.vortex_array.specs.ColumnOf.{column_of}
use Rattle.vortex_decimal_byte_parts.specs.Asked.{RefusesNull}
use Rattle.vortex_decimal_byte_parts.specs.Checked.{are_parts, is_lower_type, is_msp_type}
use Rattle.vortex_decimal_byte_parts.specs.Columns.{one_row, two_rows}
use Rattle.vortex_decimal_byte_parts.specs.Held.{Each, Holds}
use Rattle.vortex_decimal_byte_parts.specs.declared.errors.PartsCastError.{PartsCastError}
use Rattle.vortex_decimal_byte_parts.specs.declared.errors.PartsCastError.TheVariants.{HasNull, OutOfMemory}
use Rattle.vortex_decimal_byte_parts.proofs.AskedRows.{IsDecimal, parts-decimal}
use Rattle.vortex_decimal_byte_parts.proofs.HeldRows.{ones-present}
use Rattle.vortex_decimal_byte_parts.proofs.PartColumns.{parts_of, two-parts}
use Rattle.vortex_decimal_byte_parts.proofs.TwoParts.{TwoHeld, two-present}

present_at : (rows : List (Option Value)) (i : ℕ) → get_or (map is_some rows) i false ≡ is_some (get_or rows i None)
present_at [] i = refl
present_at (r ∷ rows) zero = refl
present_at (r ∷ rows) (suc i) = present_at rows i

decimal_at : (rows : List (Option Value)) (i : ℕ) → Each IsDecimal rows → IsDecimal (get_or rows i None)
decimal_at [] i h = tt
decimal_at (r ∷ rows) zero h = h.0
decimal_at (r ∷ rows) (suc i) h = decimal_at rows i h.1

-- rows that are null alike, of which the others are decimals
record Alike (rows decimals : List (Option Value)) : Type 0 where
  present : map is_some decimals ≡ map is_some rows
  decimal : Each IsDecimal decimals

long_alike : (rows decimals : List (Option Value)) → Alike rows decimals → length decimals ≡ length rows
long_alike rows decimals a = sym (length-map decimals is_some) ∙ ap length a.present ∙ length-map rows is_some

some_alike : (rows decimals : List (Option Value)) (i : ℕ) → Alike rows decimals → is_some (get_or decimals i None) ≡ is_some (get_or rows i None)
some_alike rows decimals i a = sym (present_at decimals i) ∙ ap (λ bs. get_or bs i false) a.present ∙ present_at rows i

nullable_alike : (t u : DType) → nullability t ≡ nullability u → is_nullable t ≡ is_nullable u
nullable_alike t u e = rw e refl

fits_alike : (t : DType) (d : Digits) (n : Nullability) (row decimal : Option Value) → nullability t ≡ n → IsDecimal decimal → is_some decimal ≡ is_some row → IsTrue (fits_type t row) → IsTrue (fits_type (dtype.Decimal d n) decimal)
fits_alike t d n row (Some (value.Decimal z)) e i s f = refl
fits_alike t d n row (Some (value.Bool b)) e i s f = absurd i
fits_alike t d n row (Some (value.Int z)) e i s f = absurd i
fits_alike t d n row (Some (value.Utf8 b)) e i s f = absurd i
fits_alike t d n row (Some (value.Binary b)) e i s f = absurd i
fits_alike t d n None None e i s f = rw (sym (nullable_alike t (dtype.Decimal d n) e)) f
fits_alike t d n (Some v) None e i s f = absurd (cc s)

unfit_alike : (t : DType) (d : Digits) (n : Nullability) (row decimal : Option Value) → nullability t ≡ n → is_some decimal ≡ is_some row → is_some row ≡ false → IsFalse (fits_type t row) → IsFalse (fits_type (dtype.Decimal d n) decimal)
unfit_alike t d n None None e s k f = rw (sym (nullable_alike t (dtype.Decimal d n) e)) f
unfit_alike t d n None (Some v) e s k f = absurd (cc s)
unfit_alike t d n (Some v) decimal e s k f = absurd (cc k)

-- where every row of the part fits, each decimal does
all_alike : (t : DType) (d : Digits) (n : Nullability) (rows decimals : List (Option Value)) → nullability t ≡ n → Alike rows decimals → AllFit t rows → AllFit (dtype.Decimal d n) decimals
all_alike t d n rows decimals e a fits k x l =
    let inside : k < length rows = omega (arith, l, long_alike rows decimals a) in
    rw (get_or_default decimals k x None l) (fits_alike t d n (get_or rows k None) (get_or decimals k None) e (decimal_at decimals k a.decimal) (some_alike rows decimals k a) (fits k None inside))

-- the first null of the part is the first null of the decimals
first_alike : (t : DType) (d : Digits) (n : Nullability) (rows decimals : List (Option Value)) (i : ℕ) → nullability t ≡ n → Alike rows decimals → FirstUnfit t rows i → is_some (get_or rows i None) ≡ false → FirstUnfit (dtype.Decimal d n) decimals i
first_alike t d n rows decimals i e a first null = record {
  within = omega (arith, first.within, long_alike rows decimals a);
  unfit = unfit_alike t d n (get_or rows i None) (get_or decimals i None) e (some_alike rows decimals i a) null first.unfit;
  before = λ j l. fits_alike t d n (get_or rows j None) (get_or decimals j None) e (decimal_at decimals j a.decimal) (some_alike rows decimals j a) (first.before j l);
}

-- and is null
null_alike : (rows decimals : List (Option Value)) (i : ℕ) → Alike rows decimals → is_some (get_or rows i None) ≡ false → is_some (get_or decimals i None) ≡ false
null_alike rows decimals i a null = some_alike rows decimals i a ∙ null

-- rows of a most significant part alone, and their decimals
one_alike : (rows : List (Option Value)) (ns : List ℤ) → AllZip (Holds value.Int) rows ns → Alike rows (map one_row rows)
one_alike rows ns h = record { present = ones-present rows ns h; decimal = parts-decimal rows None }

-- rows of two parts, and their decimals
two_alike : (rows others : List (Option Value)) (ms ns : List ℤ) → TwoHeld rows others ms ns → Alike rows (zip2 two_rows rows others)
two_alike rows others ms ns h = record { present = two-present rows others ms ns h; decimal = parts-decimal rows (Some others) }

refused_alike : (t : DType) (d : Digits) (n : Nullability) (rows decimals : List (Option Value)) (e : PartsCastError) → nullability t ≡ n → Alike rows decimals → RefusesNull t rows e → RefusesNull (dtype.Decimal d n) decimals e
refused_alike t d n rows decimals (HasNull i) k a h = (first_alike t d n rows decimals i k a h.0 h.1, null_alike rows decimals i a h.1)
refused_alike t d n rows decimals OutOfMemory k a h = all_alike t d n rows decimals k a h

-- a cast of a most significant part alone is one of its decimals
pub one-fits : (d : Digits) (n : Nullability) (c : Column) (ns : List ℤ) → AllZip (Holds value.Int) c.rows ns → AllFit (with_nullability n c.dtype) c.rows → AllFit (dtype.Decimal d n) (map one_row c.rows)
one-fits d n c ns held fits = all_alike (with_nullability n c.dtype) d n c.rows (map one_row c.rows) (nulls-with n c.dtype) (one_alike c.rows ns held) fits

pub one-refused : (d : Digits) (n : Nullability) (c : Column) (ns : List ℤ) (e : PartsCastError) → AllZip (Holds value.Int) c.rows ns → RefusesNull (with_nullability n c.dtype) c.rows e → RefusesNull (dtype.Decimal d n) (map one_row c.rows) e
one-refused d n c ns e held h = refused_alike (with_nullability n c.dtype) d n c.rows (map one_row c.rows) e (nulls-with n c.dtype) (one_alike c.rows ns held) h

-- and so beside a lower part
pub two-fits : (d : Digits) (n : Nullability) (c : Column) (others : List (Option Value)) (ms ns : List ℤ) → TwoHeld c.rows others ms ns → AllFit (with_nullability n c.dtype) c.rows → AllFit (dtype.Decimal d n) (zip2 two_rows c.rows others)
two-fits d n c others ms ns held fits = all_alike (with_nullability n c.dtype) d n c.rows (zip2 two_rows c.rows others) (nulls-with n c.dtype) (two_alike c.rows others ms ns held) fits

pub two-refused : (d : Digits) (n : Nullability) (c : Column) (others : List (Option Value)) (ms ns : List ℤ) (e : PartsCastError) → TwoHeld c.rows others ms ns → RefusesNull (with_nullability n c.dtype) c.rows e → RefusesNull (dtype.Decimal d n) (zip2 two_rows c.rows others) e
two-refused d n c others ms ns e held h = refused_alike (with_nullability n c.dtype) d n c.rows (zip2 two_rows c.rows others) e (nulls-with n c.dtype) (two_alike c.rows others ms ns held) h

with_msp : (n : Nullability) (t : DType) → IsTrue (is_msp_type t) → IsTrue (is_msp_type (with_nullability n t))
with_msp n (dtype.Primitive w m) h = h
with_msp n (dtype.Bool m) h = absurd (cc h)
with_msp n (dtype.Decimal d m) h = absurd (cc h)
with_msp n (dtype.Utf8 m) h = absurd (cc h)
with_msp n (dtype.Binary m) h = absurd (cc h)

-- two parts, of which the type of the most significant one has nulls or has not
pub two-cast : (m l a k : Array) (d : Digits) (n : Nullability) → IsTrue (is_msp_type (column_of m).dtype) → IsTrue (is_lower_type (column_of l).dtype) → length (column_of m).rows ≡ length (column_of l).rows → column_of a ≡ column_with (with_nullability n (column_of m).dtype) (column_of m).rows → k ≡ l
    → IsTrue (are_parts (parts_of a (Some k) d))
two-cast m l a k d n h i same made copied =
    two-parts a k d (subst (λ (x : Column). IsTrue (is_msp_type x.dtype)) (sym made) (with_msp n (column_of m).dtype h)) (subst (λ x. IsTrue (is_lower_type (column_of x).dtype)) (sym copied) i)
    (ap (λ (x : Column). length x.rows) made ∙ same ∙ ap (λ x. length (column_of x).rows) (sym copied))
