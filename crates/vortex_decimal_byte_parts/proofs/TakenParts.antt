-- Rows of parts at indices, and rows that a mask makes null.
use Rattle.std.proofs.Common.{ℕ, zero, suc, ◌≡◌, Bool, true, false, cond, List, [], ◌∷◌, get_or, map, refl, sym, ap, ◌∙◌, Option, Some, None}
use Rattle.std.specs.Prelude.{pos, negsuc}
use Rattle.std.specs.Simd.Lanes.{zip2}
use Rattle.vortex_array_types.specs.Digits.{Digits}
use Rattle.vortex_array_types.specs.Row.{Column, TypedRow, is_nullable, nullability}
use Rattle.vortex_array_types.specs.Widths.{nullable_form, with_nullability}
use Rattle.vortex_array_types.specs.declared.types.DType.{DType}
use Rattle.vortex_array_types.specs.declared.types.DType.TheVariants as dtype
use Rattle.vortex_array_types.specs.declared.types.Nullability.{Nullability}
use Rattle.vortex_array_types.specs.declared.types.Nullability.TheVariants.{Nullable}
use Rattle.vortex_array_types.specs.declared.scalar.Value.{Value}
use Rattle.vortex_array_types.specs.declared.scalar.Value.TheVariants as value
use Rattle.vortex_array_kinds.proofs.RowLemmas.{column_with}
use Rattle.vortex_array_select.specs.Selected.{row_at, taken}
use Rattle.vortex_array.specs.declared.arrays.Array.{Array}
use Rattle.vortex_array.specs.ColumnOf.{column_of}
use Rattle.vortex_decimal_byte_parts.specs.Columns.{Parts, kept_row, masked, one_row, parts_column, two_rows}
use Rattle.vortex_decimal_byte_parts.proofs.PartColumns.{of-one, of-two, one_column, two_column}

one_at : (rows : List (Option Value)) (i : ℕ) → get_or (map one_row rows) i None ≡ one_row (get_or rows i None)
one_at [] i = refl
one_at (r ∷ rows) zero = refl
one_at (r ∷ rows) (suc i) = one_at rows i

two_none : (row : Option Value) → two_rows row None ≡ None
two_none None = refl
two_none (Some (value.Bool b)) = refl
two_none (Some (value.Int n)) = refl
two_none (Some (value.Decimal n)) = refl
two_none (Some (value.Utf8 t)) = refl
two_none (Some (value.Binary b)) = refl

two_at : (rows others : List (Option Value)) (i : ℕ) → get_or (zip2 two_rows rows others) i None ≡ two_rows (get_or rows i None) (get_or others i None)
two_at [] others i = refl
two_at (r ∷ rows) [] zero = sym (two_none r)
two_at (r ∷ rows) [] (suc i) = sym (two_none (get_or rows i None))
two_at (r ∷ rows) (o ∷ others) zero = refl
two_at (r ∷ rows) (o ∷ others) (suc i) = two_at rows others i

-- a row of parts
pub row-of-one : (p : Parts) (i : ℕ) (row : Option Value) → p.lower ≡ None → row ≡ one_row (get_or (column_of p.msp).rows i None) → row ≡ get_or (parts_column p).rows i None
row-of-one p i row e h = h ∙ sym (one_at (column_of p.msp).rows i) ∙ ap (λ (c : Column). get_or c.rows i None) (sym (of-one p (sym e)))

pub row-of-two : (p : Parts) (l : Array) (i : ℕ) (row : Option Value) → p.lower ≡ Some l → row ≡ two_rows (get_or (column_of p.msp).rows i None) (get_or (column_of l).rows i None) → row ≡ get_or (parts_column p).rows i None
row-of-two p l i row e h = h ∙ sym (two_at (column_of p.msp).rows (column_of l).rows i) ∙ ap (λ (c : Column). get_or c.rows i None) (sym (of-two p l (sym e)))

abbrev typed : DType → Option Value → TypedRow
typed t row = record { dtype = t; value = row }

-- and with its type
pub typed-row : (s : TypedRow) (t u : DType) (row other : Option Value) → s ≡ typed t row → t ≡ u → row ≡ other → s ≡ typed u other
typed-row s t u row other is kind same = is ∙ ap (λ x. typed x row) kind ∙ ap (typed u) same

one_taken : (rows : List (Option Value)) (index : Option Value) → one_row (row_at rows index) ≡ row_at (map one_row rows) index
one_taken rows None = refl
one_taken rows (Some (value.Bool b)) = refl
one_taken rows (Some (value.Int (pos i))) = sym (one_at rows i)
one_taken rows (Some (value.Int (negsuc i))) = refl
one_taken rows (Some (value.Decimal n)) = refl
one_taken rows (Some (value.Utf8 t)) = refl
one_taken rows (Some (value.Binary b)) = refl

two_taken : (rows others : List (Option Value)) (index : Option Value) → two_rows (row_at rows index) (row_at others index) ≡ row_at (zip2 two_rows rows others) index
two_taken rows others None = refl
two_taken rows others (Some (value.Bool b)) = refl
two_taken rows others (Some (value.Int (pos i))) = sym (two_at rows others i)
two_taken rows others (Some (value.Int (negsuc i))) = refl
two_taken rows others (Some (value.Decimal n)) = refl
two_taken rows others (Some (value.Utf8 t)) = refl
two_taken rows others (Some (value.Binary b)) = refl

ones_taken : (rows indices : List (Option Value)) → map one_row (map (row_at rows) indices) ≡ map (row_at (map one_row rows)) indices
ones_taken rows [] = refl
ones_taken rows (i ∷ indices) = ap (λ r. r ∷ map one_row (map (row_at rows) indices)) (one_taken rows i) ∙ ap (λ more. row_at (map one_row rows) i ∷ more) (ones_taken rows indices)

twos_taken : (rows others indices : List (Option Value)) → zip2 two_rows (map (row_at rows) indices) (map (row_at others) indices) ≡ map (row_at (zip2 two_rows rows others)) indices
twos_taken rows others [] = refl
twos_taken rows others (i ∷ indices) =
    ap (λ r. r ∷ zip2 two_rows (map (row_at rows) indices) (map (row_at others) indices)) (two_taken rows others i)
    ∙ ap (λ more. row_at (zip2 two_rows rows others) i ∷ more) (twos_taken rows others indices)

nulls-of : (n : Nullability) (t : DType) → nullability (with_nullability n t) ≡ n
nulls-of n (dtype.Bool m) = refl
nulls-of n (dtype.Primitive w m) = refl
nulls-of n (dtype.Decimal d m) = refl
nulls-of n (dtype.Utf8 m) = refl
nulls-of n (dtype.Binary m) = refl

taken_type : (b : Bool) (d : Digits) (t : DType) → dtype.Decimal d (nullability (cond b (nullable_form t) t)) ≡ cond b (nullable_form (dtype.Decimal d (nullability t))) (dtype.Decimal d (nullability t))
taken_type true d t = ap (dtype.Decimal d) (nulls-of Nullable t)
taken_type false d t = refl

pub taken-one : (indices : Column) (d : Digits) (a : Column) → one_column d (taken indices a) ≡ taken indices (one_column d a)
taken-one indices d a =
    ap (λ t. column_with t (map one_row (map (row_at a.rows) indices.rows))) (taken_type (is_nullable indices.dtype) d a.dtype)
    ∙ ap (column_with (taken indices (one_column d a)).dtype) (ones_taken a.rows indices.rows)

pub taken-two : (indices : Column) (d : Digits) (a b : Column) → two_column d (taken indices a) (taken indices b) ≡ taken indices (two_column d a b)
taken-two indices d a b =
    ap (λ t. column_with t (zip2 two_rows (map (row_at a.rows) indices.rows) (map (row_at b.rows) indices.rows))) (taken_type (is_nullable indices.dtype) d a.dtype)
    ∙ ap (column_with (taken indices (two_column d a b)).dtype) (twos_taken a.rows b.rows indices.rows)

one_kept : (row : Option Value) (bit : Bool) → one_row (kept_row row bit) ≡ kept_row (one_row row) bit
one_kept row true = refl
one_kept row false = refl

two_kept : (row other : Option Value) (bit : Bool) → two_rows (kept_row row bit) other ≡ kept_row (two_rows row other) bit
two_kept row other true = refl
two_kept row other false = refl

ones_kept : (rows : List (Option Value)) (bits : List Bool) → map one_row (zip2 kept_row rows bits) ≡ zip2 kept_row (map one_row rows) bits
ones_kept [] bits = refl
ones_kept (r ∷ rows) [] = refl
ones_kept (r ∷ rows) (b ∷ bits) = ap (λ x. x ∷ map one_row (zip2 kept_row rows bits)) (one_kept r b) ∙ ap (λ more. kept_row (one_row r) b ∷ more) (ones_kept rows bits)

twos_kept : (rows others : List (Option Value)) (bits : List Bool) → zip2 two_rows (zip2 kept_row rows bits) others ≡ zip2 kept_row (zip2 two_rows rows others) bits
twos_kept [] others bits = refl
twos_kept (r ∷ rows) [] [] = refl
twos_kept (r ∷ rows) [] (b ∷ bits) = refl
twos_kept (r ∷ rows) (o ∷ others) [] = refl
twos_kept (r ∷ rows) (o ∷ others) (b ∷ bits) = ap (λ x. x ∷ zip2 two_rows (zip2 kept_row rows bits) others) (two_kept r o b) ∙ ap (λ more. kept_row (two_rows r o) b ∷ more) (twos_kept rows others bits)

pub masked-one : (bits : List Bool) (d : Digits) (a : Column) → one_column d (masked bits a) ≡ masked bits (one_column d a)
masked-one bits d a =
    ap (λ n. column_with (dtype.Decimal d n) (map one_row (zip2 kept_row a.rows bits))) (nulls-of Nullable a.dtype)
    ∙ ap (column_with (dtype.Decimal d Nullable)) (ones_kept a.rows bits)

pub masked-two : (bits : List Bool) (d : Digits) (a b : Column) → two_column d (masked bits a) b ≡ masked bits (two_column d a b)
masked-two bits d a b =
    ap (λ n. column_with (dtype.Decimal d n) (zip2 two_rows (zip2 kept_row a.rows bits) b.rows)) (nulls-of Nullable a.dtype)
    ∙ ap (column_with (dtype.Decimal d Nullable)) (twos_kept a.rows b.rows bits)
