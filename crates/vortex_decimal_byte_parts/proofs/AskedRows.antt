-- Answers to rows of decimals beside constants.
use Rattle.std.proofs.Common.{◌≡◌, Bool, List, [], ◌∷◌, length, map, refl, sym, ap, ◌∙◌, Option, Some, None}
use Rattle.std.specs.Prelude.{ℤ, pos, replicate}
use Rattle.std.specs.Simd.Lanes.{zip2}
use Rattle.std.proofs.lemmas.List.{length-replicate}
use Rattle.vortex_buffer.specs.declared.compare_operator.CompareOperator.{CompareOperator}
use Rattle.vortex_array_types.specs.Order.{compares}
use Rattle.vortex_array_types.specs.Row.{Column, nullability}
use Rattle.vortex_array_types.specs.Truth.{both, all_three, lies_between}
use Rattle.vortex_array_types.specs.declared.filter.BetweenOptions.{BetweenOptions}
use Rattle.vortex_array_types.specs.declared.types.Nullability.{Nullability}
use Rattle.vortex_array_types.specs.declared.types.Nullability.TheVariants as nulls
use Rattle.vortex_array_types.specs.declared.scalar.Value.{Value}
use Rattle.vortex_array_types.specs.declared.scalar.Value.TheVariants as value
use Rattle.vortex_array_kinds.specs.Kinds.{constant_column}
use Rattle.vortex_array_kinds.specs.Parts.{ConstantParts}
use Rattle.vortex_array_kinds.specs.Truths.{bounded, compared, either, either_column, truths}
use Rattle.vortex_decimal_byte_parts.specs.Columns.{one_row, two_rows, rows_of_parts}
use Rattle.vortex_decimal_byte_parts.specs.Held.{Each, IsIntervalOf, IsWideRow, asked_row, lies_in, number_between, number_compares}
use Rattle.vortex_decimal_byte_parts.specs.declared.interval.Interval.{Interval}

-- a row of decimals
abbrev pub IsDecimal : Option Value → Type 0
IsDecimal None = Unit
IsDecimal (Some (value.Decimal n)) = Unit
IsDecimal (Some v) = ⊥

one_decimal : (row : Option Value) → IsDecimal (one_row row)
one_decimal None = tt
one_decimal (Some (value.Bool b)) = tt
one_decimal (Some (value.Int n)) = tt
one_decimal (Some (value.Decimal n)) = tt
one_decimal (Some (value.Utf8 t)) = tt
one_decimal (Some (value.Binary b)) = tt

two_decimal : (row other : Option Value) → IsDecimal (two_rows row other)
two_decimal (Some (value.Int m)) (Some (value.Int (pos l))) = tt
two_decimal row other = tt

ones_decimal : (rows : List (Option Value)) → Each IsDecimal (map one_row rows)
ones_decimal [] = tt
ones_decimal (r ∷ rows) = (one_decimal r, ones_decimal rows)

twos_decimal : (rows others : List (Option Value)) → Each IsDecimal (zip2 two_rows rows others)
twos_decimal [] others = tt
twos_decimal (r ∷ rows) [] = tt
twos_decimal (r ∷ rows) (o ∷ others) = (two_decimal r o, twos_decimal rows others)

-- rows of parts are rows of decimals
pub parts-decimal : (rows : List (Option Value)) (lower : Option (List (Option Value))) → Each IsDecimal (rows_of_parts rows lower)
parts-decimal rows None = ones_decimal rows
parts-decimal rows (Some lower) = twos_decimal rows lower

-- rows beside one value in each place
compared_rows : (operator : CompareOperator) (c : ℤ) (rows : List (Option Value)) → Each IsDecimal rows → zip2 (both (compares operator)) rows (replicate (length rows) (Some (value.Decimal c))) ≡ map (asked_row (number_compares operator c)) rows
compared_rows operator c [] h = refl
compared_rows operator c (None ∷ rows) h = ap (λ more. None ∷ more) (compared_rows operator c rows h.1)
compared_rows operator c (Some (value.Decimal n) ∷ rows) h = ap (λ more. Some (number_compares operator c n) ∷ more) (compared_rows operator c rows h.1)
compared_rows operator c (Some v ∷ rows) h = absurd h.0

-- a comparison with a constant asks each number
pub compared-asked : (operator : CompareOperator) (c : ℤ) (a : Column) (k : ConstantParts) (n : Nullability) → Each IsDecimal a.rows → Some (value.Decimal c) ≡ k.scalar.value → n ≡ nullability k.scalar.dtype → length a.rows ≡ length (constant_column k).rows
    → truths (either (nullability a.dtype) n) (map (asked_row (number_compares operator c)) a.rows) ≡ compared operator a (constant_column k)
compared-asked operator c a k n decimals is kind same =
    ap (λ m. truths (either (nullability a.dtype) m) (map (asked_row (number_compares operator c)) a.rows)) kind
    ∙ ap (truths (either_column a (constant_column k))) (sym (compared_rows operator c a.rows decimals))
    ∙ ap (λ m. truths (either_column a (constant_column k)) (zip2 (both (compares operator)) a.rows (replicate m (Some (value.Decimal c))))) (same ∙ length-replicate k.len k.scalar.value)
    ∙ ap (λ r. truths (either_column a (constant_column k)) (zip2 (both (compares operator)) a.rows (replicate k.len r))) is

between_rows : (options : BetweenOptions) (lo hi : ℤ) (rows : List (Option Value)) → Each IsDecimal rows
    → zip2 (λ test z. test z) (zip2 (all_three (lies_between options)) rows (replicate (length rows) (Some (value.Decimal lo)))) (replicate (length rows) (Some (value.Decimal hi))) ≡ map (asked_row (number_between options lo hi)) rows
between_rows options lo hi [] h = refl
between_rows options lo hi (None ∷ rows) h = ap (λ more. None ∷ more) (between_rows options lo hi rows h.1)
between_rows options lo hi (Some (value.Decimal n) ∷ rows) h = ap (λ more. Some (number_between options lo hi n) ∷ more) (between_rows options lo hi rows h.1)
between_rows options lo hi (Some v ∷ rows) h = absurd h.0

either_assoc : (x y z : Nullability) → either x (either y z) ≡ either (either x y) z
either_assoc nulls.NonNullable y z = refl
either_assoc nulls.Nullable y z = refl

-- the rows of bounds, and their types
abbrev pub bounded_by : BetweenOptions → Column → Nullability → Nullability → List (Option Value) → List (Option Value) → Column
bounded_by options a m n lowers uppers = truths (either (either (nullability a.dtype) m) n) (zip2 (λ test z. test z) (zip2 (all_three (lies_between options)) a.rows lowers) uppers)

-- bounds that are constants ask each number
pub bounded-asked : (options : BetweenOptions) (lo hi : ℤ) (a : Column) (k l : ConstantParts) (n : Nullability) → Each IsDecimal a.rows → Some (value.Decimal lo) ≡ k.scalar.value → Some (value.Decimal hi) ≡ l.scalar.value → n ≡ either (nullability k.scalar.dtype) (nullability l.scalar.dtype)
    → length a.rows ≡ length (constant_column k).rows → length a.rows ≡ length (constant_column l).rows
    → truths (either (nullability a.dtype) n) (map (asked_row (number_between options lo hi)) a.rows) ≡ bounded options a (constant_column k) (constant_column l)
bounded-asked options lo hi a k l n decimals is-lo is-hi kind same-k same-l =
    let m = nullability k.scalar.dtype in
    let o = nullability l.scalar.dtype in
    let x = nullability a.dtype in
    ap (λ r. truths (either x r) (map (asked_row (number_between options lo hi)) a.rows)) kind
    ∙ ap (λ r. truths r (map (asked_row (number_between options lo hi)) a.rows)) (either_assoc x m o)
    ∙ ap (truths (either (either x m) o)) (sym (between_rows options lo hi a.rows decimals))
    ∙ ap (λ r. bounded_by options a m o (replicate r (Some (value.Decimal lo))) (replicate (length a.rows) (Some (value.Decimal hi)))) (same-k ∙ length-replicate k.len k.scalar.value)
    ∙ ap (λ r. bounded_by options a m o (replicate k.len (Some (value.Decimal lo))) (replicate r (Some (value.Decimal hi)))) (same-l ∙ length-replicate l.len l.scalar.value)
    ∙ ap (λ r. bounded_by options a m o (replicate k.len r) (replicate l.len (Some (value.Decimal hi)))) is-lo
    ∙ ap (λ r. bounded_by options a m o (replicate k.len k.scalar.value) (replicate l.len r)) is-hi

-- what an interval says is what the test says that it stands for
pub interval-asked : (test : ℤ → Bool) (i : Interval) → IsIntervalOf test i → (rows : List (Option Value)) → Each IsWideRow rows → map (asked_row (lies_in i)) rows ≡ map (asked_row test) rows
interval-asked test i h [] w = refl
interval-asked test i h (None ∷ rows) w = ap (λ more. None ∷ more) (interval-asked test i h rows w.1)
interval-asked test i h (Some (value.Decimal n) ∷ rows) w = ap (λ b. Some b ∷ map (asked_row (lies_in i)) rows) (sym (h n w.0)) ∙ ap (λ more. Some (test n) ∷ more) (interval-asked test i h rows w.1)
interval-asked test i h (Some v ∷ rows) w = ap (λ more. None ∷ more) (interval-asked test i h rows w.1)
