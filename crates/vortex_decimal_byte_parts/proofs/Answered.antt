-- Answers to the numbers of parts, and to the decimals that they stand for.
use Rattle.std.proofs.Common.{◌≡◌, Bool, List, length, map, refl, sym, ap, ◌∙◌, Option, Some, None}
use Rattle.std.specs.Prelude.{ℤ, pos, All, IsTrue, IsFalse, is_some, replicate}
use Rattle.std.specs.List.{AllZip}
use Rattle.std.specs.Simd.Lanes.{zip2}
use Rattle.std.proofs.lemmas.List.{length-map}
use Rattle.vortex_buffer.specs.declared.compare_operator.CompareOperator.{CompareOperator}
use Rattle.vortex_array_types.specs.Row.{Column, in_signed, in_unsigned, nullability, value_fits}
use Rattle.vortex_array_types.specs.declared.types.DType.{DType}
use Rattle.vortex_array_types.specs.declared.types.Nullability.{Nullability}
use Rattle.vortex_array_types.specs.declared.scalar.Value.{Value}
use Rattle.vortex_array_types.specs.declared.scalar.Value.TheVariants.{Int}
use Rattle.vortex_array_kinds.specs.Truths.{either, truths}
use Rattle.vortex_array.specs.declared.arrays.Array.{Array}
use Rattle.vortex_array.specs.ColumnOf.{column_of}
use Rattle.vortex_decimal_byte_parts.specs.Checked.{is_msp_type}
use Rattle.vortex_decimal_byte_parts.specs.Columns.{Parts, one_row, parts_column, two_rows}
use Rattle.vortex_decimal_byte_parts.specs.Held.{Each, Holds, IsIntervalOf, IsWideRow, answer_if, asked_row, lies_in, number_compares, wide}
use Rattle.vortex_decimal_byte_parts.specs.declared.interval.Interval.{Interval}
use Rattle.vortex_decimal_byte_parts.proofs.HeldRows.{held-answers, length-held, ones-held, ones-present}
use Rattle.vortex_decimal_byte_parts.proofs.NumberBounds.{each-joined, each-of-all, msp-number, wide-fits, wide-rows, widened}
use Rattle.vortex_decimal_byte_parts.proofs.PartColumns.{of-one, of-two}
use Rattle.vortex_decimal_byte_parts.proofs.SettledBits.{settled-bits}
use Rattle.vortex_decimal_byte_parts.proofs.TwoParts.{TwoHeld, both-held, long-wide, two-present}

-- the answers of a test to the numbers of a most significant part alone
pub one-answers : (test : ℤ → Bool) (bits : List Bool) (rows : List (Option Value)) (ns : List ℤ) → AllZip (Holds Int) rows ns → bits ≡ map test ns → zip2 answer_if (map is_some rows) bits ≡ map (asked_row test) (map one_row rows)
one-answers test bits rows ns h are =
    ap (zip2 answer_if (map is_some rows)) are ∙ ap (λ present. zip2 answer_if present (map test ns)) (sym (ones-present rows ns h)) ∙ held-answers test (map one_row rows) ns (ones-held rows ns h)

-- and to those of two parts
pub two-answers : (test : ℤ → Bool) (bits : List Bool) (rows others : List (Option Value)) (ms ns : List ℤ) → TwoHeld rows others ms ns → bits ≡ map test (zip2 wide ms ns) → zip2 answer_if (map is_some rows) bits ≡ map (asked_row test) (zip2 two_rows rows others)
two-answers test bits rows others ms ns h are =
    ap (zip2 answer_if (map is_some rows)) are
    ∙ ap (λ present. zip2 answer_if present (map test (zip2 wide ms ns))) (sym (two-present rows others ms ns h))
    ∙ held-answers test (zip2 two_rows rows others) (zip2 wide ms ns) (both-held rows others ms ns h)

-- there are as many answers as rows
pub one-long : (test : ℤ → Bool) (bits : List Bool) (rows : List (Option Value)) (ns : List ℤ) → AllZip (Holds Int) rows ns → bits ≡ map test ns → length bits ≡ length rows
one-long test bits rows ns h are = ap length are ∙ length-map ns test ∙ sym (length-held Int rows ns h)

pub two-long : (test : ℤ → Bool) (bits : List Bool) (rows others : List (Option Value)) (ms ns : List ℤ) → TwoHeld rows others ms ns → bits ≡ map test (zip2 wide ms ns) → length bits ≡ length rows
two-long test bits rows others ms ns h are = ap length are ∙ length-map (zip2 wide ms ns) test ∙ long-wide rows others ms ns h

msp_numbers : (t : DType) (ns : List ℤ) → IsTrue (is_msp_type t) → All (λ n. IsTrue (value_fits t (Int n))) ns → Each (λ n. IsTrue (in_signed 64 n)) ns
msp_numbers t ns k fits = each-of-all (λ n. IsTrue (value_fits t (Int n))) (λ n. IsTrue (in_signed 64 n)) ns (λ n f. msp-number t n k f) fits

-- the decimals have 128 bits
pub one-wide : (t : DType) (rows : List (Option Value)) (ns : List ℤ) → IsTrue (is_msp_type t) → AllZip (Holds Int) rows ns → All (λ n. IsTrue (value_fits t (Int n))) ns → Each IsWideRow (map one_row rows)
one-wide t rows ns k h fits =
    wide-rows (map one_row rows) ns (ones-held rows ns h) (each-of-all (λ n. IsTrue (value_fits t (Int n))) (λ n. IsTrue (in_signed 128 n)) ns (λ n f. widened n (msp-number t n k f)) fits)

pub two-wide : (t : DType) (rows others : List (Option Value)) (ms ns : List ℤ) → IsTrue (is_msp_type t) → TwoHeld rows others ms ns → All (λ n. IsTrue (value_fits t (Int n))) ms → Each IsWideRow (zip2 two_rows rows others)
two-wide t rows others ms ns k h fits =
    wide-rows (zip2 two_rows rows others) (zip2 wide ms ns) (both-held rows others ms ns h)
    (each-joined wide (λ m. IsTrue (in_signed 64 m)) (λ n. IsTrue (in_unsigned 64 n)) (λ z. IsTrue (in_signed 128 z)) ms ns wide-fits (msp_numbers t ms k fits) h.bits)

-- one answer for all numbers of a type that cannot hold the other number
pub settled-answers : (t : DType) (operator : CompareOperator) (z : ℤ) (i : Interval) (bits : List Bool) (rows : List (Option Value)) (ns : List ℤ) → IsTrue (is_msp_type t) → IsFalse (value_fits t (Int z)) → AllZip (Holds Int) rows ns → All (λ n. IsTrue (value_fits t (Int n))) ns → IsIntervalOf (number_compares operator z) i → bits ≡ replicate (length rows) (lies_in i (pos 0))
    → bits ≡ map (number_compares operator z) ns
settled-answers t operator z i bits rows ns k outside h fits interval are =
    are
    ∙ ap (λ n. replicate n (lies_in i (pos 0))) (length-held Int rows ns h)
    ∙ ap (replicate (length ns)) (sym (interval (pos 0) refl))
    ∙ settled-bits t operator z k outside ns (each-of-all (λ n. IsTrue (value_fits t (Int n))) (λ n. IsTrue (value_fits t (Int n))) ns (λ n f. f) fits)

-- what is asked of the parts is asked of the column that they stand for
pub asked-one : (p : Parts) (g : Array) (n : Nullability) (test : ℤ → Bool) → g ≡ p.msp → None ≡ p.lower
    → truths (either (nullability (column_of g).dtype) n) (map (asked_row test) (map one_row (column_of g).rows)) ≡ truths (either (nullability (parts_column p).dtype) n) (map (asked_row test) (parts_column p).rows)
asked-one p g n test part none =
    ap (λ a. truths (either (nullability (column_of a).dtype) n) (map (asked_row test) (map one_row (column_of a).rows))) part
    ∙ ap (λ (c : Column). truths (either (nullability c.dtype) n) (map (asked_row test) c.rows)) (sym (of-one p none))

pub asked-two : (p : Parts) (g l : Array) (n : Nullability) (test : ℤ → Bool) → g ≡ p.msp → Some l ≡ p.lower
    → truths (either (nullability (column_of g).dtype) n) (map (asked_row test) (zip2 two_rows (column_of g).rows (column_of l).rows)) ≡ truths (either (nullability (parts_column p).dtype) n) (map (asked_row test) (parts_column p).rows)
asked-two p g l n test part some =
    ap (λ a. truths (either (nullability (column_of a).dtype) n) (map (asked_row test) (zip2 two_rows (column_of a).rows (column_of l).rows))) part
    ∙ ap (λ (c : Column). truths (either (nullability c.dtype) n) (map (asked_row test) c.rows)) (sym (of-two p l some))
