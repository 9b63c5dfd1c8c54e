-- Comparisons with constants, and between.
use Rattle.std.proofs.Common.{◌≡◌, Bool, List, [], ◌∷◌, length, map, refl, sym, ap, ◌∙◌, Option, None, Some}
use Rattle.std.specs.Prelude.{replicate}
use Rattle.std.specs.Simd.Lanes.{zip2}
use Rattle.std.proofs.lemmas.List.{length-map, length-replicate}
use Rattle.std.proofs.lemmas.Simd.{length-zip2}
use Rattle.vortex_buffer.specs.declared.compare_operator.CompareOperator.{CompareOperator}
use Rattle.vortex_array_types.specs.Order.{compares}
use Rattle.vortex_array_types.specs.Row.{Column, nullability}
use Rattle.vortex_array_types.specs.Truth.{both, all_three, lies_between, lower_operator, upper_operator}
use Rattle.vortex_array_types.specs.declared.filter.BetweenOptions.{BetweenOptions}
use Rattle.vortex_array_types.specs.declared.types.DType.TheVariants as dtype
use Rattle.vortex_array_types.specs.declared.types.Nullability.{Nullability}
use Rattle.vortex_array_types.specs.declared.types.Nullability.TheVariants as nulls
use Rattle.vortex_array_types.specs.declared.scalar.Value.{Value}
use Rattle.vortex_array_compare.proofs.Tested.{tested}
use Rattle.vortex_array_kinds.specs.Kinds.{constant_column}
use Rattle.vortex_array_kinds.specs.Parts.{ConstantParts}
use Rattle.vortex_array_kinds.specs.Truths.{answer_in, both_true, bounded, compared, either, either_column, joined_strictly, truth_row, truths}
use Rattle.vortex_array_kinds.proofs.TruthLaws.{answers-back}

-- there are as many answers as rows
pub length-compared : (operator : CompareOperator) (a b : Column) → length a.rows ≡ length b.rows → length (compared operator a b).rows ≡ length a.rows
length-compared operator a b e = length-map (zip2 (both (compares operator)) a.rows b.rows) truth_row ∙ length-zip2 (both (compares operator)) a.rows b.rows e

-- a first constant that is a value
pub first-some : (test : Value → Value → Bool) (k : ConstantParts) (b : Column) (n : Nullability) (v : Value) → n ≡ nullability k.scalar.dtype → Some v ≡ k.scalar.value → length (constant_column k).rows ≡ length b.rows
    → truths (either n (nullability b.dtype)) (zip2 (both test) (replicate (length b.rows) (Some v)) b.rows) ≡ tested test (constant_column k) b
first-some test k b n v kind is e =
    ap (λ m. truths (either m (nullability b.dtype)) (zip2 (both test) (replicate (length b.rows) (Some v)) b.rows)) kind
    ∙ ap (λ m. truths (either_column (constant_column k) b) (zip2 (both test) (replicate m (Some v)) b.rows)) (sym e ∙ length-replicate k.len k.scalar.value)
    ∙ ap (λ r. truths (either_column (constant_column k) b) (zip2 (both test) (replicate k.len r) b.rows)) is

between_row : (options : BetweenOptions) (x y z : Option Value) → both_true (both (compares (lower_operator options.lower_strict)) x y) (both (compares (upper_operator options.upper_strict)) x z) ≡ all_three (lies_between options) x y z
between_row options None y z = refl
between_row options (Some x) None z = refl
between_row options (Some x) (Some y) None = refl
between_row options (Some x) (Some y) (Some z) = refl

between_rows : (options : BetweenOptions) (xs ys zs : List (Option Value)) → zip2 both_true (zip2 (both (compares (lower_operator options.lower_strict))) xs ys) (zip2 (both (compares (upper_operator options.upper_strict))) xs zs) ≡ zip2 (λ test z. test z) (zip2 (all_three (lies_between options)) xs ys) zs
between_rows options [] ys zs = refl
between_rows options (x ∷ xs) [] zs = refl
between_rows options (x ∷ xs) (y ∷ ys) [] = refl
between_rows options (x ∷ xs) (y ∷ ys) (z ∷ zs) =
    ap (λ t. t ∷ zip2 both_true (zip2 (both (compares (lower_operator options.lower_strict))) xs ys) (zip2 (both (compares (upper_operator options.upper_strict))) xs zs)) (between_row options x y z)
    ∙ ap (λ rest. all_three (lies_between options) x y z ∷ rest) (between_rows options xs ys zs)

either_three : (x y z : Nullability) → either (either x y) (either x z) ≡ either (either x y) z
either_three nulls.NonNullable nulls.NonNullable z = refl
either_three nulls.NonNullable nulls.Nullable z = refl
either_three nulls.Nullable y z = refl

-- both comparisons joined are between
pub between-joined : (options : BetweenOptions) (x lower upper : Column)
    → joined_strictly (compared (lower_operator options.lower_strict) x lower) (compared (upper_operator options.upper_strict) x upper) ≡ bounded options x lower upper
between-joined options x lower upper =
    let above = zip2 (both (compares (lower_operator options.lower_strict))) x.rows lower.rows in
    let below = zip2 (both (compares (upper_operator options.upper_strict))) x.rows upper.rows in
    let kind : Nullability = either (either_column x lower) (nullability upper.dtype) in
    ap (λ k. truths k (zip2 both_true (map answer_in (map truth_row above)) (map answer_in (map truth_row below)))) (either_three (nullability x.dtype) (nullability lower.dtype) (nullability upper.dtype))
    ∙ ap (λ given. truths kind (zip2 both_true given (map answer_in (map truth_row below)))) (answers-back above)
    ∙ ap (λ given. truths kind (zip2 both_true above given)) (answers-back below)
    ∙ ap (truths kind) (between_rows options x.rows lower.rows upper.rows)
