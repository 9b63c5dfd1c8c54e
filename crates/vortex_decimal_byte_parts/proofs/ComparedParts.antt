-- Parts beside constants that are null, and most significant parts beside constants of their own type.
use Rattle.std.proofs.Common.{ℕ, ◌≡◌, Bool, List, [], ◌∷◌, length, map, refl, sym, ap, ◌∙◌, Option, Some, None}
use Rattle.std.specs.Prelude.{ℤ, IsTrue, replicate}
use Rattle.std.specs.List.{AllZip}
use Rattle.std.specs.Simd.Lanes.{zip2}
use Rattle.std.proofs.lemmas.List.{length-replicate}
use Rattle.vortex_buffer.specs.declared.compare_operator.CompareOperator.{CompareOperator}
use Rattle.vortex_array_types.specs.Order.{compares}
use Rattle.vortex_array_types.specs.Row.{Column, TypedRow, fits_type, is_nullable, nullability}
use Rattle.vortex_array_types.specs.Truth.{all_three, both, lies_between}
use Rattle.vortex_array_types.specs.declared.filter.BetweenOptions.{BetweenOptions}
use Rattle.vortex_array_types.specs.declared.types.DType.{DType}
use Rattle.vortex_array_types.specs.declared.types.Nullability.{Nullability}
use Rattle.vortex_array_types.specs.declared.types.Nullability.TheVariants as nulls
use Rattle.vortex_array_types.specs.declared.scalar.Value.{Value}
use Rattle.vortex_array_types.specs.declared.scalar.Value.TheVariants as value
use Rattle.vortex_array_kinds.specs.Kinds.{constant_column}
use Rattle.vortex_array_kinds.specs.Parts.{ConstantParts}
use Rattle.vortex_array_kinds.specs.Truths.{bounded, compared, either, truths}
use Rattle.vortex_array_kinds.proofs.BothValid.{either_nullable}
use Rattle.vortex_decimal_byte_parts.specs.Columns.{one_row}
use Rattle.vortex_decimal_byte_parts.specs.Held.{Holds, asked_row, number_compares}

nullable_is : (n : Nullability) (t : DType) → nullability t ≡ n → IsTrue (is_nullable t) → nullability t ≡ nulls.Nullable
nullable_is nulls.Nullable t e h = e
nullable_is nulls.NonNullable t e h = absurd (cc (rw e at h))

-- null stands in a type with nulls
null_kind : (s : TypedRow) → None ≡ s.value → IsTrue (fits_type s.dtype s.value) → nullability s.dtype ≡ nulls.Nullable
null_kind s is fits =
    let nullable : IsTrue (is_nullable s.dtype) = rw (sym is) at fits in
    nullable_is (nullability s.dtype) s.dtype refl nullable

low_null : (test : Value → Value → Value → Bool) (high : Option Value) (rows : List (Option Value)) → replicate (length rows) None ≡ zip2 (λ t z. t z) (zip2 (all_three test) rows (replicate (length rows) None)) (replicate (length rows) high)
low_null test high [] = refl
low_null test high (None ∷ rows) = ap (λ more. None ∷ more) (low_null test high rows)
low_null test high (Some x ∷ rows) = ap (λ more. None ∷ more) (low_null test high rows)

high_null : (test : Value → Value → Value → Bool) (low : Option Value) (rows : List (Option Value)) → replicate (length rows) None ≡ zip2 (λ t z. t z) (zip2 (all_three test) rows (replicate (length rows) low)) (replicate (length rows) None)
high_null test low [] = refl
high_null test low (None ∷ rows) = ap (λ more. None ∷ more) (high_null test low rows)
high_null test None (Some x ∷ rows) = ap (λ more. None ∷ more) (high_null test None rows)
high_null test (Some y) (Some x ∷ rows) = ap (λ more. None ∷ more) (high_null test (Some y) rows)

either_left : (x n m : Nullability) → n ≡ nulls.Nullable → nulls.Nullable ≡ either (either x n) m
either_left nulls.NonNullable n m e = rw e refl
either_left nulls.Nullable n m e = refl

either_right : (x m : Nullability) → m ≡ nulls.Nullable → nulls.Nullable ≡ either x m
either_right x m e = either_nullable x ∙ ap (either x) (sym e)

-- the answers to equal rows as bounds
abbrev pub answers_between : BetweenOptions → Column → ℕ → ℕ → Option Value → Option Value → List (Option Bool)
answers_between options a m n low high = zip2 (λ t z. t z) (zip2 (all_three (lies_between options)) a.rows (replicate m low)) (replicate n high)

bounded_from : (options : BetweenOptions) (a : Column) (k l : ConstantParts) → length a.rows ≡ length (constant_column k).rows → length a.rows ≡ length (constant_column l).rows → nulls.Nullable ≡ either (either (nullability a.dtype) (nullability k.scalar.dtype)) (nullability l.scalar.dtype)
    → replicate (length a.rows) None ≡ answers_between options a (length a.rows) (length a.rows) k.scalar.value l.scalar.value → truths nulls.Nullable (replicate k.len None) ≡ bounded options a (constant_column k) (constant_column l)
bounded_from options a k l same-k same-l kind answers =
    let m : length a.rows ≡ k.len = same-k ∙ length-replicate k.len k.scalar.value in
    let n : length a.rows ≡ l.len = same-l ∙ length-replicate l.len l.scalar.value in
    let x = either (either (nullability a.dtype) (nullability k.scalar.dtype)) (nullability l.scalar.dtype) in
    ap (λ z. truths z (replicate k.len None)) kind
    ∙ ap (λ z. truths x (replicate z None)) (sym m)
    ∙ ap (truths x) answers
    ∙ ap (λ z. truths x (answers_between options a z (length a.rows) k.scalar.value l.scalar.value)) m
    ∙ ap (λ z. truths x (answers_between options a k.len z k.scalar.value l.scalar.value)) n

-- a lower bound that is null
pub bounded-low-null : (options : BetweenOptions) (a : Column) (k l : ConstantParts) → None ≡ k.scalar.value → IsTrue (fits_type k.scalar.dtype k.scalar.value) → length a.rows ≡ length (constant_column k).rows → length a.rows ≡ length (constant_column l).rows → truths nulls.Nullable (replicate k.len None) ≡ bounded options a (constant_column k) (constant_column l)
bounded-low-null options a k l is fits same-k same-l =
    bounded_from options a k l same-k same-l (either_left (nullability a.dtype) (nullability k.scalar.dtype) (nullability l.scalar.dtype) (null_kind k.scalar is fits))
    (low_null (lies_between options) l.scalar.value a.rows ∙ ap (λ r. answers_between options a (length a.rows) (length a.rows) r l.scalar.value) is)

-- an upper bound that is null
pub bounded-high-null : (options : BetweenOptions) (a : Column) (k l : ConstantParts) → None ≡ l.scalar.value → IsTrue (fits_type l.scalar.dtype l.scalar.value) → length a.rows ≡ length (constant_column k).rows → length a.rows ≡ length (constant_column l).rows → truths nulls.Nullable (replicate k.len None) ≡ bounded options a (constant_column k) (constant_column l)
bounded-high-null options a k l is fits same-k same-l =
    bounded_from options a k l same-k same-l (either_right (either (nullability a.dtype) (nullability k.scalar.dtype)) (nullability l.scalar.dtype) (null_kind l.scalar is fits))
    (high_null (lies_between options) k.scalar.value a.rows ∙ ap (λ r. answers_between options a (length a.rows) (length a.rows) k.scalar.value r) is)

held_compared : (operator : CompareOperator) (c : ℤ) (row : Option Value) (n : ℤ) → Holds value.Int row n → both (compares operator) row (Some (value.Int c)) ≡ asked_row (number_compares operator c) (one_row row)
held_compared operator c None n h = refl
held_compared operator c (Some v) n h = rw h refl

whole_compared : (operator : CompareOperator) (c : ℤ) (rows : List (Option Value)) (ns : List ℤ) → AllZip (Holds value.Int) rows ns → zip2 (both (compares operator)) rows (replicate (length rows) (Some (value.Int c))) ≡ map (asked_row (number_compares operator c)) (map one_row rows)
whole_compared operator c [] [] h = refl
whole_compared operator c [] (n ∷ ns) h = absurd h
whole_compared operator c (r ∷ rows) [] h = absurd h
whole_compared operator c (r ∷ rows) (n ∷ ns) h =
    ap (λ a. a ∷ zip2 (both (compares operator)) rows (replicate (length rows) (Some (value.Int c)))) (held_compared operator c r n h.0)
    ∙ ap (λ more. asked_row (number_compares operator c) (one_row r) ∷ more) (whole_compared operator c rows ns h.1)

-- whole numbers beside equal rows of a number
pub compared-whole : (operator : CompareOperator) (c : ℤ) (a : Column) (ns : List ℤ) (t : DType) (len : ℕ) → AllZip (Holds value.Int) a.rows ns → len ≡ length a.rows
    → compared operator a (constant_column (record { scalar = record { dtype = t; value = Some (value.Int c) }; len = len })) ≡ truths (either (nullability a.dtype) (nullability t)) (map (asked_row (number_compares operator c)) (map one_row a.rows))
compared-whole operator c a ns t len held same =
    let kind = either (nullability a.dtype) (nullability t) in
    ap (λ m. truths kind (zip2 (both (compares operator)) a.rows (replicate m (Some (value.Int c))))) same
    ∙ ap (truths kind) (whole_compared operator c a.rows ns held)
