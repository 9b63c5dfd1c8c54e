-- Columns of one answer, and equal rows compared.
use Rattle.std.proofs.Common.{ℕ, zero, suc, ◌≡◌, Bool, true, false, List, [], ◌∷◌, length, map, refl, sym, ap, ◌∙◌, Option, Some, None}
use Rattle.std.specs.Prelude.{IsTrue, replicate}
use Rattle.std.specs.Simd.Lanes.{zip2}
use Rattle.std.proofs.lemmas.List.{length-replicate}
use Rattle.vortex_array_types.specs.Row.{Column, fits_type, is_nullable, nullability}
use Rattle.vortex_array_types.specs.Truth.{both}
use Rattle.vortex_array_types.specs.declared.types.Nullability.{Nullability}
use Rattle.vortex_array_types.specs.declared.types.Nullability.TheVariants as nulls
use Rattle.vortex_array_types.specs.declared.types.DType.{DType}
use Rattle.vortex_array_types.specs.declared.scalar.Value.{Value}
use Rattle.vortex_array_types.specs.declared.scalar.Value.TheVariants as value
use Rattle.vortex_array_kinds.specs.Kinds.{bool_column, constant_column}
use Rattle.vortex_array_kinds.specs.Parts.{ConstantParts, PlainParts}
use Rattle.vortex_array_kinds.specs.Truths.{either, either_column, truth_row, truths}
use Rattle.vortex_array_kinds.specs.declared.validity.Validity.{Validity}
use Rattle.vortex_array_kinds.specs.declared.validity.Validity.TheVariants.{AllInvalid}
use Rattle.vortex_array_kinds.proofs.BothValid.{either_nullable}
use Rattle.vortex_array_kinds.proofs.TruthColumns.{truth-column}
use Rattle.vortex_array_kinds.proofs.TruthRows.{truth_rows}
use Rattle.vortex_array_compare.specs.Repeated.{repeated}
use Rattle.vortex_array_compare.proofs.Tested.{Full, tested, tested-turned}

all_one : (n : ℕ) (b : Bool) → truth_rows (replicate n b) (replicate n true) ≡ map truth_row (replicate n (Some b))
all_one zero b = refl
all_one (suc n) b = ap (λ rows. Some (value.Bool b) ∷ rows) (all_one n b)

all_null : (n : ℕ) → truth_rows (replicate n false) (replicate n false) ≡ map truth_row (replicate n None)
all_null zero = refl
all_null (suc n) = ap (λ rows. None ∷ rows) (all_null n)

-- equal bits that are all present
pub equal-column : (n : ℕ) (b : Bool) (k : Nullability) (bits : List Bool) (v : Validity) (made : PlainParts (List Bool)) → bits ≡ replicate n b → Full k v → made ≡ record { values = bits; validity = v }
    → bool_column made ≡ truths k (replicate n (Some b))
equal-column n b k bits v made is full parts =
    rw parts (truth-column bits v n k (replicate n (Some b)) (replicate n true) (ap length is ∙ length-replicate n b) full.kind (full.present n) (ap (λ bs. truth_rows bs (replicate n true)) is ∙ all_one n b))

-- nulls alone
pub null-column : (n : ℕ) (bits : List Bool) (made : PlainParts (List Bool)) → bits ≡ replicate n false → made ≡ record { values = bits; validity = AllInvalid } → bool_column made ≡ truths nulls.Nullable (replicate n None)
null-column n bits made is parts =
    rw parts (truth-column bits AllInvalid n nulls.Nullable (replicate n None) (replicate n false) (ap length is ∙ length-replicate n false) refl refl (ap (λ bs. truth_rows bs (replicate n false)) is ∙ all_null n))

equal_pairs : {X Y Z : Type 0} (f : X → Y → Z) (n : ℕ) (x : X) (y : Y) → zip2 f (replicate n x) (replicate n y) ≡ replicate n (f x y)
equal_pairs f zero x y = refl
equal_pairs f (suc n) x y = ap (λ rest. f x y ∷ rest) (equal_pairs f n x y)

-- equal rows of a value beside one value in each row
pub equal-some : (test : Value → Value → Bool) (k : ConstantParts) (t : DType) (own v : Value) → Some own ≡ k.scalar.value
    → truths (either (nullability k.scalar.dtype) (nullability t)) (replicate k.len (Some (test own v))) ≡ tested test (constant_column k) (repeated t v (length (constant_column k).rows))
equal-some test k t own v is =
    let kind = either (nullability k.scalar.dtype) (nullability t) in
    ap (truths kind) (sym (equal_pairs (both test) k.len (Some own) (Some v)))
    ∙ ap (λ r. truths kind (zip2 (both test) (replicate k.len r) (replicate k.len (Some v)))) is
    ∙ ap (λ n. truths kind (zip2 (both test) (replicate k.len k.scalar.value) (replicate n (Some v)))) (sym (length-replicate k.len k.scalar.value))

nullable_is : (n : Nullability) (t : DType) → nullability t ≡ n → IsTrue (is_nullable t) → nullability t ≡ nulls.Nullable
nullable_is nulls.Nullable t e h = e
nullable_is nulls.NonNullable t e h = absurd (cc (rw e at h))

-- null rows fit a type with nulls alone
null_kind : (k : ConstantParts) → None ≡ k.scalar.value → IsTrue (fits_type k.scalar.dtype k.scalar.value) → nullability k.scalar.dtype ≡ nulls.Nullable
null_kind k is fits =
    let nullable : IsTrue (is_nullable k.scalar.dtype) = rw (sym is) at fits in
    nullable_is (nullability k.scalar.dtype) k.scalar.dtype refl nullable

null_right : (test : Value → Value → Bool) (xs : List (Option Value)) → replicate (length xs) None ≡ zip2 (both test) xs (replicate (length xs) None)
null_right test [] = refl
null_right test (None ∷ xs) = ap (λ rest. None ∷ rest) (null_right test xs)
null_right test (Some x ∷ xs) = ap (λ rest. None ∷ rest) (null_right test xs)

-- a column beside equal rows that are null
pub constant-null : (test : Value → Value → Bool) (a : Column) (k : ConstantParts) → None ≡ k.scalar.value → IsTrue (fits_type k.scalar.dtype k.scalar.value) → length a.rows ≡ length (constant_column k).rows
    → truths nulls.Nullable (replicate k.len None) ≡ tested test a (constant_column k)
constant-null test a k is fits e =
    let n : length a.rows ≡ k.len = e ∙ length-replicate k.len k.scalar.value in
    ap (λ m. truths m (replicate k.len None)) (either_nullable (nullability a.dtype) ∙ ap (either (nullability a.dtype)) (sym (null_kind k is fits)))
    ∙ ap (truths (either_column a (constant_column k))) (rw (← n) (null_right test a.rows))
    ∙ ap (λ r. truths (either_column a (constant_column k)) (zip2 (both test) a.rows (replicate k.len r))) is

-- equal rows that are null beside a column
pub first-null : (test : Value → Value → Bool) (k : ConstantParts) (b : Column) → None ≡ k.scalar.value → IsTrue (fits_type k.scalar.dtype k.scalar.value) → length (constant_column k).rows ≡ length b.rows
    → truths nulls.Nullable (replicate k.len None) ≡ tested test (constant_column k) b
first-null test k b is fits e = constant-null (λ x y. test y x) b k is fits (sym e) ∙ tested-turned (λ x y. test y x) test (λ x y. refl) (constant_column k) b

-- and so beside one value in each row
pub equal-null : (test : Value → Value → Bool) (k : ConstantParts) (t : DType) (v : Value) → None ≡ k.scalar.value → IsTrue (fits_type k.scalar.dtype k.scalar.value)
    → truths nulls.Nullable (replicate k.len None) ≡ tested test (constant_column k) (repeated t v (length (constant_column k).rows))
equal-null test k t v is fits = first-null test k (repeated t v (length (constant_column k).rows)) is fits (sym (length-replicate (length (constant_column k).rows) (Some v)))
