-- Truth values at codes, told by comparing the codes.
use Rattle.std.proofs.Common.{ℕ, zero, suc, ◌+◌, ◌<◌, ◌≡◌, ◌==◌, Bool, true, false, cond, List, [], ◌∷◌, length, get_or, map, replicate, refl, sym, ap, subst, ◌∙◌, arith, Option, Some, None}
use Rattle.std.specs.Prelude.{pos, IsTrue, All}
use Rattle.std.specs.Ordering.{int_eq}
use Rattle.std.specs.List.{count_by}
use Rattle.std.proofs.lemmas.Bool.{false≢true}
use Rattle.std.proofs.lemmas.Bool.Decides.{Decides-int_eq, nat_tests, same_from_decides}
use Rattle.std.proofs.lemmas.List.{get_or-map, length-map}
use Rattle.std.proofs.lemmas.List.Elements.{All-head, All-tail}
use Rattle.std.proofs.lemmas.List.Sums.{sum_by-cons}
use Rattle.vortex_buffer.specs.declared.compare_operator.CompareOperator.{CompareOperator}
use Rattle.vortex_buffer.specs.declared.compare_operator.CompareOperator.TheVariants.{Eq, Lt}
use Rattle.vortex_array_types.specs.Order.{compares}
use Rattle.vortex_array_types.specs.Row.{Column, is_nullable, nullability, value_fits}
use Rattle.vortex_array_types.specs.Truth.{both}
use Rattle.vortex_array_types.specs.Typed.{same_apart_from_nullability, width_number}
use Rattle.vortex_array_types.specs.Widths.{nullable_form, with_nullability}
use Rattle.vortex_array_types.specs.declared.types.DType.{DType}
use Rattle.vortex_array_types.specs.declared.types.DType.TheVariants as dtype
use Rattle.vortex_array_types.specs.declared.types.Nullability.{Nullability}
use Rattle.vortex_array_types.specs.declared.types.Nullability.TheVariants as nulls
use Rattle.vortex_array_types.specs.declared.types.PType.{PType}
use Rattle.vortex_array_types.specs.declared.types.PType.TheVariants as width
use Rattle.vortex_array_types.specs.declared.scalar.Value.{Value}
use Rattle.vortex_array_types.specs.declared.scalar.Value.TheVariants as value
use Rattle.vortex_array_kinds.specs.Kinds.{bool_column, constant_column}
use Rattle.vortex_array_kinds.specs.Truths.{compared, either, truth_row}
use Rattle.vortex_array_kinds.specs.Validities.{has_none, nullability_of}
use Rattle.vortex_array_kinds.specs.declared.validity.Validity.{Validity}
use Rattle.vortex_array_kinds.specs.declared.validity.Validity.TheVariants.{NonNullable, AllValid, AllInvalid, Bits}
use Rattle.vortex_array_kinds.proofs.TruthColumns.{same_column}
use Rattle.vortex_array_select.specs.Selected.{IndexBelow, NamesRows, is_index_type, row_at}
use Rattle.vortex_dict.specs.Decoded.{decoded}
use Rattle.vortex_dict.proofs.Gathered.{beside}
use Rattle.vortex_dict.proofs.Repeats.{zero-fits}

-- an answer for each code, where a test of codes below n says of each what is true there
row_told : (operator : CompareOperator) (number : ℕ) (bits : List Bool) → ((i : ℕ) → i < length bits → compares operator (value.Int (pos i)) (value.Int (pos number)) ≡ get_or bits i false)
    → (c : Option Value) → IndexBelow (length bits) c → truth_row (both (compares operator) c (Some (value.Int (pos number)))) ≡ row_at (map (λ x. Some x) (map (λ b. value.Bool b) bits)) c
row_told operator number bits told (Some (value.Int (pos i))) l =
    ap (λ b. Some (value.Bool b)) (told i l)
    ∙ sym (get_or-map (λ x. Some x) (map (λ b. value.Bool b) bits) i (value.Bool false) None (rw length-map l) ∙ ap (λ x. Some x) (get_or-map (λ b. value.Bool b) bits i false (value.Bool false) l))
row_told operator number bits told None l = refl
row_told operator number bits told c l = absurd l

rows_told : (operator : CompareOperator) (number : ℕ) (bits : List Bool) → ((i : ℕ) → i < length bits → compares operator (value.Int (pos i)) (value.Int (pos number)) ≡ get_or bits i false)
    → (cs : List (Option Value)) → All (IndexBelow (length bits)) cs → map (λ c. truth_row (both (compares operator) c (Some (value.Int (pos number))))) cs ≡ map (row_at (map (λ x. Some x) (map (λ b. value.Bool b) bits))) cs
rows_told operator number bits told [] all = refl
rows_told operator number bits told (c ∷ cs) all =
    ap (λ r. r ∷ map (λ d. truth_row (both (compares operator) d (Some (value.Int (pos number))))) cs) (row_told operator number bits told c (All-head (IndexBelow (length bits)) c cs all))
    ∙ ap (λ rs. row_at (map (λ x. Some x) (map (λ b. value.Bool b) bits)) c ∷ rs) (rows_told operator number bits told cs (All-tail (IndexBelow (length bits)) c cs all))

told_type : (t : DType) (n : Nullability) → dtype.Bool (either (nullability t) (nullability (with_nullability n t))) ≡ cond (is_nullable t) (nullable_form (dtype.Bool n)) (dtype.Bool n)
told_type (dtype.Bool nulls.Nullable) n = refl
told_type (dtype.Bool nulls.NonNullable) n = refl
told_type (dtype.Primitive w nulls.Nullable) n = refl
told_type (dtype.Primitive w nulls.NonNullable) n = refl
told_type (dtype.Decimal d nulls.Nullable) n = refl
told_type (dtype.Decimal d nulls.NonNullable) n = refl
told_type (dtype.Utf8 nulls.Nullable) n = refl
told_type (dtype.Utf8 nulls.NonNullable) n = refl
told_type (dtype.Binary nulls.Nullable) n = refl
told_type (dtype.Binary nulls.NonNullable) n = refl

-- a test of codes that tells what is true at each place answers as the truth values at the codes
pub told-column : (operator : CompareOperator) (number : ℕ) (bits : List Bool) (v : Validity) (codes : Column) → IsTrue (has_none v) → ((i : ℕ) → i < length bits → compares operator (value.Int (pos i)) (value.Int (pos number)) ≡ get_or bits i false)
    → NamesRows codes (length (bool_column (record { values = bits; validity = v })).rows)
    → compared operator codes (constant_column (record { scalar = record { dtype = with_nullability (nullability_of v) codes.dtype; value = Some (value.Int (pos number)) }; len = length codes.rows })) ≡ decoded codes (bool_column (record { values = bits; validity = v }))
told-column operator number bits NonNullable codes e told names = same_column _ _ _ _
    (told_type codes.dtype nulls.NonNullable)
    (beside (compares operator) (Some (value.Int (pos number))) codes.rows (length codes.rows) refl
    ∙ rows_told operator number bits told codes.rows (subst (λ n. All (IndexBelow n) codes.rows) (length-map (map (λ b. value.Bool b) bits) (λ x. Some x) ∙ length-map bits (λ b. value.Bool b)) names.below))
told-column operator number bits AllValid codes e told names = same_column _ _ _ _
    (told_type codes.dtype nulls.Nullable)
    (beside (compares operator) (Some (value.Int (pos number))) codes.rows (length codes.rows) refl
    ∙ rows_told operator number bits told codes.rows (subst (λ n. All (IndexBelow n) codes.rows) (length-map (map (λ b. value.Bool b) bits) (λ x. Some x) ∙ length-map bits (λ b. value.Bool b)) names.below))
told-column operator number bits AllInvalid codes e told names = absurd (false≢true e)
told-column operator number bits (Bits set) codes e told names = absurd (false≢true e)

-- no number is below 0
pub none-below : (i : ℕ) (bits : List Bool) → get_or bits i false ≡ false → compares Lt (value.Int (pos i)) (value.Int (pos 0)) ≡ get_or bits i false
none-below i bits e = below_zero i ∙ sym e
  where
    below_zero : (n : ℕ) → compares Lt (value.Int (pos n)) (value.Int (pos 0)) ≡ false
    below_zero n = grind (arith, nat_tests)

-- a number is the place of the only truth exactly where it is true there
pub only-there : (i place : ℕ) (bits : List Bool) → ((k : ℕ) → get_or bits k false ≡ true → k ≡ place) → get_or bits place false ≡ true → compares Eq (value.Int (pos i)) (value.Int (pos place)) ≡ get_or bits i false
only-there i place bits only there = same_from_decides (int_eq (pos i) (pos place)) (get_or bits i false)
    ((λ e. let same : pos i ≡ pos place = (Decides-int_eq (pos i) (pos place)).0 e in cc), λ e. (Decides-int_eq (pos i) (pos place)).1 (ap (λ n. pos n) e))
    ((λ e. only i e), λ e. ap (λ n. get_or bits n false) e ∙ there)

count_cons : (b : Bool) (bits : List Bool) → count_by (λ bit. bit) (b ∷ bits) ≡ cond {A = ℕ} b 1 0 + count_by (λ bit. bit) bits
count_cons b bits = sum_by-cons (λ bit. cond {A = ℕ} bit 1 0) b bits

not_counted : (bits : List Bool) (i : ℕ) → count_by (λ bit. bit) bits ≡ 0 → get_or bits i false ≡ false
not_counted [] i e = refl
not_counted (true ∷ bits) i e = absurd (omega (arith, e, count_cons true bits))
not_counted (false ∷ bits) zero e = refl
not_counted (false ∷ bits) (suc i) e = not_counted bits i (omega (arith, e, count_cons false bits))

-- one bit is set in all
pub counted-once : (bits : List Bool) (place i : ℕ) → count_by (λ bit. bit) bits ≡ 1 → get_or bits place false ≡ true → get_or bits i false ≡ true → i ≡ place
counted-once [] place i e p h = absurd (false≢true h)
counted-once (true ∷ bits) zero zero e p h = refl
counted-once (true ∷ bits) zero (suc i) e p h = absurd (false≢true (sym (not_counted bits i (omega (arith, e, count_cons true bits))) ∙ h))
counted-once (true ∷ bits) (suc place) i e p h = absurd (false≢true (sym (not_counted bits place (omega (arith, e, count_cons true bits))) ∙ p))
counted-once (false ∷ bits) zero i e p h = absurd (false≢true p)
counted-once (false ∷ bits) (suc place) zero e p h = absurd (false≢true h)
counted-once (false ∷ bits) (suc place) (suc i) e p h = ap suc (counted-once bits place i (omega (arith, e, count_cons false bits)) p h)

-- no bit is set
pub unset-at : (bits : List Bool) (i : ℕ) → bits ≡ replicate (length bits) false → get_or bits i false ≡ false
unset-at bits i e = ap (λ bs. get_or bs i false) e ∙ unset (length bits) i
  where
    unset : (n k : ℕ) → get_or (replicate n false) k false ≡ false
    unset zero k = refl
    unset (suc n) zero = refl
    unset (suc n) (suc k) = unset n k

-- 0 is a code of each type of codes
pub zero-code : (t : DType) → IsTrue (is_index_type t) → IsTrue (value_fits t (value.Int (pos 0)))
zero-code (dtype.Primitive w n) h = zero-fits w
zero-code (dtype.Bool n) h = absurd (false≢true h)
zero-code (dtype.Decimal d n) h = absurd (false≢true h)
zero-code (dtype.Utf8 n) h = absurd (false≢true h)
zero-code (dtype.Binary n) h = absurd (false≢true h)

width_itself : (w : PType) → IsTrue (width_number w == width_number w)
width_itself width.U8 = refl
width_itself width.U16 = refl
width_itself width.U32 = refl
width_itself width.U64 = refl
width_itself width.I8 = refl
width_itself width.I16 = refl
width_itself width.I32 = refl
width_itself width.I64 = refl

-- a type of codes is the same with nulls or without
pub code-kind : (t : DType) (n : Nullability) → IsTrue (is_index_type t) → IsTrue (same_apart_from_nullability t (with_nullability n t))
code-kind (dtype.Primitive w k) n h = width_itself w
code-kind (dtype.Bool k) n h = absurd (false≢true h)
code-kind (dtype.Decimal d k) n h = absurd (false≢true h)
code-kind (dtype.Utf8 k) n h = absurd (false≢true h)
code-kind (dtype.Binary k) n h = absurd (false≢true h)
