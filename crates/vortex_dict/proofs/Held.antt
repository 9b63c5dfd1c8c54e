-- Truths of values under a validity.
use Rattle.std.proofs.Common.{ℕ, ◌+◌, ◌<◌, ◌≡◌, ◌++◌, get_or, length, take, Bool, true, false, List, [], ◌∷◌, map, replicate, refl, sym, ap, ◌∙◌, Option, Some, None}
use Rattle.std.specs.Prelude.{IsTrue, option_map, unwrap_or}
use Rattle.std.specs.Simd.Lanes.{zip2}
use Rattle.std.proofs.lemmas.List.{map_more}
use Rattle.vortex_buffer.proofs.Bits.{map-replicate}
use Rattle.vortex_array_types.specs.Row.{fits_type, is_nullable, nullability}
use Rattle.vortex_array_types.specs.Widths.{with_nullability}
use Rattle.vortex_array_types.specs.declared.types.DType.{DType}
use Rattle.vortex_array_types.specs.declared.types.DType.TheVariants as dtype
use Rattle.vortex_array_types.specs.declared.types.Nullability.{Nullability}
use Rattle.vortex_array_types.specs.declared.types.Nullability.TheVariants as nulls
use Rattle.vortex_array_types.specs.declared.scalar.Value.{Value}
use Rattle.vortex_array_types.specs.declared.scalar.Value.TheVariants as value
use Rattle.vortex_array_types.proofs.SameTypes.{nulls-with}
use Rattle.vortex_array_kinds.specs.Kinds.{bool_column, constant_column, plain_column}
use Rattle.vortex_array_kinds.specs.Parts.{ConstantParts, PlainParts}
use Rattle.vortex_array_kinds.specs.Truths.{truth_row, truths}
use Rattle.vortex_array_kinds.specs.Validities.{nullability_of, row_of, rows_under}
use Rattle.vortex_array_kinds.specs.declared.validity.Validity.{Validity}
use Rattle.vortex_array_kinds.specs.declared.validity.Validity.TheVariants.{NonNullable, AllValid, AllInvalid, Bits}
use Rattle.vortex_array_kinds.proofs.TruthColumns.{same_column}
use Rattle.vortex_dict.specs.Answered.{tested}

-- the truth of a row, false where it is null
abbrev pub held : (Value → Bool) → Option Value → Bool
held truth row = unwrap_or (option_map truth row) false

-- the truth of a row that was read, by a test of the same truth
pub held-here : (asked truth : Value → Bool) (seen row : Option Value) (b : Bool) → b ≡ held asked seen → asked ≡ truth → seen ≡ row → b ≡ held truth row
held-here asked truth seen row b is same there = is ∙ ap (λ t. held t seen) same ∙ ap (held truth) there

-- the truths of one more row
pub held-more : (truth : Value → Bool) (rows : List (Option Value)) (i : ℕ) (bits pushed : List Bool) (b : Bool) → i < length rows → bits ≡ map (held truth) (take i rows) → b ≡ held truth (get_or rows i None) → pushed ≡ bits ++ b ∷ []
    → pushed ≡ map (held truth) (take (i + 1) rows)
held-more truth rows i bits pushed b inside so_far here is =
    is
    ∙ ap (λ bs. bs ++ b ∷ []) so_far
    ∙ ap (λ x. map (held truth) (take i rows) ++ x ∷ []) here
    ∙ sym (map_more (held truth) rows i None inside)

present_held : (truth : Value → Bool) (xs : List Value) → map (λ x. Some x) (map (λ b. value.Bool b) (map (held truth) (map (λ x. Some x) xs))) ≡ map truth_row (map (option_map truth) (map (λ x. Some x) xs))
present_held truth [] = refl
present_held truth (x ∷ xs) = ap (λ rs. Some (value.Bool (truth x)) ∷ rs) (present_held truth xs)

null_held : (truth : Value → Bool) (xs : List Value) → rows_under AllInvalid (map (λ b. value.Bool b) (map (held truth) (rows_under AllInvalid xs))) ≡ map truth_row (map (option_map truth) (rows_under AllInvalid xs))
null_held truth [] = refl
null_held truth (x ∷ xs) = ap (λ rs. None ∷ rs) (null_held truth xs)

bits_held : (truth : Value → Bool) (xs : List Value) (bits : List Bool) → zip2 row_of (map (λ b. value.Bool b) (map (held truth) (zip2 row_of xs bits))) bits ≡ map truth_row (map (option_map truth) (zip2 row_of xs bits))
bits_held truth [] bits = refl
bits_held truth (x ∷ xs) [] = refl
bits_held truth (x ∷ xs) (true ∷ bits) = ap (λ rs. Some (value.Bool (truth x)) ∷ rs) (bits_held truth xs bits)
bits_held truth (x ∷ xs) (false ∷ bits) = ap (λ rs. None ∷ rs) (bits_held truth xs bits)

held_rows : (truth : Value → Bool) (v : Validity) (xs : List Value) → rows_under v (map (λ b. value.Bool b) (map (held truth) (rows_under v xs))) ≡ map truth_row (map (option_map truth) (rows_under v xs))
held_rows truth NonNullable xs = present_held truth xs
held_rows truth AllValid xs = present_held truth xs
held_rows truth AllInvalid xs = null_held truth xs
held_rows truth (Bits bits) xs = bits_held truth xs bits

-- the truths of a plain array's rows, under its validity, are the truths of the array
pub held-column : {X : Type 0} (type_of : X → Nullability → DType) (items : X → List Value) → ((x : X) (m n : Nullability) → type_of x n ≡ with_nullability n (type_of x m)) → (a : PlainParts X) (truth : Value → Bool) (bits : List Bool)
    → bits ≡ map (held truth) (plain_column type_of items a).rows → bool_column (record { values = bits; validity = a.validity }) ≡ tested truth (plain_column type_of items a)
held-column type_of items alike a truth bits is =
    let n : Nullability = nullability_of a.validity in
    same_column _ _ _ _
    (ap (λ k. dtype.Bool k) (sym (ap nullability (alike a.values n n) ∙ nulls-with n (type_of a.values n))))
    (ap (λ bs. rows_under a.validity (map (λ b. value.Bool b) bs)) is ∙ held_rows truth a.validity (items a.values))

-- equal rows have equal truths
pub equal-held : (truth : Value → Bool) (k : ConstantParts) (n : Nullability) (len : ℕ) (answer : Option Bool) → n ≡ nullability k.scalar.dtype → len ≡ k.len → answer ≡ option_map truth k.scalar.value
    → truths n (replicate len answer) ≡ tested truth (constant_column k)
equal-held truth k n len answer kind long is = same_column _ _ _ _
    (ap (λ m. dtype.Bool m) kind)
    (ap (λ m. map truth_row (replicate m answer)) long ∙ ap (λ r. map truth_row (replicate k.len r)) is ∙ ap (map truth_row) (sym (map-replicate (option_map truth) k.len k.scalar.value)))

nullable_kind : (t : DType) → IsTrue (is_nullable t) → nulls.Nullable ≡ nullability t
nullable_kind t h = by_kind (nullability t) refl h
  where
    by_kind : (n : Nullability) → nullability t ≡ n → IsTrue (is_nullable t) → nulls.Nullable ≡ nullability t
    by_kind nulls.Nullable e h = sym e
    by_kind nulls.NonNullable e h = absurd (cc (rw e at h))

-- null rows are of a type with nulls
pub null-kind : (k : ConstantParts) → None ≡ k.scalar.value → IsTrue (fits_type k.scalar.dtype k.scalar.value) → nulls.Nullable ≡ nullability k.scalar.dtype
null-kind k is fits =
    let nullable : IsTrue (is_nullable k.scalar.dtype) = rw (sym is) at fits in
    nullable_kind k.scalar.dtype nullable
