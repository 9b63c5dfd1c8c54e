-- The answers of columns of truth values.
use Rattle.std.proofs.Common.{ℕ, ◌≡◌, ◌∙◌, refl, sym, ap, Bool, true, false, not, List, [], ◌∷◌, length, map, replicate, Option, Some, None}
use Rattle.std.specs.Prelude.{◌↔◌, IsTrue, is_none, is_some, option_map}
use Rattle.std.specs.Simd.Lanes.{zip2}
use Rattle.std.proofs.lemmas.List.{length-map}
use Rattle.std.proofs.lemmas.Simd.{zip2_splat}
use Rattle.vortex_array_types.specs.declared.types.DType.TheVariants as dtype
use Rattle.vortex_array_types.specs.declared.types.Nullability.{Nullability}
use Rattle.vortex_array_types.specs.declared.scalar.Value.{Value}
use Rattle.vortex_array_types.specs.declared.scalar.Value.TheVariants as value
use Rattle.vortex_array_types.specs.Row.{Column, TypedRow, nullability}
use Rattle.vortex_array_types.specs.Truth.{both, is_like}
use Rattle.vortex_array_predicates.specs.Predicates.{matches_text}
use Rattle.vortex_array_kinds.specs.Kinds.{bool_column, constant_column}
use Rattle.vortex_array_kinds.specs.Parts.{PlainParts}
use Rattle.vortex_array_kinds.specs.Truths.{answer_in, answers, either_column, liked, truth_row, truths}
use Rattle.vortex_array_kinds.specs.Validities.{is_as_long, nullability_of, row_of, valid_bits}
use Rattle.vortex_array_kinds.specs.declared.validity.Validity.{Validity}
use Rattle.vortex_array_kinds.specs.declared.validity.Validity.TheVariants.{NonNullable}
use Rattle.vortex_array_kinds.proofs.TruthColumns.{truth-column}
use Rattle.vortex_array_kinds.proofs.TruthLaws.{answers-back}
use Rattle.vortex_array_kinds.proofs.TruthRows.{cons_same, truth_rows}
use Rattle.vortex_dict.specs.Answered.{tested}
use Rattle.vortex_dict.proofs.Held.{held}
use Rattle.vortex_table_chunks.proofs.Listed.{map-same}

-- the answers of a column that is made of answers
pub answers-of : (c : Column) (n : Nullability) (given : List (Option Bool)) → c ≡ truths n given → answers c ≡ given
answers-of c n given e = ap answers e ∙ answers-back given

like_row : (pattern : List ℕ) (row : Option Value) → option_map (matches_text pattern) row ≡ both is_like row (Some (value.Utf8 pattern))
like_row pattern None = refl
like_row pattern (Some v) = refl

-- a pattern asked of each row
pub tested-like : (pattern : List ℕ) (truth : Value → Bool) (c made : Column) → truth ≡ matches_text pattern → made ≡ tested truth c → answers made ≡ map (λ row. both is_like row (Some (value.Utf8 pattern))) c.rows
tested-like pattern truth c made same is =
    answers-of made _ (map (option_map truth) c.rows) is ∙ ap (λ t. map (option_map t) c.rows) same ∙ map-same _ _ c.rows (like_row pattern)

-- equal patterns, one for each row
pub liked-equal : (c p made : Column) (row : TypedRow) (len : ℕ) → p ≡ constant_column (record { scalar = row; len = len }) → length c.rows ≡ len → made ≡ liked c p → answers made ≡ map (λ r. both is_like r row.value) c.rows
liked-equal c p made row len same long is =
    answers-of made (either_column c p) (zip2 (both is_like) c.rows p.rows) is ∙ ap (λ (q : Column). zip2 (both is_like) c.rows q.rows) same ∙ zip2_splat (both is_like) c.rows len row.value long

-- null is like nothing, and nothing is like null
like_null : (row : Option Value) → None ≡ both is_like row None
like_null None = refl
like_null (Some v) = refl

-- a pattern that is null
pub liked-null : (c made : Column) (pattern : Option Value) (n : Nullability) (len : ℕ) → None ≡ pattern → len ≡ length c.rows → made ≡ truths n (replicate len None) → answers made ≡ map (λ row. both is_like row pattern) c.rows
liked-null c made pattern n len none long is =
    answers-of made n (replicate len None) is
    ∙ ap (λ m. replicate m None) long
    ∙ all_null c.rows
    ∙ ap (λ p. map (λ row. both is_like row p) c.rows) none
  where
    all_null : (rows : List (Option Value)) → replicate (length rows) None ≡ map (λ row. both is_like row None) rows
    all_null [] = refl
    all_null (row ∷ rows) = cons_same _ _ _ _ (like_null row) (all_null rows)

-- the bits of the rows that are null
null_bits : (rows : List (Option Value)) → map answer_in (map (λ v. Some v) (map (λ b. value.Bool b) (map not (map is_some rows)))) ≡ map (λ row. Some (is_none row)) rows
null_bits [] = refl
null_bits (None ∷ rows) = ap (λ rest. Some true ∷ rest) (null_bits rows)
null_bits (Some v ∷ rows) = ap (λ rest. Some false ∷ rest) (null_bits rows)

-- whether a row is null, by the bits of the rows that are not
pub null-answers : (rows : List (Option Value)) (present nulls : List Bool) (made : PlainParts (List Bool)) → present ≡ map is_some rows → nulls ≡ map not present → made ≡ record { values = nulls; validity = NonNullable }
    → answers (bool_column made) ≡ map (λ row. Some (is_none row)) rows
null-answers rows present nulls made told turned is =
    ap (λ (a : PlainParts (List Bool)). answers (bool_column a)) is
    ∙ ap (λ bits. map answer_in (map (λ v. Some v) (map (λ b. value.Bool b) bits))) (turned ∙ ap (map not) told)
    ∙ null_bits rows

-- a test of null
pub null-told : {X : Type 0} (x : Option X) (b : Bool) → IsTrue b ↔ (x ≡ None) → b ≡ is_none x
null-told None b h = h.1 refl
null-told (Some v) true h = cc (h.0 refl)
null-told (Some v) false h = refl

-- the truth of a row that was read
truth_held : (truth : Value → Bool) (row : Option Value) → row_of (value.Bool (held truth row)) (is_some row) ≡ truth_row (option_map truth row)
truth_held truth None = refl
truth_held truth (Some v) = refl

truths_held : (truth : Value → Bool) (rows : List (Option Value)) → truth_rows (map (held truth) rows) (map is_some rows) ≡ map truth_row (map (option_map truth) rows)
truths_held truth [] = refl
truths_held truth (row ∷ rows) = cons_same _ _ _ _ (truth_held truth row) (truths_held truth rows)

-- the truths of a column's rows, under a validity that shows its rows
pub held-shown : (truth : Value → Bool) (c : Column) (bits : List Bool) (v : Validity) → bits ≡ map (held truth) c.rows → nullability_of v ≡ nullability c.dtype → valid_bits v (length c.rows) ≡ map is_some c.rows
    → bool_column (record { values = bits; validity = v }) ≡ tested truth c
held-shown truth c bits v is kind present =
    truth-column bits v (length c.rows) (nullability c.dtype) (map (option_map truth) c.rows) (map is_some c.rows) (ap length is ∙ length-map c.rows (held truth)) kind present
    (ap (λ bs. truth_rows bs (map is_some c.rows)) is ∙ truths_held truth c.rows)
