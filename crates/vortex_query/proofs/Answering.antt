-- The batches of an answer show what was asked.
use Rattle.std.proofs.Common.{◌≡◌, ◌<◌, ◌∙◌, ap, refl, arith, ℕ, List, [], ◌∷◌, length, map, true, None, get_or}
use Rattle.std.specs.Prelude.{All}
use Rattle.std.specs.Str.{bytes_eq}
use Rattle.std.proofs.lemmas.List.{get_or-map, length-map}
use Rattle.std.proofs.lemmas.Slice.Eq.{bytes_eq-Decides}
use Rattle.vortex_array.specs.declared.arrays.Array.{Array}
use Rattle.vortex_array_types.specs.declared.types.DType.{DType}
use Rattle.vortex_array_types.specs.declared.column.ColumnDesc.{ColumnDesc}
use Rattle.vortex_array.specs.ColumnOf.{column_of}
use Rattle.vortex_array_types.specs.Row.{Column}
use Rattle.vortex_scan_types.specs.declared.batch.Batch.{Batch}
use Rattle.vortex_scan_types.specs.declared.request.Projection.{Projection}
use Rattle.vortex_scan_types.specs.declared.request.Projection.TheVariants as projection
use Rattle.vortex_table_types.specs.Answers.{Answers, Asked, columns_of, stands_for}
use Rattle.vortex_table.specs.Built.{u64_type}
use Rattle.vortex_table_types.specs.Chosen.{Placed, projected_types}
use Rattle.vortex_table.specs.Given.{given}
use Rattle.vortex_scan_types.specs.Valid.{first_unknown}
use Rattle.vortex_table_types.proofs.Joined.{chosen_full, ordered_joined}
use Rattle.vortex_query.specs.Query.{Query, Shows, question_of}
use Rattle.vortex_query.specs.Shown.{IsOneU64Batch, IsOneU64Column, rows_of}
use Rattle.vortex_query.specs.Text.{text}

-- ---- the types of an answer

same_bytes : (bytes : List ℕ) → bytes_eq bytes bytes ≡ true
same_bytes bytes = (bytes_eq-Decides bytes bytes).1 refl

-- all of the one column is that type
pub one_type : (columns : List ColumnDesc) (p : Projection) → IsOneU64Column columns → p ≡ projection.All → projected_types columns p ≡ u64_type ∷ []
one_type [] p e all = absurd (cc e)
one_type (c ∷ []) p e all = rw (all, same_bytes c.name) e
one_type (c ∷ d ∷ rest) p e all = absurd (cc e)

types_map : (arrays : List Array) → map (λ a. (column_of a).dtype) arrays ≡ map (λ (c : Column). c.dtype) (map column_of arrays)
types_map [] = refl
types_map (a ∷ arrays) = ap (λ r. (column_of a).dtype ∷ r) (types_map arrays)

-- columns of that one type
one_dtype : (types : List DType) (rows : List Placed) → types ≡ u64_type ∷ [] → map (λ (c : Column). c.dtype) (columns_of types rows) ≡ u64_type ∷ []
one_dtype types rows e = rw e refl

-- each batch of an answer has one column of that type
pub one_column_each : (a : Asked) (batches : List Batch) → Answers a (map given batches) → a.types ≡ u64_type ∷ [] → All IsOneU64Batch batches
one_column_each a batches answer e k d lt =
    let b = get_or batches k d in
    let long : k < length (map given batches) = omega (arith, lt, length-map batches given) in
    let p = rw (get_or-map given batches k d (given d) lt) at (answer.prefixes k (given d) long) in
    types_map b.array.columns ∙ ap (map (λ (c : Column). c.dtype)) p.columns ∙ one_dtype a.types (stands_for a.rows (given b)) e

-- ---- what is shown

-- the text of the batches of an answer shows it
pub shows_answer : (query : Query) (batches : List Batch) (shown : List ℕ) → Answers (question_of query) (map given batches) → first_unknown query.table.columns query.request ≡ None
    → shown ≡ text query.table.columns query.request.projection (rows_of batches) → Shows query shown
shows_answer query batches shown answer known e = record {
  batches = map given batches;
  answers = answer;
  rows = e;
  in_order = λ ordered. e ∙ ap (text query.table.columns query.request.projection)
      (ordered_joined (question_of query) (map given batches) (chosen_full query.table.columns query.table.partitions query.table.contents query.request known) ordered answer);
}
