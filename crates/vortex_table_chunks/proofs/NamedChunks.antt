-- The chunk that a name stands for, and what stands under the name in each row.
use Rattle.std.proofs.Common.{ℕ, ◌≡◌, ◌∙◌, refl, sym, ap, subst, Bool, true, false, cond, List, [], ◌∷◌, length, map, replicate, Option, Some, None}
use Rattle.std.specs.Prelude.{slice_get, unwrap_or}
use Rattle.std.specs.List.{range_with_len}
use Rattle.std.specs.Str.{bytes_eq}
use Rattle.std.proofs.lemmas.List.FromFn.{fill_by_all, length-map-range_with_len}
use Rattle.std.proofs.lemmas.Option.{unwrap_or-slice_get}
use Rattle.std.proofs.lemmas.Simd.{splat_is_map}
use Rattle.vortex_array_types.specs.declared.column.ColumnDesc.{ColumnDesc}
use Rattle.vortex_array_types.specs.declared.filter.Operand.{Operand}
use Rattle.vortex_array_types.specs.declared.filter.Operand.TheVariants.{Column as Named, Constant}
use Rattle.vortex_array_types.specs.declared.scalar.Value.{Value}
use Rattle.vortex_array_types.specs.Cells.{cell_of, dtype_of}
use Rattle.vortex_array_types.specs.Row.{TypedRow}
use Rattle.vortex_array_types.specs.Truth.{Cells}
use Rattle.vortex_array_types.specs.Typed.{operand_type}
use Rattle.vortex_table_chunks.specs.declared.chunk.Chunk.{Chunk}
use Rattle.vortex_table_chunks.specs.ChunkOf.{chunk_column}
use Rattle.vortex_table_chunks.specs.Rows.{FitColumns, IsPartOf, IsPartOrMissing, cells_at, cells_of, chunk_of, chunk_row, split_row, values_of}
use Rattle.vortex_table_chunks.proofs.Listed.{map-maps, map-same}

-- what stands under a name in row i is row i of its chunk
pub cell-named : (columns : List ColumnDesc) (chunks : List (Option Chunk)) (name : List ℕ) (i : ℕ) → cells_at columns chunks i name ≡ chunk_row i (chunk_of columns chunks name)
cell-named [] chunks name i = refl
cell-named (column ∷ columns) [] name i = refl
cell-named (column ∷ columns) (chunk ∷ chunks) name i = by_test (bytes_eq column.name name) (cell-named columns chunks name i)
  where
    by_test : (b : Bool) → cell_of columns (split_row chunks i) name ≡ chunk_row i (chunk_of columns chunks name) → cond b (chunk_row i chunk) (cell_of columns (split_row chunks i) name) ≡ chunk_row i (cond b chunk (chunk_of columns chunks name))
    by_test true h = refl
    by_test false h = h

-- a chunk that a name stands for has the length of all and the type of the column
pub record IsNamed (columns : List ColumnDesc) (n : ℕ) (name : List ℕ) (chunk : Chunk) : Type 0 where
  pub rows : length (chunk_column chunk).rows ≡ n
  pub dtype : dtype_of columns name ≡ Some (chunk_column chunk).dtype

there : (n : ℕ) (column : ColumnDesc) (held : Option Chunk) (chunk : Chunk) → IsPartOrMissing n column held → held ≡ Some chunk → IsPartOf n column chunk
there n column held chunk h e = subst (IsPartOrMissing n column) e h

pub named-fits : (n : ℕ) (columns : List ColumnDesc) (chunks : List (Option Chunk)) (name : List ℕ) (chunk : Chunk) → FitColumns n columns chunks → chunk_of columns chunks name ≡ Some chunk → IsNamed columns n name chunk
named-fits n [] chunks name chunk h e = cc e
named-fits n (column ∷ columns) [] name chunk h e = cc e
named-fits n (column ∷ columns) (held ∷ chunks) name chunk h e = by_test (bytes_eq column.name name) refl e (named-fits n columns chunks name chunk h.1)
  where
    by_test : (b : Bool) → bytes_eq column.name name ≡ b → cond b held (chunk_of columns chunks name) ≡ Some chunk → (chunk_of columns chunks name ≡ Some chunk → IsNamed columns n name chunk) → IsNamed (column ∷ columns) n name chunk
    by_test true k e behind =
        let here : IsPartOf n column chunk = there n column held chunk h.0 e in
        record { rows = here.rows; dtype = ap (λ b. cond b (Some column.dtype) (dtype_of columns name)) k ∙ ap (λ t. Some t) (sym here.dtype) }
    by_test false k e behind =
        let rest : IsNamed columns n name chunk = behind e in
        record { rows = rest.rows; dtype = ap (λ b. cond b (Some column.dtype) (dtype_of columns name)) k ∙ rest.dtype }

-- rows read one by one
rows_read : (rows : List (Option Value)) (n : ℕ) → length rows ≡ n → map (λ i. unwrap_or (slice_get rows i) None) (range_with_len 0 n) ≡ rows
rows_read rows n e = sym (fill_by_all (λ i. unwrap_or (slice_get rows i) None) rows n None e (λ k h. sym (unwrap_or-slice_get rows k None)))

-- what stands under a name in all rows are the rows of its chunk
pub named-values : (n : ℕ) (columns : List ColumnDesc) (chunks : List (Option Chunk)) (name : List ℕ) (chunk : Chunk) → FitColumns n columns chunks → chunk_of columns chunks name ≡ Some chunk
    → map (λ cells. cells name) (cells_of columns chunks n) ≡ (chunk_column chunk).rows
named-values n columns chunks name chunk h e =
    let fits : IsNamed columns n name chunk = named-fits n columns chunks name chunk h e in
    map-maps (λ (cells : Cells). cells name) (cells_at columns chunks) (range_with_len 0 n)
    ∙ map-same _ _ (range_with_len 0 n) (λ i. cell-named columns chunks name i ∙ ap (chunk_row i) e)
    ∙ rows_read (chunk_column chunk).rows n fits.rows

-- and the values of an operand that names it
pub named-operand : (n : ℕ) (columns : List ColumnDesc) (chunks : List (Option Chunk)) (x : Operand) (name : List ℕ) (chunk : Chunk) → FitColumns n columns chunks → x ≡ Named name → chunk_of columns chunks name ≡ Some chunk
    → (chunk_column chunk).rows ≡ values_of (cells_of columns chunks n) x
named-operand n columns chunks x name chunk h is e = rw is (sym (named-values n columns chunks name chunk h e))

pub named-type : (n : ℕ) (columns : List ColumnDesc) (chunks : List (Option Chunk)) (x : Operand) (name : List ℕ) (chunk : Chunk) → FitColumns n columns chunks → x ≡ Named name → chunk_of columns chunks name ≡ Some chunk
    → Some (chunk_column chunk).dtype ≡ operand_type columns x
named-type n columns chunks x name chunk h is e =
    let fits : IsNamed columns n name chunk = named-fits n columns chunks name chunk h e in
    rw is (sym fits.dtype)

-- the values of a constant
pub constant-operand : (n : ℕ) (columns : List ColumnDesc) (chunks : List (Option Chunk)) (x : Operand) (scalar : TypedRow) → x ≡ Constant scalar → replicate n scalar.value ≡ values_of (cells_of columns chunks n) x
constant-operand n columns chunks x scalar is = rw is (splat_is_map (cells_of columns chunks n) n scalar.value (length-map-range_with_len (cells_at columns chunks) 0 n))

pub constant-type : (columns : List ColumnDesc) (x : Operand) (scalar : TypedRow) → x ≡ Constant scalar → Some scalar.dtype ≡ operand_type columns x
constant-type columns x scalar is = rw is refl
