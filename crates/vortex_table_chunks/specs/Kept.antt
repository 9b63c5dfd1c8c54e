-- The rows of a split that are kept, and the columns of a batch of them.
use Rattle.std.specs.Prelude.{◌≡◌, ℕ, List, length, map, filter, Bool, IsTrue, Option, Some, None}
use Rattle.std.specs.List.{AllZip, range_with_len}
use Rattle.vortex_array_types.specs.declared.column.ColumnDesc.{ColumnDesc}
use Rattle.vortex_array_types.specs.declared.filter.Filter.{Filter}
use Rattle.vortex_array_types.specs.Cells.{cell_of, dtype_of}
use Rattle.vortex_array_types.specs.Row.{Column}
use Rattle.vortex_array_types.specs.Truth.{Cells, keeps}
use Rattle.vortex_array_rows.specs.Kept.{kept_by}
use Rattle.vortex_array.specs.declared.arrays.Array.{Array}
use Rattle.vortex_array.specs.Batch.{BatchParts}
use Rattle.vortex_array.specs.ColumnOf.{column_of, is_plain}
use Rattle.vortex_table_types.specs.Table.{row_at}
use Rattle.vortex_table_chunks.specs.declared.chunk.Chunk.{Chunk}
use Rattle.vortex_table_chunks.specs.ChunkOf.{chunk_column}

-- what stands under the names in each of n rows
abbrev pub rows_of : List ColumnDesc → List Column → ℕ → List Cells
rows_of columns contents n = map (λ i. cell_of columns (row_at contents i)) (range_with_len 0 n)

-- the rows whose bit is set, and of which the filter is true, or there is none
abbrev pub kept_rows : Option Filter → List Bool → List Cells → List Cells
kept_rows condition bits rows = filter (keeps condition) (kept_by bits rows)

-- the chunk stands for the column, or is missing
abbrev pub StandsFor : Option Chunk → Column → Type 0
StandsFor None column = Unit {0}
StandsFor (Some chunk) column = chunk_column chunk ≡ column

-- a plain array of what stands under a name in the kept rows, of the column's type
pub record HoldsNamed (columns : List ColumnDesc) (kept : List Cells) (name : List ℕ) (array : Array) : Type 0 where
  pub dtype : dtype_of columns name ≡ Some (column_of array).dtype
  pub rows : (column_of array).rows ≡ map (λ cells. cells name) kept
  pub plain : IsTrue (is_plain array)

-- a batch of the kept rows, with an array for each name
pub record IsBatchOf (columns : List ColumnDesc) (names : List (List ℕ)) (kept : List Cells) (batch : BatchParts) : Type 0 where
  pub rows : batch.rows ≡ length kept
  pub arrays : AllZip (HoldsNamed columns kept) names batch.columns
