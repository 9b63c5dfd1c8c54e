-- The rows of a split by its chunks, and what a filter says of each of them.
use Rattle.std.specs.Prelude.{◌≡◌, ℕ, List, [], ◌∷◌, length, map, Bool, true, Option, Some, None, is_some, slice_get, unwrap_or, if◌then◌else◌}
use Rattle.std.specs.List.{AllZip, range_with_len}
use Rattle.std.specs.Str.{bytes_eq}
use Rattle.vortex_array_types.specs.declared.column.ColumnDesc.{ColumnDesc}
use Rattle.vortex_array_types.specs.declared.filter.Filter.{Filter}
use Rattle.vortex_array_types.specs.declared.filter.Operand.{Operand}
use Rattle.vortex_array_types.specs.declared.filter.Operand.TheVariants.{Column as Named, Constant}
use Rattle.vortex_array_types.specs.declared.scalar.Value.{Value}
use Rattle.vortex_array_types.specs.Cells.{Row, cell_of}
use Rattle.vortex_array_types.specs.Truth.{Cells, operand_value, truth}
use Rattle.vortex_table_chunks.specs.declared.chunk.Chunk.{Chunk}
use Rattle.vortex_table_chunks.specs.ChunkOf.{chunk_column}

-- the chunk of the column with this name, if it is there
abbrev pub chunk_of : List ColumnDesc → List (Option Chunk) → List ℕ → Option Chunk
chunk_of [] chunks name = None
chunk_of (column ∷ columns) [] name = None
chunk_of (column ∷ columns) (chunk ∷ chunks) name = if bytes_eq column.name name then chunk else chunk_of columns chunks name

-- the chunk of the column with this name is there
abbrev pub IsThere : List ColumnDesc → List (Option Chunk) → List ℕ → Type 0
IsThere columns chunks name = is_some (chunk_of columns chunks name) ≡ true

-- a chunk has so many rows, of the column's type
pub record IsPartOf (n : ℕ) (column : ColumnDesc) (chunk : Chunk) : Type 0 where
  pub rows : length (chunk_column chunk).rows ≡ n
  pub dtype : (chunk_column chunk).dtype ≡ column.dtype

-- and so, if it is there
abbrev pub IsPartOrMissing : ℕ → ColumnDesc → Option Chunk → Type 0
IsPartOrMissing n column None = Unit {0}
IsPartOrMissing n column (Some chunk) = IsPartOf n column chunk

-- for each column its chunk of so many rows, or none
abbrev pub FitColumns : ℕ → List ColumnDesc → List (Option Chunk) → Type 0
FitColumns n columns chunks = AllZip (IsPartOrMissing n) columns chunks

-- row i of a chunk: null where the chunk is missing
abbrev pub chunk_row : ℕ → Option Chunk → Option Value
chunk_row i None = None
chunk_row i (Some chunk) = unwrap_or (slice_get (chunk_column chunk).rows i) None

-- row i of all chunks
abbrev pub split_row : List (Option Chunk) → ℕ → Row
split_row chunks i = map (chunk_row i) chunks

-- what stands under a name in row i
abbrev pub cells_at : List ColumnDesc → List (Option Chunk) → ℕ → Cells
cells_at columns chunks i = cell_of columns (split_row chunks i)

-- each of n rows
abbrev pub cells_of : List ColumnDesc → List (Option Chunk) → ℕ → List Cells
cells_of columns chunks n = map (cells_at columns chunks) (range_with_len 0 n)

-- an operand's value in each of some rows
abbrev pub values_of : List Cells → Operand → List (Option Value)
values_of rows x = map (λ cells. operand_value cells x) rows

-- the truth of a filter for each of some rows
abbrev pub truths_of : List Cells → Filter → List (Option Bool)
truths_of rows filter = map (λ cells. truth cells filter) rows

-- the operand is a constant, or its column's chunk is there
abbrev pub IsOperand : List ColumnDesc → List (Option Chunk) → Operand → Type 0
IsOperand columns chunks (Named name) = IsThere columns chunks name
IsOperand columns chunks (Constant scalar) = Unit {0}
