-- A table: its description, the content of its sources, and the rows that both make.
use Rattle.std.specs.Prelude.{◌≡◌, ℕ, ◌+◌, List, [], ◌∷◌, ◌++◌, length, map, zip, flat_map, None, slice_get, unwrap_or, IsTrue}
use Rattle.std.specs.List.{range_with_len, AllZip}
use Rattle.vortex_array_types.specs.declared.column.ColumnDesc.{ColumnDesc}
use Rattle.vortex_table_types.specs.declared.describe.ChunkDesc.{ChunkDesc}
use Rattle.vortex_table_types.specs.declared.describe.SplitDesc.{SplitDesc}
use Rattle.vortex_table_types.specs.declared.describe.PartitionDesc.{PartitionDesc}
use Rattle.vortex_scan_types.specs.declared.batch.WorkScope.{WorkScope}
use Rattle.vortex_array_types.specs.Row.{Column, fits_column}
use Rattle.vortex_array_types.specs.Cells.{Row}

-- what a source holds: for each split and each column a chunk, seen as a column
abbrev pub Content : Type 0
Content = List (List Column)

-- the chunk has the described number of rows and type
pub record FitsChunk (described : ChunkDesc) (chunk : Column) : Type 0 where
  pub rows : length chunk.rows ≡ described.rows
  pub dtype : chunk.dtype ≡ described.dtype
  pub fits : IsTrue (fits_column chunk)

-- the content has the partition's splits and the table's columns
abbrev pub FitsPartition : PartitionDesc → Content → Type 0
FitsPartition partition content = AllZip (λ split columns. AllZip FitsChunk split.chunks columns) partition.splits content

-- row i of the chunks of a split
abbrev pub row_at : List Column → ℕ → Row
row_at columns i = map (λ column. unwrap_or (slice_get column.rows i) None) columns

-- the rows of a split, as many as are described
abbrev pub split_rows : SplitDesc → List Column → List Row
split_rows split columns = map (row_at columns) (range_with_len 0 split.rows)

-- the rows of a partition: those of its splits joined in order
abbrev pub partition_rows : PartitionDesc → Content → List Row
partition_rows partition content = flat_map (λ s. split_rows s.0 s.1) (zip partition.splits content)

-- the columns, and the rows of each partition, numbered from 0
pub record Decoded : Type 0 where
  pub columns : List ColumnDesc
  pub partitions : List (List Row)

-- the table that a description and the content of its sources make
abbrev pub decoded : List ColumnDesc → List PartitionDesc → List Content → Decoded
decoded columns partitions contents = record { columns = columns; partitions = map (λ p. partition_rows p.0 p.1) (zip partitions contents) }

-- the scopes of the splits of partition p, the first from row `start` on
abbrev pub split_scopes : ℕ → ℕ → List SplitDesc → List WorkScope
split_scopes p start [] = []
split_scopes p start (split ∷ splits) =
    record { file_ordinal = p; rows = record { start = start; end = start + split.rows } } ∷ split_scopes p (start + split.rows) splits

-- the scopes of all splits, the first partition's number being p
abbrev pub scopes_from : ℕ → List PartitionDesc → List WorkScope
scopes_from p [] = []
scopes_from p (partition ∷ partitions) = split_scopes p 0 partition.splits ++ scopes_from (p + 1) partitions
