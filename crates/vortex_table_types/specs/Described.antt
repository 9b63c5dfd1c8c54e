-- Which descriptions make a table, and how many steps its scan may take.
use Rattle.std.specs.Prelude.{◌≡◌, ◌≢◌, ℕ, ◌+◌, ◌*◌, ◌^◌, ◌<◌, List, [], length, sum_by, AllPairs, All, slice_index_or, ⊤}
use Rattle.std.specs.List.{AllZip}
use Rattle.vortex_array_types.specs.declared.column.ColumnDesc.{ColumnDesc}
use Rattle.vortex_io.specs.declared.request.Fetch.{Fetch}
use Rattle.vortex_table_types.specs.declared.describe.ChunkDesc.{ChunkDesc}
use Rattle.vortex_table_types.specs.declared.describe.SplitDesc.{SplitDesc}
use Rattle.vortex_table_types.specs.declared.describe.PartitionDesc.{PartitionDesc}
use Rattle.vortex_table_types.specs.declared.errors.TableError.{TableError}
use Rattle.vortex_table_types.specs.declared.errors.TableError.TheVariants.{RepeatedName, SourceCount, ChunkListDoesNotFit, TooLarge, OutOfMemory}

-- no two columns share a name
abbrev pub HaveOwnNames : List ColumnDesc → Type 0
HaveOwnNames columns = AllPairs (λ a b. a.name ≢ b.name) columns

-- the chunk has the split's rows and the column's type, nulls or none included
pub record IsChunkOf (split : SplitDesc) (column : ColumnDesc) (chunk : ChunkDesc) : Type 0 where
  pub rows : chunk.rows ≡ split.rows
  pub dtype : chunk.dtype ≡ column.dtype

-- the split has one chunk for each column
abbrev pub FitsColumns : List ColumnDesc → SplitDesc → Type 0
FitsColumns columns split = AllZip (IsChunkOf split) columns split.chunks

-- all splits of a partition do
abbrev pub AllFit : List ColumnDesc → PartitionDesc → Type 0
AllFit columns partition = All (FitsColumns columns) partition.splits

-- the rows of a partition
abbrev pub rows_of : PartitionDesc → ℕ
rows_of partition = sum_by (λ split. split.rows) partition.splits

-- the rows of a table
abbrev pub total_rows : List PartitionDesc → ℕ
total_rows partitions = sum_by rows_of partitions

-- the splits of a table
abbrev pub split_count : List PartitionDesc → ℕ
split_count partitions = sum_by (λ partition. length partition.splits) partitions

-- six for each split and two for each partition
abbrev pub steps_of : List PartitionDesc → ℕ
steps_of partitions = 6 * split_count partitions + 2 * length partitions

-- the rows and the steps fit 64 bits
pub record IsCounted (partitions : List PartitionDesc) : Type 0 where
  pub rows : total_rows partitions < 2 ^ 64
  pub steps : steps_of partitions < 2 ^ 64

-- the first split of a partition whose chunks do not fit: those of each split before it do
pub record IsFirstUnfitSplit (columns : List ColumnDesc) (splits : List SplitDesc) (split : ℕ) : Type 0 where
  pub within : split < length splits
  pub before : (k : ℕ) (d : SplitDesc) → k < split → FitsColumns columns (slice_index_or splits k d)
  pub fails : (d : SplitDesc) → ¬ FitsColumns columns (slice_index_or splits split d)

-- the first split of a table whose chunks do not fit, in order of partition and split
pub record IsFirstUnfit (columns : List ColumnDesc) (partitions : List PartitionDesc) (partition split : ℕ) : Type 0 where
  pub within : partition < length partitions
  pub before : (k : ℕ) (d : PartitionDesc) → k < partition → AllFit columns (slice_index_or partitions k d)
  pub here : (d : PartitionDesc) → IsFirstUnfitSplit columns (slice_index_or partitions partition d).splits split

-- a description that makes a table with so many sources
pub record IsDescribed (columns : List ColumnDesc) (partitions : List PartitionDesc) (sources : ℕ) : Type 0 where
  pub names : HaveOwnNames columns
  pub paired : sources ≡ length partitions
  pub fits : All (AllFit columns) partitions
  pub counted : IsCounted partitions

-- what every table keeps: it is described so, and nothing is outstanding
pub record IsTable {S : Type 0} (outstanding : S → List Fetch) (columns : List ColumnDesc) (partitions : List PartitionDesc) (sources : List S) : Type 0 where
  pub described : IsDescribed columns partitions (length sources)
  pub idle : All (λ source. outstanding source ≡ []) sources

-- each column before this place has another name than the one there
abbrev pub IsApart : List ColumnDesc → ℕ → Type 0
IsApart columns place = (i : ℕ) (d : ColumnDesc) → i < place → (slice_index_or columns i d).name ≢ (slice_index_or columns place d).name

-- why a description and so many sources make no table: each cause holds, and none before it
abbrev pub Refuses : List ColumnDesc → List PartitionDesc → ℕ → TableError → Type 0
Refuses columns partitions sources RepeatedName = ¬ HaveOwnNames columns
Refuses columns partitions sources SourceCount = HaveOwnNames columns × (sources ≢ length partitions)
Refuses columns partitions sources (ChunkListDoesNotFit partition split) = HaveOwnNames columns × (sources ≡ length partitions) × IsFirstUnfit columns partitions partition split
Refuses columns partitions sources TooLarge = HaveOwnNames columns × (sources ≡ length partitions) × All (AllFit columns) partitions × (¬ IsCounted partitions)
Refuses columns partitions sources OutOfMemory = ⊤
