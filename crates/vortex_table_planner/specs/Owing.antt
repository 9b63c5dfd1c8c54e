-- What a planner of a partition owes, in the words of the chosen rows, and what else is wrong with a chunk.
use Rattle.std.specs.Prelude.{◌≡◌, ◌≢◌, ◌⊎◌, ℕ, ◌-◌, List, length, map, filter, Some, Contains, slice_get}
use Rattle.vortex_array_types.specs.Row.{Column}
use Rattle.vortex_array_types.specs.declared.column.ColumnDesc.{ColumnDesc}
use Rattle.vortex_scan.specs.Owed.{Entry}
use Rattle.vortex_scan_types.specs.declared.request.ScanRequest.{ScanRequest}
use Rattle.vortex_table_types.specs.Answers.{Given}
use Rattle.vortex_table_types.specs.Chosen.{Placed, is_chosen, placed_rows, projected, projected_types}
use Rattle.vortex_table_types.specs.Table.{Content, partition_rows, split_scopes}
use Rattle.vortex_table_types.specs.Turn.{in_turn}
use Rattle.vortex_table_types.specs.declared.describe.PartitionDesc.{PartitionDesc}
use Rattle.vortex_table_planner.specs.Live.{live_splits, needed_columns}
use Rattle.vortex_table_planner.specs.declared.live.LiveSplit.{LiveSplit}

-- the chosen rows of partition p over its content, each with its projected values: what L has of this partition
abbrev pub partition_chosen : List ColumnDesc → ℕ → PartitionDesc → ScanRequest → Content → List Placed
partition_chosen columns p partition request content = map (projected columns request.projection) (filter (is_chosen request columns) (placed_rows p (partition_rows partition content)))

-- a batch as an entry
abbrev pub entry_of : Given → Entry
entry_of batch = record { scope = batch.scope; rows = record { count = batch.rows; columns = batch.columns } }

-- what a new planner of partition p owes: for each split in which L has a row, in order, all of these rows in columns of the projected columns' types
abbrev pub partition_owed : List ColumnDesc → ℕ → PartitionDesc → ScanRequest → Content → List Entry
partition_owed columns p partition request content =
    map entry_of (in_turn (projected_types columns request.projection) (partition_chosen columns p partition request content) (split_scopes p 0 partition.splits))

-- a chunk that differs from its description: in its number of rows, or in its type
abbrev pub Differs : ℕ → ColumnDesc → Column → Type 0
Differs rows column chunk = (length chunk.rows ≢ rows) ⊎ (chunk.dtype ≢ column.dtype)

-- the content's chunk of a column in a split differs from its description
pub record DiffersAt (columns : List ColumnDesc) (content : Content) (split : ℕ) (rows : ℕ) (column : ℕ) : Type 0 where
  pub described : ColumnDesc
  pub chunk : Column
  pub named : slice_get columns column ≡ Some described
  pub chunks : List Column
  pub held : slice_get content split ≡ Some chunks
  pub there : slice_get chunks column ≡ Some chunk
  pub differs : Differs rows described chunk

-- at a place of a live split and a needed column of partition p the content's chunk differs from its description
pub record IsMismatch (columns : List ColumnDesc) (p : ℕ) (partition : PartitionDesc) (request : ScanRequest) (content : Content) (split column : ℕ) : Type 0 where
  pub live : LiveSplit
  pub lives : Contains (live_splits request p partition) live
  pub number : live.split ≡ split
  pub needed : Contains (needed_columns columns request) column
  pub differs : DiffersAt columns content split (live.scope.rows.end - live.scope.rows.start) column
