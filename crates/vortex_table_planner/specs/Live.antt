-- Which splits of a partition a request needs, and which columns of them.
use Rattle.std.specs.Prelude.{ℕ, List, ◌++◌, map, filter, Bool, Option}
use Rattle.std.specs.List.{enumerate_from, list_any}
use Rattle.std.specs.Str.{bytes_eq}
use Rattle.vortex_array_types.specs.Typed.{filter_names}
use Rattle.vortex_array_types.specs.declared.column.ColumnDesc.{ColumnDesc}
use Rattle.vortex_array_types.specs.declared.filter.Filter.{Filter}
use Rattle.vortex_io.specs.declared.request.IoTarget.{IoTarget}
use Rattle.vortex_io.specs.declared.request.IoTarget.TheVariants as target
use Rattle.vortex_scan.specs.Plans.{Planned}
use Rattle.vortex_scan_types.specs.Members.{places_of}
use Rattle.vortex_scan_types.specs.declared.batch.WorkScope.{WorkScope}
use Rattle.vortex_scan_types.specs.declared.request.Projection.{Projection}
use Rattle.vortex_scan_types.specs.declared.request.ScanRequest.{ScanRequest}
use Rattle.vortex_table_types.specs.Chosen.{is_selected, projected_names}
use Rattle.vortex_table_types.specs.Table.{split_scopes}
use Rattle.vortex_table_types.specs.declared.describe.PartitionDesc.{PartitionDesc}
use Rattle.vortex_table_planner.specs.declared.live.LiveSplit.{LiveSplit}

-- a split is live where it has a selected row
abbrev pub is_live : ScanRequest → WorkScope → Bool
is_live request scope = list_any (is_selected request scope.file_ordinal) (places_of scope.rows)

-- splits by their scopes, the first having this number
abbrev pub numbered : ℕ → List WorkScope → List LiveSplit
numbered first scopes = map (λ x. record { split = x.0; scope = x.1 }) (enumerate_from first scopes)

-- the live splits of partition p, in order, each with its number in the partition
abbrev pub live_splits : ScanRequest → ℕ → PartitionDesc → List LiveSplit
live_splits request p partition = filter (λ (live : LiveSplit). is_live request live.scope) (numbered 0 (split_scopes p 0 partition.splits))

-- the names of the projection, and those of the filter
abbrev pub names_in : List ColumnDesc → Projection → Option Filter → List (List ℕ)
names_in columns projection condition = projected_names columns projection ++ filter_names condition

-- a column is needed where the projection or the filter names it
abbrev pub is_needed : List (List ℕ) → ColumnDesc → Bool
is_needed names column = list_any (bytes_eq column.name) names

-- the numbers of the columns with one of these names, in order
abbrev pub columns_named : List ColumnDesc → List (List ℕ) → List ℕ
columns_named columns names = map (λ x. x.0) (filter (λ x. is_needed names x.1) (enumerate_from 0 columns))

-- the numbers of the needed columns, in order
abbrev pub needed_columns : List ColumnDesc → ScanRequest → List ℕ
needed_columns columns request = columns_named columns (names_in columns request.projection request.filter)

-- the chunks of these columns in a split
abbrev pub chunks_of : ℕ → List ℕ → List IoTarget
chunks_of split needed = map (λ column. target.Chunk split column) needed

-- the morsels of these splits: each has the split's scope, and may fetch the chunks of the needed columns there
abbrev pub morsels_of : List ℕ → List LiveSplit → List Planned
morsels_of needed splits = map (λ (live : LiveSplit). record { scope = live.scope; targets = chunks_of live.split needed }) splits

-- the plan of partition p: a morsel for each live split in order, and each needed chunk of it once
abbrev pub partition_plan : List ColumnDesc → ℕ → PartitionDesc → ScanRequest → List Planned
partition_plan columns p partition request = morsels_of (needed_columns columns request) (live_splits request p partition)
