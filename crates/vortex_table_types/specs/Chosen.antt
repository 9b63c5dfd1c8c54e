-- The list L of the chosen rows of a table.
use Rattle.std.specs.Prelude.{ℕ, ◌==◌, List, map, filter, flat_map, Bool, ◌&&◌}
use Rattle.std.specs.List.{enumerate_from, filter_map}
use Rattle.vortex_array_types.specs.declared.types.DType.{DType}
use Rattle.vortex_array_types.specs.declared.column.ColumnDesc.{ColumnDesc}
use Rattle.vortex_scan_types.specs.declared.batch.WorkScope.{WorkScope}
use Rattle.vortex_scan_types.specs.declared.request.Projection.{Projection}
use Rattle.vortex_scan_types.specs.declared.request.Projection.TheVariants.{All, Columns}
use Rattle.vortex_scan_types.specs.declared.request.ScanRequest.{ScanRequest}
use Rattle.vortex_scan_types.specs.Members.{in_selection, in_range, in_some_range}
use Rattle.vortex_array_types.specs.Truth.{keeps}
use Rattle.vortex_array_types.specs.Cells.{Row, cell_of, dtype_of}
use Rattle.vortex_table_types.specs.Table.{Decoded}

-- a row and its place
pub record Placed : Type 0 where
  pub partition : ℕ
  pub row : ℕ
  pub values : Row

-- the partition is in the selection and in the range
abbrev pub is_partition_chosen : ScanRequest → ℕ → Bool
is_partition_chosen request partition = in_selection request.partition_selection partition && in_some_range request.partition_range partition

-- its partition is chosen, and the row is in the range and in the selection
abbrev pub is_selected : ScanRequest → ℕ → ℕ → Bool
is_selected request partition row = is_partition_chosen request partition && in_some_range request.row_range row && in_selection request.selection row

-- it is selected, and the filter is true of it or there is none
abbrev pub is_chosen : ScanRequest → List ColumnDesc → Placed → Bool
is_chosen request columns x = is_selected request x.partition x.row && keeps request.filter (cell_of columns x.values)

-- all columns, or the named ones
abbrev pub projected_names : List ColumnDesc → Projection → List (List ℕ)
projected_names columns All = map (λ column. column.name) columns
projected_names columns (Columns names) = names

-- the type of each projected column
abbrev pub projected_types : List ColumnDesc → Projection → List DType
projected_types columns projection = filter_map (dtype_of columns) (projected_names columns projection)

-- the row with its projected values alone
abbrev pub projected : List ColumnDesc → Projection → Placed → Placed
projected columns projection x = record x { values = map (cell_of columns x.values) (projected_names columns projection) }

-- the rows of a partition, numbered from 0
abbrev pub placed_rows : ℕ → List Row → List Placed
placed_rows partition rows = map (λ x. record { partition = partition; row = x.0; values = x.1 }) (enumerate_from 0 rows)

-- every row of the table, by partition and then row
abbrev pub all_rows : List (List Row) → List Placed
all_rows partitions = flat_map (λ x. placed_rows x.0 x.1) (enumerate_from 0 partitions)

-- L
abbrev pub chosen : ScanRequest → Decoded → List Placed
chosen request table = map (projected table.columns request.projection) (filter (is_chosen request table.columns) (all_rows table.partitions))

-- the row lies in the split with this scope
abbrev pub lies_in : WorkScope → Placed → Bool
lies_in scope x = (x.partition == scope.file_ordinal) && in_range scope.rows x.row

-- the rows that lie in a split
abbrev pub rows_in : WorkScope → List Placed → List Placed
rows_in scope rows = filter (lies_in scope) rows
