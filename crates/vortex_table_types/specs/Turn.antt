-- The batches in order of the table, one for each split that has chosen rows, and the rows of a batch.
use Rattle.std.specs.Prelude.{nat_lt, List, length, map, filter}
use Rattle.std.specs.List.{range_with_len}
use Rattle.vortex_array_types.specs.declared.types.DType.{DType}
use Rattle.vortex_array_types.specs.Cells.{Row}
use Rattle.vortex_scan_types.specs.declared.batch.WorkScope.{WorkScope}
use Rattle.vortex_table_types.specs.Table.{row_at}
use Rattle.vortex_table_types.specs.Chosen.{Placed, rows_in}
use Rattle.vortex_table_types.specs.Answers.{Given, columns_of}

-- the batch of a split with all of these rows
abbrev pub given_of : List DType → WorkScope → List Placed → Given
given_of types scope part = record { scope = scope; rows = length part; columns = columns_of types part }

-- one batch for each split that has rows, in order and with all of them
abbrev pub in_turn : List DType → List Placed → List WorkScope → List Given
in_turn types rows scopes = map (λ s. given_of types s (rows_in s rows)) (filter (λ s. nat_lt 0 (length (rows_in s rows))) scopes)

-- the rows of a batch, read across its columns
abbrev pub batch_rows : Given → List Row
batch_rows batch = map (row_at batch.columns) (range_with_len 0 batch.rows)
