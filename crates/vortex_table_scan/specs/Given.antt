-- What contracts see of a batch as an answer.
use Rattle.std.specs.Prelude.{◌≡◌, ℕ, List, map, count_by, All, true}
use Rattle.std.specs.List.{range_with_len}
use Rattle.vortex_array.specs.ColumnOf.{column_of}
use Rattle.vortex_scan_types.specs.declared.batch.Batch.{Batch}
use Rattle.vortex_scan_types.specs.declared.request.ScanRequest.{ScanRequest}
use Rattle.vortex_table_types.specs.Answers.{Given}
use Rattle.vortex_table_types.specs.Chosen.{is_partition_chosen}
use Rattle.vortex_table_planner.specs.Morsels.{has_plain_columns}

-- a batch: its scope, its number of rows, and its columns
abbrev pub given : Batch → Given
given b = record { scope = b.scope; rows = b.array.rows; columns = map column_of b.array.columns }

-- how many chosen partitions stand before this one
abbrev pub rank : ScanRequest → ℕ → ℕ
rank request partition = count_by (is_partition_chosen request) (range_with_len 0 partition)

-- each batch is of the root with its partition's rank among the chosen ones
abbrev pub AreRanked : ScanRequest → List Batch → Type 0
AreRanked request batches = All (λ (b : Batch). b.root.0 ≡ rank request b.scope.file_ordinal) batches

-- all columns of all batches are plain arrays
abbrev pub ArePlain : List Batch → Type 0
ArePlain batches = All (λ (b : Batch). has_plain_columns b.array ≡ true) batches
