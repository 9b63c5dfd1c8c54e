-- What an answer of a scan is.
use Rattle.std.specs.Prelude.{◌≡◌, ◌≢◌, ℕ, ◌<◌, ◌≤◌, ◌⊎◌, min, List, length, map, take, flat_map, sum_by, All, AllPairs, Contains, Bool, true, Option, Some, None, slice_get, unwrap_or}
use Rattle.std.specs.List.{enumerate_from}
use Rattle.vortex_array_types.specs.declared.types.DType.{DType}
use Rattle.vortex_array_types.specs.declared.column.ColumnDesc.{ColumnDesc}
use Rattle.vortex_table_types.specs.declared.describe.PartitionDesc.{PartitionDesc}
use Rattle.vortex_scan_types.specs.declared.batch.WorkScope.{WorkScope}
use Rattle.vortex_scan_types.specs.declared.request.ScanRequest.{ScanRequest}
use Rattle.vortex_array_types.specs.Row.{Column}
use Rattle.vortex_table_types.specs.Table.{Content, decoded, scopes_from}
use Rattle.vortex_table_types.specs.Chosen.{Placed, chosen, projected_types, rows_in}

-- a batch: the scope that it names, its number of rows, its columns
pub record Given : Type 0 where
  pub scope : WorkScope
  pub rows : ℕ
  pub columns : List Column

-- what an answer is judged by: the splits, the projected types, L, the limit and the order
pub record Asked : Type 0 where
  pub scopes : List WorkScope
  pub types : List DType
  pub rows : List Placed
  pub limit : Option ℕ
  pub ordered : Bool

-- the question that a request asks of a table with this content
abbrev pub asked : List ColumnDesc → List PartitionDesc → List Content → ScanRequest → Asked
asked columns partitions contents request = record {
  scopes = scopes_from 0 partitions;
  types = projected_types columns request.projection;
  rows = chosen request (decoded columns partitions contents);
  limit = request.limit;
  ordered = request.ordered;
}

-- one column for each type, of the rows' values there
abbrev pub columns_of : List DType → List Placed → List Column
columns_of types rows = map (λ t. record { dtype = t.1; rows = map (λ x. unwrap_or (slice_get x.values t.0) None) rows }) (enumerate_from 0 types)

-- the rows of L that a batch stands for: the first of those in its split
abbrev pub stands_for : List Placed → Given → List Placed
stands_for rows batch = take batch.rows (rows_in batch.scope rows)

-- a batch is a prefix of the rows of L that lie in its split
pub record IsPrefix (a : Asked) (batch : Given) : Type 0 where
  pub rows : batch.rows ≤ length (rows_in batch.scope a.rows)
  pub columns : batch.columns ≡ columns_of a.types (stands_for a.rows batch)

-- the smaller of the limit and n, a missing limit standing for n
abbrev pub within : Option ℕ → ℕ → ℕ
within None n = n
within (Some limit) n = min limit n

-- the rows of the batches together
abbrev pub count_of : List Given → ℕ
count_of batches = sum_by (λ b. b.rows) batches

-- an earlier partition, or an earlier start in the same one
abbrev pub IsBefore : WorkScope → WorkScope → Type 0
IsBefore s t = (s.file_ordinal < t.file_ordinal) ⊎ ((s.file_ordinal ≡ t.file_ordinal) × (s.rows.start < t.rows.start))

-- the batches stand in order of scope, and joined are a prefix of L
pub record InOrder (a : Asked) (batches : List Given) : Type 0 where
  pub ascending : AllPairs (λ b c. IsBefore b.scope c.scope) batches
  pub joined : flat_map (stands_for a.rows) batches ≡ take (count_of batches) a.rows

-- the batches are an answer to the question
pub record Answers (a : Asked) (batches : List Given) : Type 0 where
  pub filled : All (λ b. 0 < b.rows) batches
  pub named : All (λ b. Contains a.scopes b.scope) batches
  pub distinct : AllPairs (λ b c. b.scope ≢ c.scope) batches
  pub prefixes : All (IsPrefix a) batches
  pub counted : count_of batches ≡ within a.limit (length a.rows)
  pub in_order : a.ordered ≡ true → InOrder a batches
