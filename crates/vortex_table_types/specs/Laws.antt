-- What the definitions imply.
use Rattle.std.specs.Prelude.{◌≡◌, ◌<◌, ◌⊎◌, ◌↔◌, ℕ, List, AllPairs, All, Any, Contains, true, Option, Some, None, option_and_then, slice_get, length, map, take, flat_map, IsTrue}
use Rattle.std.specs.List.{AllZip}
use Rattle.vortex_scan_types.specs.declared.request.ScanRequest.{ScanRequest}
use Rattle.vortex_table_types.specs.declared.describe.PartitionDesc.{PartitionDesc}
use Rattle.vortex_scan_types.specs.declared.batch.WorkScope.{WorkScope}
use Rattle.vortex_array_types.specs.declared.column.ColumnDesc.{ColumnDesc}
use Rattle.vortex_array_types.specs.Cells.{Row}
use Rattle.vortex_scan_types.specs.Valid.{first_unknown}
use Rattle.vortex_table_types.specs.Table.{Content, Decoded, FitsPartition, scopes_from}
use Rattle.vortex_table_types.specs.Chosen.{Placed, chosen, is_chosen, lies_in, rows_in}
use Rattle.vortex_table_types.specs.Answers.{Answers, Asked, Given, asked, stands_for, within}
use Rattle.vortex_table_types.specs.Turn.{batch_rows}

-- in an earlier partition, or earlier in the same one
abbrev pub StandsBefore : Placed → Placed → Type 0
StandsBefore x y = (x.partition < y.partition) ⊎ ((x.partition ≡ y.partition) × (x.row < y.row))

-- L ascends by partition and then row, so no place stands in it twice
abbrev pub ChosenAscend : Type 0
ChosenAscend = (request : ScanRequest) (table : Decoded) → AllPairs StandsBefore (chosen request table)

-- the row of a table at a place
abbrev pub row_of : Decoded → ℕ → ℕ → Option Row
row_of table partition row = option_and_then (λ rows. slice_get rows row) (slice_get table.partitions partition)

-- a row of the table has its place in L exactly where it is chosen
abbrev pub ChosenExactly : Type 0
ChosenExactly = (request : ScanRequest) (table : Decoded) (partition row : ℕ) (values : Row) → row_of table partition row ≡ Some values
    → IsTrue (is_chosen request table.columns (record { partition = partition; row = row; values = values })) ↔ Any (λ x. (x.partition ≡ partition) × (x.row ≡ row)) (chosen request table)

-- two answers to one ordered question, joined, are one list
abbrev pub OrderedAnswersAgree : Type 0
OrderedAnswersAgree = (a : Asked) (b c : List Given) → a.ordered ≡ true → Answers a b → Answers a c → flat_map (stands_for a.rows) b ≡ flat_map (stands_for a.rows) c

-- a row lies in one split at most
abbrev pub AreApart : List WorkScope → Type 0
AreApart scopes = (s t : WorkScope) (x : Placed) → Contains scopes s → Contains scopes t → lies_in s x ≡ true → lies_in t x ≡ true → s ≡ t

-- without a limit each batch has all rows of L in its split
abbrev pub WithoutLimit : Type 0
WithoutLimit = (a : Asked) (batches : List Given) → AreApart a.scopes → a.limit ≡ None → Answers a batches → All (λ b. stands_for a.rows b ≡ rows_in b.scope a.rows) batches

-- and each row of L lies in the split of some batch
abbrev pub NoRowMissing : Type 0
NoRowMissing = (a : Asked) (batches : List Given) → AreApart a.scopes → a.limit ≡ None → Answers a batches → All (λ x. Any (λ b. lies_in b.scope x ≡ true) batches) a.rows

-- the splits of every table are so
abbrev pub SplitsAreApart : Type 0
SplitsAreApart = (partitions : List PartitionDesc) → AreApart (scopes_from 0 partitions)

-- whatever the limit and the order, each question that a request asks of a table has an answer
abbrev pub EachQuestionHasAnAnswer : Type 0
EachQuestionHasAnAnswer = (columns : List ColumnDesc) (partitions : List PartitionDesc) (contents : List Content) (request : ScanRequest) → AllZip FitsPartition partitions contents
    → (batches : List Given) × Answers (asked columns partitions contents request) batches

-- each row of L has a value for each projected type
abbrev pub RowsAreFull : Asked → Type 0
RowsAreFull a = All (λ x. length x.values ≡ length a.types) a.rows

-- where every name is known, each row of L has a value for each projected type
abbrev pub ChosenRowsAreFull : Type 0
ChosenRowsAreFull = (columns : List ColumnDesc) (partitions : List PartitionDesc) (contents : List Content) (request : ScanRequest) → first_unknown columns request ≡ None
    → RowsAreFull (asked columns partitions contents request)

-- the batches of an answer, read row by row, are the rows of L that they stand for
abbrev pub AnswerIsItsRows : Type 0
AnswerIsItsRows = (a : Asked) (batches : List Given) → RowsAreFull a → Answers a batches → flat_map batch_rows batches ≡ map (λ x. x.values) (flat_map (stands_for a.rows) batches)

-- the batches of an ordered answer, read row by row, are the first rows of L, up to the limit
abbrev pub OrderedAnswerIsFirstRows : Type 0
OrderedAnswerIsFirstRows = (a : Asked) (batches : List Given) → RowsAreFull a → a.ordered ≡ true → Answers a batches
    → flat_map batch_rows batches ≡ map (λ x. x.values) (take (within a.limit (length a.rows)) a.rows)
