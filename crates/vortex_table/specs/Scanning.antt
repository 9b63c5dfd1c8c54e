-- What the parts of a scan of one column compute.
use Rattle.std.specs.Prelude.{◌≡◌, Bool, true, false, ℕ, ◌+◌, ◌<◌, pos, nat_lt, List, [], ◌∷◌, ◌++◌, drop, length, map, filter, Option, Some, None, option_map, slice_index_or, if◌then◌else◌, All}
use Rattle.vortex_array_types.specs.Row.{Column}
use Rattle.vortex_array_types.specs.declared.scalar.Value.{Value}
use Rattle.vortex_array_types.specs.declared.scalar.Value.TheVariants.{Int}
use Rattle.vortex_array.specs.declared.arrays.Array.{Array}
use Rattle.vortex_array.specs.declared.arrays.Array.TheVariants.{Primitive}
use Rattle.vortex_io.specs.Memory.{MemoryState}
use Rattle.vortex_io.specs.Source.{Agrees, chunk_at}
use Rattle.vortex_io.specs.declared.request.Completion.{Completion}
use Rattle.vortex_io.specs.declared.request.Fetch.{Fetch}
use Rattle.vortex_io.specs.declared.request.IoTarget.{IoTarget}
use Rattle.vortex_io.specs.declared.request.JournalEntry.{JournalEntry}
use Rattle.vortex_io.specs.declared.request.JournalEntry.TheVariants.{Waited}
use Rattle.vortex_io.specs.declared.request.IoTarget.TheVariants as target
use Rattle.vortex_table.specs.declared.built.Comparison.{Comparison}
use Rattle.vortex_table.specs.declared.chunk.Chunk.{Chunk}
use Rattle.vortex_table_types.specs.declared.describe.PartitionDesc.{PartitionDesc}
use Rattle.vortex_table_types.specs.declared.describe.SplitDesc.{SplitDesc}
use Rattle.vortex_scan_types.specs.declared.batch.Batch.{Batch}
use Rattle.vortex_scan_types.specs.declared.batch.WorkScope.{WorkScope}
use Rattle.vortex_table_types.specs.Answers.{Given}
use Rattle.vortex_table.specs.Built.{u64_type}
use Rattle.vortex_table.specs.ChunkOf.{chunk_column}
use Rattle.vortex_table.specs.Kept.{passes}

-- a number as a row
abbrev pub u64_row : ℕ → Option Value
u64_row n = Some (Int (pos n))

-- numbers as a column
abbrev pub u64_column : List ℕ → Column
u64_column numbers = record { dtype = u64_type; rows = map u64_row numbers }

-- the number of a row, 0 where the row is null or no natural number
abbrev pub row_number : Option Value → ℕ
row_number (Some (Int (pos n))) = n
row_number _ = 0

-- the numbers of a column's rows
abbrev pub column_numbers : Column → List ℕ
column_numbers c = map row_number c.rows

-- the array keeps a number for each row
abbrev pub keeps_numbers : Array → Bool
keeps_numbers (Primitive a) = true
keeps_numbers _ = false

-- the numbers of a chunk's rows
abbrev pub chunk_numbers : Chunk → List ℕ
chunk_numbers chunk = column_numbers (chunk_column chunk)

-- the numbers of the first chunk of a split, none where there is no chunk
abbrev pub split_numbers : List Chunk → List ℕ
split_numbers [] = []
split_numbers (chunk ∷ chunks) = chunk_numbers chunk

-- the column that chunks have at a target
abbrev pub column_at : List (List Chunk) → IoTarget → Option Column
column_at chunks (target.Chunk split column) = option_map chunk_column (chunk_at chunks split column)
column_at chunks target.Size = None

-- the column of the oldest outstanding fetch
abbrev pub oldest_column : List (List Chunk) → List Fetch → Option Column
oldest_column chunks [] = None
oldest_column chunks (fetch ∷ rest) = column_at chunks fetch.target

-- the scope of a split that begins at row `start` of the one partition
abbrev pub scope_at : ℕ → SplitDesc → WorkScope
scope_at start split = record { file_ordinal = 0; rows = record { start = start; end = start + split.rows } }

-- a batch of these numbers, if there are any
abbrev pub batch_if : WorkScope → List ℕ → List Given
batch_if scope [] = []
batch_if scope (n ∷ numbers) = record { scope = scope; rows = length (n ∷ numbers); columns = u64_column (n ∷ numbers) ∷ [] } ∷ []

-- the batches of the splits from row `start` on, whose numbers are these
abbrev pub kept_batches : Option Comparison → ℕ → List SplitDesc → List (List ℕ) → List Given
kept_batches keep start [] numbers = []
kept_batches keep start (split ∷ splits) [] = []
kept_batches keep start (split ∷ splits) (ns ∷ numbers) = batch_if (scope_at start split) (filter (passes keep) ns) ++ kept_batches keep (start + split.rows) splits numbers

-- the chunks have these numbers: one chunk for each split, with a number for each of its rows
pub record HasNumbers (chunks : List (List Chunk)) (splits : List SplitDesc) (numbers : List (List ℕ)) : Type 0 where
  pub long : length numbers ≡ length splits
  pub held : (k : ℕ) (ns : List ℕ) → k < length splits → column_at chunks (target.Chunk k 0) ≡ Some (u64_column (slice_index_or numbers k ns))
  pub counted : (k : ℕ) (ns : List ℕ) (split : SplitDesc) → k < length splits → length (slice_index_or numbers k ns) ≡ (slice_index_or splits k split).rows

-- a source that waited for its oldest fetch
abbrev pub waited : MemoryState Chunk → MemoryState Chunk
waited s = record s { outstanding = drop 1 s.outstanding; journal = s.journal ++ Waited ∷ [] }

-- a wait completed the oldest fetch, with what the chunks have at its target
pub record CompletesOldest (old new : MemoryState Chunk) (completion : Completion Chunk) : Type 0 where
  pub oldest : Fetch
  pub left : old.outstanding ≡ oldest ∷ new.outstanding
  pub agrees : Agrees chunk_column old.chunks oldest.target completion.result

-- a source that keeps its chunks and its count, and whose journal is only extended
pub record IsExtended (old new : MemoryState Chunk) : Type 0 where
  pub chunks : new.chunks ≡ old.chunks
  pub arrive : new.arrive ≡ old.arrive
  pub faults : new.faults ≡ old.faults
  pub added : List JournalEntry
  pub journal : new.journal ≡ old.journal ++ added

-- a source after a split was scanned: it waited where the split has rows
abbrev pub after_split : SplitDesc → MemoryState Chunk → MemoryState Chunk
after_split split s = if nat_lt 0 split.rows then waited s else s

-- every batch comes from the first root and the first partition
abbrev pub AreOfFirstRoot : List Batch → Type 0
AreOfFirstRoot batches = All (λ (b : Batch). (b.root.0 ≡ 0) × (b.scope.file_ordinal ≡ 0)) batches

-- the batches of a table of at most one partition, over sources in memory
abbrev pub table_batches : Option Comparison → List PartitionDesc → List (MemoryState Chunk) → List Given
table_batches keep [] sources = []
table_batches keep (partition ∷ partitions) [] = []
table_batches keep (partition ∷ partitions) (source ∷ sources) = kept_batches keep 0 partition.splits (map split_numbers source.chunks)

-- the first source has the numbers of the first partition's splits
abbrev pub FirstHolds : List PartitionDesc → List (MemoryState Chunk) → Type 0
FirstHolds [] sources = Unit {0}
FirstHolds (partition ∷ partitions) [] = ⊥
FirstHolds (partition ∷ partitions) (source ∷ sources) = HasNumbers source.chunks partition.splits (map split_numbers source.chunks)
