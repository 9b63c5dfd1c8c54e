-- Why a scan is refused: what has to be so for each of the answers.
use Rattle.std.specs.Prelude.{◌≡◌, ◌≢◌, ◌⊎◌, ◌<◌, ℕ, List, None, Some, false, slice_get, ⊤, Result, Ok, Err}
use Rattle.vortex_array_types.specs.Typed.{well_typed}
use Rattle.vortex_array_types.specs.declared.column.ColumnDesc.{ColumnDesc}
use Rattle.vortex_buffer.specs.Counts.{Faulted, Rose}
use Rattle.vortex_io.specs.Source.{Content}
use Rattle.vortex_io.specs.declared.source.IoSource.{Ghosts}
use Rattle.vortex_scan_types.specs.Valid.{ValidRequest, first_unknown}
use Rattle.vortex_scan_types.specs.declared.request.ScanRequest.{ScanRequest}
use Rattle.vortex_table_chunks.specs.ChunkOf.{content_of}
use Rattle.vortex_table_chunks.specs.declared.chunk.Chunk.{Chunk}
use Rattle.vortex_table_planner.specs.Owing.{IsMismatch}
use Rattle.vortex_table_types.specs.Described.{steps_of}
use Rattle.vortex_table_types.specs.declared.describe.PartitionDesc.{PartitionDesc}
use Rattle.vortex_table_scan.specs.Over.{IsSource}
use Rattle.vortex_table_scan.specs.State.{TableState}
use Rattle.vortex_table_scan.specs.declared.errors.ScanError.{ScanError}
use Rattle.vortex_table_scan.specs.declared.errors.ScanError.TheVariants.{InvalidRequest, MismatchedTypes, Source, Protocol, ChunkMismatch, StepLimit, OutOfMemory}

-- why a request is not valid: the first name that is not the table's, or a type rule that fails; memory is wanted for an unknown name alone
abbrev pub IsInvalid : List ColumnDesc → ScanRequest → ScanError → Type 0
IsInvalid columns request (InvalidRequest name) = first_unknown columns request ≡ Some name
IsInvalid columns request MismatchedTypes = (first_unknown columns request ≡ None) × (well_typed columns request.filter ≡ false)
IsInvalid columns request OutOfMemory = first_unknown columns request ≢ None
IsInvalid columns request _ = ⊥

-- the source of partition p failed in the call
pub record FailedAt {S : Type 0} (source : Ghosts S Chunk) (p : ℕ) (old new : TableState S) : Type 0 where
  pub before : S
  pub after : S
  pub is : IsSource p old.sources new.sources before after
  pub failed : Faulted (source.faults before) (source.faults after)

-- the source of partition p may have lied in the call
pub record LiedAt {S : Type 0} (source : Ghosts S Chunk) (p : ℕ) (old new : TableState S) : Type 0 where
  pub before : S
  pub after : S
  pub is : IsSource p old.sources new.sources before after
  pub lied : Rose (source.lies before) (source.lies after)

-- the source of partition p tells no content
pub record IsSilent {S : Type 0} (source : Ghosts S Chunk) (p : ℕ) (old : TableState S) : Type 0 where
  pub before : S
  pub was : slice_get old.sources p ≡ Some before
  pub untold : source.content before ≡ None

-- the split of partition p is live, the column is needed, and the chunk that the source tells there differs from its description
pub record DiffersFrom {S : Type 0} (source : Ghosts S Chunk) (request : ScanRequest) (p split column : ℕ) (old : TableState S) : Type 0 where
  pub before : S
  pub was : slice_get old.sources p ≡ Some before
  pub content : Content Chunk
  pub told : source.content before ≡ Some content
  pub partition : PartitionDesc
  pub described : slice_get old.partitions p ≡ Some partition
  pub mismatch : IsMismatch old.columns p partition request (content_of content) split column

-- each error has its cause; each but the first two comes of valid requests alone
abbrev pub HasCause : {S : Type 0} → Ghosts S Chunk → ScanRequest → ℕ → TableState S → TableState S → ScanError → Type 0
HasCause source request steps old new (InvalidRequest name) = first_unknown old.columns request ≡ Some name
HasCause source request steps old new MismatchedTypes = (first_unknown old.columns request ≡ None) × (well_typed old.columns request.filter ≡ false)
HasCause source request steps old new (Source p) = ValidRequest old.columns request × FailedAt source p old new
HasCause source request steps old new (Protocol p owner number) = ValidRequest old.columns request × LiedAt source p old new
HasCause source request steps old new (ChunkMismatch p split column) = ValidRequest old.columns request × (LiedAt source p old new ⊎ IsSilent source p old ⊎ DiffersFrom source request p split column old)
HasCause source request steps old new StepLimit = ValidRequest old.columns request × (steps < steps_of old.partitions)
HasCause source request steps old new OutOfMemory = ⊤

-- it is answered, or memory was wanting
abbrev pub IsAnswered : {T : Type 0} → Result T ScanError → Type 0
IsAnswered (Ok answer) = ⊤
IsAnswered (Err why) = why ≡ OutOfMemory
