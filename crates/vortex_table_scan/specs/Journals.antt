-- What a scan adds to the journals of its sources.
use Rattle.std.specs.Prelude.{◌≡◌, ◌≢◌, ◌≤◌, ℕ, Bool, true, false, Some, List, [], ◌∷◌, ◌++◌, All, Any, Contains, count_by, slice_get, ◌==◌, ◌&&◌}
use Rattle.vortex_io.specs.declared.request.IoTarget.{IoTarget}
use Rattle.vortex_io.specs.declared.request.IoTarget.TheVariants as target
use Rattle.vortex_io.specs.declared.request.JournalEntry.{JournalEntry}
use Rattle.vortex_io.specs.declared.request.JournalEntry.TheVariants.{Submitted, Waited}
use Rattle.vortex_io.specs.declared.source.IoSource.{Ghosts}
use Rattle.vortex_scan.specs.Seats.{fetched_in}
use Rattle.vortex_scan_types.specs.declared.request.ScanRequest.{ScanRequest}
use Rattle.vortex_table_chunks.specs.declared.chunk.Chunk.{Chunk}
use Rattle.vortex_table_planner.specs.Live.{live_splits, needed_columns}
use Rattle.vortex_table_planner.specs.declared.live.LiveSplit.{LiveSplit}
use Rattle.vortex_table_types.specs.declared.describe.PartitionDesc.{PartitionDesc}
use Rattle.vortex_table_scan.specs.Over.{IsSource}
use Rattle.vortex_table_scan.specs.State.{TableState}

-- whether a target is this chunk
abbrev pub is_chunk : ℕ → ℕ → IoTarget → Bool
is_chunk split column (target.Chunk s c) = (s == split) && (c == column)
is_chunk split column target.Size = false

-- whether a target is a chunk of this split
abbrev pub is_of_split : ℕ → IoTarget → Bool
is_of_split split (target.Chunk s c) = s == split
is_of_split split target.Size = false

-- the entries before the first wait
abbrev pub before_wait : List JournalEntry → List JournalEntry
before_wait [] = []
before_wait (Submitted owner request ∷ entries) = Submitted owner request ∷ before_wait entries
before_wait (Waited ∷ entries) = []

-- what is fetched is the chunk of a needed column in one of the splits
abbrev pub IsOfPlan : List LiveSplit → List ℕ → IoTarget → Type 0
IsOfPlan live needed (target.Chunk split column) = Any (λ (l : LiveSplit). l.split ≡ split) live × Contains needed column
IsOfPlan live needed target.Size = ⊥

-- of the live splits, with the needed columns, these entries fetch no chunk twice and nothing else; and where they wait, each split in which a chunk is needed has a
-- fetch before the first wait
pub record FetchesOnce (live : List LiveSplit) (needed : List ℕ) (added : List JournalEntry) : Type 0 where
  pub once : (split column : ℕ) → count_by (is_chunk split column) (fetched_in added) ≤ 1
  pub planned : All (IsOfPlan live needed) (fetched_in added)
  pub first : Contains added Waited → needed ≢ [] → All (λ (l : LiveSplit). Any (λ fetched. is_of_split l.split fetched ≡ true) (fetched_in (before_wait added))) live

-- what a call adds to the told journal of each source
abbrev pub KeepJournals : {S : Type 0} → Ghosts S Chunk → ScanRequest → TableState S → TableState S → Type 0
KeepJournals {S} source request old new = (p : ℕ) (partition : PartitionDesc) (before after : S) (journal added : List JournalEntry) → slice_get old.partitions p ≡ Some partition
    → IsSource p old.sources new.sources before after → source.journal before ≡ Some journal → source.journal after ≡ Some (journal ++ added)
    → FetchesOnce (live_splits request p partition) (needed_columns old.columns request) added
