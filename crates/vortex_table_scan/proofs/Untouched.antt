-- A table that a scan leaves as it was.
use Rattle.std.proofs.Common.{◌≡◌, sym, ap, subst, ℕ, suc, List, [], ◌∷◌, ◌++◌, arith}
use Rattle.std.specs.Prelude.{All}
use Rattle.vortex_io.specs.declared.request.JournalEntry.{JournalEntry}
use Rattle.vortex_io.specs.declared.source.IoSource.{Ghosts}
use Rattle.vortex_scan.proofs.Kept.{keeps_same}
use Rattle.vortex_scan_types.specs.declared.request.ScanRequest.{ScanRequest}
use Rattle.vortex_table_chunks.specs.declared.chunk.Chunk.{Chunk}
use Rattle.vortex_table_planner.specs.Live.{live_splits, needed_columns}
use Rattle.vortex_table_planner.specs.declared.live.LiveSplit.{LiveSplit}
use Rattle.vortex_table_types.specs.declared.describe.PartitionDesc.{PartitionDesc}
use Rattle.vortex_table_scan.specs.Causes.{HasCause, IsInvalid}
use Rattle.vortex_table_scan.specs.Journals.{FetchesOnce, KeepJournals}
use Rattle.vortex_table_scan.specs.Over.{AreBack, SurelyStand}
use Rattle.vortex_table_scan.specs.State.{TableState}
use Rattle.vortex_table_scan.specs.declared.errors.ScanError.{ScanError}
use Rattle.vortex_table_scan.specs.declared.errors.ScanError.TheVariants.{InvalidRequest, MismatchedTypes, Source, Protocol, ChunkMismatch, StepLimit, OutOfMemory}

-- each source is in its place, where nothing was outstanding
pub untouched_back : {S C : Type 0} (source : Ghosts S C) (sources : List S) → All (λ it. source.outstanding it ≡ []) sources → AreBack source sources sources
untouched_back source [] idle = tt
untouched_back source (it ∷ sources) idle = (record { keeps = keeps_same source it; none = idle 0 it (omega arith) }, untouched_back source sources (λ k d less. idle (suc k) d (omega (arith, less))))

-- no source fails
pub untouched_sure : {S : Type 0} (source : Ghosts S Chunk) (partitions : List PartitionDesc) (sources : List S) → SurelyStand source partitions sources sources
untouched_sure source partitions sources p partition before after content there is sure told fits = let was = is.was in let now = is.now in let same : after ≡ before = (cc) in ap source.faults same

nothing_added : (journal added : List JournalEntry) → journal ≡ journal ++ added → added ≡ []
nothing_added [] added e = sym e
nothing_added (entry ∷ journal) added e = nothing_added journal added (let tails = e in cc)

fetches_nothing : (live : List LiveSplit) (needed : List ℕ) → FetchesOnce live needed []
fetches_nothing live needed = record { once = λ split column. omega arith; planned = λ k d less. absurd (omega (arith, less)); first = λ waits some. absurd (let less = waits.1 in omega (arith, less)) }

-- nothing is fetched
pub untouched_journals : {S : Type 0} (source : Ghosts S Chunk) (request : ScanRequest) (table : TableState S) → KeepJournals source request table table
untouched_journals source request table p partition before after journal added there is told grew =
    let was = is.was in
    let now = is.now in
    let same : after ≡ before = (cc) in
    let once : journal ≡ journal ++ added = (let e = told in let g = grew in cc) in
    subst (λ list. FetchesOnce (live_splits request p partition) (needed_columns table.columns request) list) (sym (nothing_added journal added once)) (fetches_nothing (live_splits request p partition) (needed_columns table.columns request))

-- a request that is not valid is the cause
pub invalid_cause : {S : Type 0} (source : Ghosts S Chunk) (request : ScanRequest) (steps : ℕ) (old new : TableState S) (why : ScanError) → IsInvalid old.columns request why → HasCause source request steps old new why
invalid_cause source request steps old new (InvalidRequest name) i = i
invalid_cause source request steps old new MismatchedTypes i = i
invalid_cause source request steps old new (Source p) i = absurd i
invalid_cause source request steps old new (Protocol p owner number) i = absurd i
invalid_cause source request steps old new (ChunkMismatch p split column) i = absurd i
invalid_cause source request steps old new StepLimit i = absurd i
invalid_cause source request steps old new OutOfMemory i = tt
