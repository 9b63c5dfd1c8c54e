-- What a wait does to a source that is completed oldest first.
use Rattle.std.proofs.Common.{◌≡◌, ◌∙◌, List, ◌∷◌, ◌++◌, [], Some, Ok, Err, ap, sym, subst, drop, length}
use Rattle.std.specs.Prelude.{remove, slice_get}
use Rattle.vortex_io.specs.declared.order.Arrive.{Arrive}
use Rattle.vortex_io.specs.declared.request.Completion.{Completion}
use Rattle.vortex_io.specs.declared.request.Fetch.{Fetch}
use Rattle.vortex_io.specs.declared.request.IoError.{IoError}
use Rattle.vortex_io.specs.declared.request.IoError.TheVariants.{Fault, OutOfMemory}
use Rattle.vortex_io.specs.declared.request.JournalEntry.TheVariants.{Waited}
use Rattle.vortex_io.specs.Memory.{MemoryState, WaitsInMemory, completed}
use Rattle.vortex_io.specs.Orders.{number_after, order_of, picked_place}
use Rattle.vortex_io.proofs.Fetches.{split_at}
use Rattle.vortex_table.specs.declared.chunk.Chunk.{Chunk}
use Rattle.vortex_table.specs.ChunkOf.{chunk_column}
use Rattle.vortex_table.specs.Scanning.{CompletesOldest, waited}
use Rattle.vortex_table.specs.State.{ArrivesInOrder}

-- the next fetch is the oldest
completed_oldest : (s : MemoryState Chunk) → ArrivesInOrder s → completed s ≡ record s { outstanding = drop 1 s.outstanding }
completed_oldest s e = λ i. record s { outstanding = remove s.outstanding (picked_place (order_of (e i)) s.number (length s.outstanding)); number = number_after (order_of (e i)) s.number }

pub waited_oldest : (old new : MemoryState Chunk) (completion : Completion Chunk) → ArrivesInOrder old → WaitsInMemory chunk_column old (Ok completion) new → new ≡ waited old
waited_oldest old new completion e waits = waits.1 ∙ ap (λ (s : MemoryState Chunk). record s { journal = old.journal ++ Waited ∷ [] }) (completed_oldest old e)

pub completes_oldest : (old new : MemoryState Chunk) (completion : Completion Chunk) → ArrivesInOrder old → WaitsInMemory chunk_column old (Ok completion) new → CompletesOldest old new completion
completes_oldest old new completion e waits =
    let fetch = waits.0.0 in
    let at : slice_get old.outstanding 0 ≡ Some fetch = subst (λ (a : Arrive). slice_get old.outstanding (picked_place (order_of a) old.number (length old.outstanding)) ≡ Some fetch) e waits.0.1 in
    let left : new.outstanding ≡ drop 1 old.outstanding = ap (λ (s : MemoryState Chunk). s.outstanding) (waited_oldest old new completion e waits) in
    record { oldest = fetch; left = split_at old.outstanding 0 fetch at ∙ ap (λ (rest : List Fetch). fetch ∷ rest) (sym left); agrees = waits.0.2.agrees }

-- a refused wait leaves the source
pub refused_wait : (old new : MemoryState Chunk) (error : IoError) → WaitsInMemory chunk_column old (Err error) new → new ≡ old
refused_wait old new Fault waits = absurd waits
refused_wait old new OutOfMemory waits = waits
