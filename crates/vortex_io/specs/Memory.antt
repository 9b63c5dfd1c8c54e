-- What contracts see of a source in memory, and what each of its calls does.
use Rattle.std.specs.Prelude.{◌≡◌, ℕ, nat_lt, Bool, true, false, ◌&&◌, IsTrue, Option, None, Some, Result, Ok, Err, List, [], ◌∷◌, ◌++◌, All, length, remove, slice_get}
use Rattle.std.specs.Global.{Vec}
use Rattle.std.specs.List.{list_any}
use Rattle.vortex_buffer.specs.Counts.{one_more}
use Rattle.vortex_io.specs.declared.ids.IoOwnerId.{IoOwnerId}
use Rattle.vortex_io.specs.declared.order.Arrive.{Arrive}
use Rattle.vortex_io.specs.declared.request.Fetch.{Fetch}
use Rattle.vortex_io.specs.declared.request.IoError.{IoError}
use Rattle.vortex_io.specs.declared.request.IoError.TheVariants.{Fault, OutOfMemory}
use Rattle.vortex_io.specs.declared.request.IoRequest.{IoRequest}
use Rattle.vortex_io.specs.declared.request.Completion.{Completion}
use Rattle.vortex_io.specs.declared.request.JournalEntry.{JournalEntry}
use Rattle.vortex_io.specs.declared.request.JournalEntry.TheVariants.{Waited}
use Rattle.vortex_io.specs.Source.{fetches, submissions, has_target, is_outside, Agrees}
use Rattle.vortex_io.specs.Orders.{order_of, is_on_poll, number_after, picked_place}

-- a source in memory: its chunks by split and column, when fetches are completed and in which order, the generator's number, what is
-- outstanding, what happened so far, how often it failed, how often a poll found nothing ready, and whether something was submitted since
pub record MemoryState (C : Type 0) : Type 0 where
  pub chunks : List (List C)
  pub arrive : Arrive
  pub number : ℕ
  pub outstanding : List Fetch
  pub journal : List JournalEntry
  pub faults : ℕ
  pub quiet : ℕ
  pub stale : Bool

-- each fetch is of something that the chunks have
abbrev pub AreHeld : {C : Type 0} → List (List C) → List Fetch → Type 0
AreHeld chunks outstanding = All (λ (fetch : Fetch). IsTrue (has_target chunks fetch.target)) outstanding

-- the chunks of one split, by column
abbrev pub columns_of : {C : Type 0} → Vec C → List C
columns_of columns = columns.items

-- the place of the fetch that is completed next
abbrev pub next_place : {C : Type 0} → MemoryState C → ℕ
next_place s = picked_place (order_of s.arrive) s.number (length s.outstanding)

-- whether a poll completes a fetch: polls do, and one is outstanding
abbrev pub is_ready : {C : Type 0} → MemoryState C → Bool
is_ready s = is_on_poll s.arrive && nat_lt 0 (length s.outstanding)

-- a completion of a fetch, with what the chunks have at its target
pub record Delivers {C M : Type 0} (means : C → M) (chunks : List (List C)) (fetch : Fetch) (completion : Completion C) : Type 0 where
  pub owner : completion.owner ≡ fetch.owner
  pub request : completion.request ≡ fetch.request
  pub agrees : Agrees means chunks fetch.target completion.result

-- the completion of the fetch that is next
abbrev pub DeliversNext : {C M : Type 0} → (C → M) → MemoryState C → Completion C → Type 0
DeliversNext means s completion = (fetch : Fetch) × (slice_get s.outstanding (next_place s) ≡ Some fetch) × Delivers means s.chunks fetch completion

-- a source whose next fetch was completed
abbrev pub completed : {C : Type 0} → MemoryState C → MemoryState C
completed s = record s { outstanding = remove s.outstanding (next_place s); number = number_after (order_of s.arrive) s.number }

-- a submission fails exactly at a fetch of a chunk that is not there, which is counted; else its fetches become outstanding, and it is noted,
-- or memory is wanted and nothing changes
abbrev pub SubmitsInMemory : {C : Type 0} → MemoryState C → IoOwnerId → List IoRequest → Result (Unit {0}) IoError → MemoryState C → Type 0
SubmitsInMemory old owner batch (Ok _) new = (list_any (is_outside old.chunks) batch ≡ false)
    × (new ≡ record old { outstanding = old.outstanding ++ fetches owner batch; journal = old.journal ++ submissions owner batch; stale = true })
SubmitsInMemory old owner batch (Err Fault) new = (list_any (is_outside old.chunks) batch ≡ true) × (new ≡ record old { faults = one_more old.faults })
SubmitsInMemory old owner batch (Err OutOfMemory) new = (list_any (is_outside old.chunks) batch ≡ false) × (new ≡ old)

-- a poll answers None exactly where none is ready, which is counted; else the next fetch is completed, or memory is wanted and nothing changes
abbrev pub PollsInMemory : {C M : Type 0} → (C → M) → MemoryState C → Result (Option (Completion C)) IoError → MemoryState C → Type 0
PollsInMemory means old (Ok None) new = (is_ready old ≡ false) × (new ≡ record old { quiet = one_more old.quiet; stale = false })
PollsInMemory means old (Ok (Some completion)) new = (is_ready old ≡ true) × DeliversNext means old completion × (new ≡ completed old)
PollsInMemory means old (Err Fault) new = ⊥
PollsInMemory means old (Err OutOfMemory) new = (is_ready old ≡ true) × (new ≡ old)

-- a wait completes the next fetch and is noted, or memory is wanted and nothing changes
abbrev pub WaitsInMemory : {C M : Type 0} → (C → M) → MemoryState C → Result (Completion C) IoError → MemoryState C → Type 0
WaitsInMemory means old (Ok completion) new = DeliversNext means old completion × (new ≡ record (completed old) { journal = old.journal ++ Waited ∷ [] })
WaitsInMemory means old (Err Fault) new = ⊥
WaitsInMemory means old (Err OutOfMemory) new = new ≡ old
