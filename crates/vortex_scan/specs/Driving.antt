-- A driver: one root over one source, taken to its end.
use Rattle.std.specs.Prelude.{◌≡◌, ◌≢◌, ℕ, zero, suc, ◌-◌, ◌^◌, ◌<◌, ◌≤◌, ◌⊎◌, Bool, true, false, Some, slice_get, List, [], ◌∷◌, ◌++◌, count_by}
use Rattle.vortex_buffer.specs.Counts.{Faulted, Rose}
use Rattle.vortex_io.specs.Source.{Content, IsHonest}
use Rattle.vortex_io.specs.declared.ids.IoOwnerId.{IoOwnerId}
use Rattle.vortex_io.specs.declared.ids.IoRequestId.{IoRequestId}
use Rattle.vortex_io.specs.declared.payload.Payload.{Ghosts as Meanings}
use Rattle.vortex_io.specs.declared.source.IoSource.{Ghosts}
use Rattle.vortex_scan_types.specs.declared.batch.Batch.{Batch}
use Rattle.vortex_scan_types.specs.declared.batch.WorkScope.{WorkScope}
use Rattle.vortex_scan_types.specs.declared.place.RootId.{RootId}
use Rattle.vortex_scan.specs.declared.driver.Round.{Round}
use Rattle.vortex_scan.specs.declared.driver.Round.TheVariants as round
use Rattle.vortex_scan.specs.declared.errors.Progress.{Progress}
use Rattle.vortex_scan.specs.declared.errors.Progress.TheVariants as progress
use Rattle.vortex_scan.specs.declared.errors.RunError.{RunError}
use Rattle.vortex_scan.specs.declared.errors.RunError.TheVariants as error
use Rattle.vortex_scan.specs.declared.item.Slot.{Slot}
use Rattle.vortex_scan.specs.declared.worker.Worker.{Ghosts as Works}
use Rattle.vortex_scan.specs.Asking.{IsFirstAsking, root_at}
use Rattle.vortex_scan.specs.Bag.{KeepsBag, Owing, entries_of}
use Rattle.vortex_scan.specs.Fails.{WaitFails}
use Rattle.vortex_scan.specs.Fits.{LiveFits}
use Rattle.vortex_scan.specs.Going.{AdvanceFails, Advances}
use Rattle.vortex_scan.specs.InOrder.{FailsAsPermitted, IsInOrder, IsOrderlyRoot, PermitsNoMore, StaysOrderly, WorksOff}
use Rattle.vortex_scan.specs.InStep.{LiesByCause, StaysInStep}
use Rattle.vortex_scan.specs.Owed.{Entry}
use Rattle.vortex_scan.specs.RunState.{RunState, new_run}
use Rattle.vortex_scan.specs.Sources.{ClearsEach, Keeps, KeepsEach}
use Rattle.vortex_scan.specs.Steps.{WaitsFor, admitted}
use Rattle.vortex_scan.specs.Visits.{asked_count}
use Rattle.vortex_scan.specs.Whole.{FailsByCause}

-- what contracts see of a driver: its source, and the limit of visits
pub record Driving (S : Type 0) : Type 0 where
  pub source : S
  pub limit : ℕ

-- How a driver goes on.

-- the scope of its root: no rows
abbrev pub no_rows : WorkScope
no_rows = record { file_ordinal = 0; rows = record { start = 0; end = 0 } }

-- the run as it begins: the root alone, over the source
abbrev pub begun : {W S : Type 0} → W → Driving S → RunState W S
begun root driver = admitted (record new_run { limit = driver.limit }) root no_rows driver.source

-- the answers at which a driver ends: its root is done, or nothing is live
abbrev pub IsEnd : Progress → Type 0
IsEnd (progress.Batch batch) = ⊥
IsEnd (progress.RootDone root) = Unit {0}
IsEnd progress.Waiting = ⊥
IsEnd progress.Idle = Unit {0}

-- the first source, in order of admission, at which something is outstanding was waited for
pub record WaitsFirst {W S C E : Type 0} (works : Works W C E) (source : Ghosts S C) (payload : Meanings C) (old new : RunState W S) : Type 0 where
  pub root : ℕ
  pub first : IsFirstAsking old.live.items root
  pub waits : WaitsFor works source payload (root_at root) old.live new.live
  pub now : new ≡ record old { live = new.live }

-- a round: the run goes on until it answers; where it answers that all items wait, it then waits for the first source
abbrev pub Rounds : {W S C E : Type 0} → Works W C E → Ghosts S C → Meanings C → Round → RunState W S → RunState W S → Type 0
Rounds {W} {S} works source payload round.Waited old new = (between : RunState W S) × Advances works source payload old between progress.Waiting × WaitsFirst works source payload between new
Rounds works source payload (round.Gave batch) old new = Advances works source payload old new (progress.Batch batch)
Rounds works source payload round.Ended old new = (answer : Progress) × IsEnd answer × Advances works source payload old new answer

-- the batches that a round gives
abbrev pub given_by : Round → List Batch
given_by round.Waited = []
given_by (round.Gave batch) = batch ∷ []
given_by round.Ended = []

-- whether a round is the last
abbrev pub is_last : Round → Bool
is_last round.Waited = false
is_last (round.Gave batch) = false
is_last round.Ended = true

-- whether all items waited
abbrev pub is_wait : Round → Bool
is_wait round.Waited = true
is_wait (round.Gave batch) = false
is_wait round.Ended = false

-- so many rounds, none of them the last, and the batches that the run gave in them, in order
abbrev pub GoesRound : {W S C E : Type 0} → Works W C E → Ghosts S C → Meanings C → ℕ → List Batch → RunState W S → RunState W S → Type 0
GoesRound works source payload zero given old new = (given ≡ []) × (new ≡ old)
GoesRound {W} {S} works source payload (suc rounds) given old new = (earlier : List Batch) × (between : RunState W S) × (came : Round) × GoesRound works source payload rounds earlier old between
    × Rounds works source payload came between new × (is_last came ≡ false) × (given ≡ earlier ++ given_by came)

-- rounds up to one more, and the batches that were given before it
pub record ComesTo {W S C E : Type 0} (works : Works W C E) (source : Ghosts S C) (payload : Meanings C) (given : List Batch) (came : Round) (old new : RunState W S) : Type 0 where
  pub rounds : ℕ
  pub between : RunState W S
  pub goes : GoesRound works source payload rounds given old between
  pub last : Rounds works source payload came between new

-- a round fails: the run could not go on, or all items waited and it could not wait
abbrev pub RoundFails : {W S C E : Type 0} → Works W C E → Ghosts S C → Meanings C → RunState W S → RunState W S → RunError E → Type 0
RoundFails {W} {S} works source payload old new why = AdvanceFails works source payload old (record new { failed = false }) why
    ⊎ ((between : RunState W S) × Advances works source payload old between progress.Waiting × ((root : ℕ) × IsFirstAsking between.live.items root × WaitFails works source payload (root_at root) between.live new.live why))

-- rounds up to one that fails
pub record Breaks {W S C E : Type 0} (works : Works W C E) (source : Ghosts S C) (payload : Meanings C) (why : RunError E) (old new : RunState W S) : Type 0 where
  pub rounds : ℕ
  pub given : List Batch
  pub between : RunState W S
  pub goes : GoesRound works source payload rounds given old between
  pub fails : RoundFails works source payload between new why

-- a driver's run comes to its end and gives these batches, and the source is then cleared
abbrev pub DrivesToEnd : {W S C E : Type 0} → Works W C E → Ghosts S C → Meanings C → W → List Batch → Driving S → S → Type 0
DrivesToEnd {W} {S} works source payload root given driver after = (new : RunState W S) × ComesTo works source payload given round.Ended (begun root driver) new × ClearsEach source new.live.slots (after ∷ [])

-- a driver's run fails for this reason, and the source is then cleared; want of memory has no further cause
abbrev pub DrivesToFailure : {W S C E : Type 0} → Works W C E → Ghosts S C → Meanings C → W → RunError E → Driving S → S → Type 0
DrivesToFailure {W} {S} works source payload root why driver after =
    (why ≡ error.OutOfMemory) ⊎ ((new : RunState W S) × Breaks works source payload why (begun root driver) new × ClearsEach source new.live.slots (after ∷ []))

-- What it keeps of the run from one call to a later one, and why it stops.

-- over calls that are not refused, with the batches given in them
pub record KeepsRun {W S C E : Type 0} (works : Works W C E) (source : Ghosts S C) (owed : Owing W C) (tells : Type 0) (given : List Batch) (old new : RunState W S) : Type 0 where
  pub well : new.failed ≡ false
  pub fits : LiveFits source new.live
  pub limit : new.limit ≡ old.limit
  pub sources : KeepsEach source old.live.slots new.live.slots
  pub in_step : StaysInStep source old.live new.live
  pub bag : tells → KeepsBag source owed given old.live new.live
  pub orderly : StaysOrderly works old.live new.live
  pub work : WorksOff works old new
  pub permitted : tells → PermitsNoMore works source old.live new.live

-- a refusal that a driver itself never causes
pub record IsNoFault {E : Type 0} (why : RunError E) : Type 0 where
  pub run_failed : why ≢ error.RunFailed
  pub no_live_root : why ≢ error.NoLiveRoot

-- over calls of which the last is refused
pub record StopsRun {W S C E : Type 0} (works : Works W C E) (source : Ghosts S C) (tells : Type 0) (why : RunError E) (old new : RunState W S) : Type 0 where
  pub own : IsNoFault why
  pub sources : KeepsEach source old.live.slots new.live.slots
  pub cause : FailsByCause source why old.live.slots new.live.slots
  pub unexpected : LiesByCause source why old.live new.live.slots
  pub disorder : IsInOrder works why old
  pub permits : tells → FailsAsPermitted works source why old.live new.live
  pub blames : (root : RootId) (failure : E) → why ≡ error.Planner root failure → (slot : Slot S) × (slice_get old.live.slots root.0 ≡ Some slot)

-- more visits were made, within the limit
abbrev pub VisitsMore : {W S : Type 0} → RunState W S → RunState W S → Type 0
VisitsMore old new = (old.visits < new.visits) × (new.visits ≤ new.limit)

-- a round that is not the last makes a visit; or all items waited, and something is delivered
abbrev pub Proceeds : {W S : Type 0} → Round → RunState W S → RunState W S → Type 0
Proceeds round.Waited old new = VisitsMore old new ⊎ ((new.visits ≡ old.visits) × (asked_count new.live.items < asked_count old.live.items))
Proceeds (round.Gave batch) old new = VisitsMore old new
Proceeds round.Ended old new = Unit {0}

-- What a driver answers.

-- the source comes back as every call keeps it, with nothing outstanding
pub record Returns {S C : Type 0} (source : Ghosts S C) (old new : S) : Type 0 where
  pub keeps : Keeps source old new
  pub none : source.outstanding new ≡ []

-- the batches are the entries that the root owed over the content that the source tells, each as often, where the source was honest
abbrev pub GivesOwed : {S C : Type 0} → Ghosts S C → (Content C → List Entry) → List Batch → S → S → Type 0
GivesOwed {S} {C} source owed batches old new = (content : Content C) → source.content old ≡ Some content → IsHonest (source.lies old) (source.lies new)
    → (test : Entry → Bool) → count_by test (entries_of batches) ≡ count_by test (owed content)

-- the source is blamed only where it failed
abbrev pub FaultsByCause : {S C E : Type 0} → Ghosts S C → RunError E → S → S → Type 0
FaultsByCause source why old new = (root : RootId) → why ≡ error.Source root → Faulted (source.faults old) (source.faults new)

-- a completion that is not expected comes only where the source may have lied
abbrev pub LiesAlone : {S C E : Type 0} → Ghosts S C → RunError E → S → S → Type 0
LiesAlone source why old new = (root : RootId) (owner : IoOwnerId) (request : IoRequestId) → why ≡ error.Protocol root owner request → Rose (source.lies old) (source.lies new)

-- an orderly root is refused for no disorder of its own, and reaches an end of visits or owner numbers only where they are fewer than its work
pub record StopsInOrder {E : Type 0} (why : RunError E) (limit work : ℕ) : Type 0 where
  pub empty_batch : why ≢ error.EmptyBatch
  pub empty_io : why ≢ error.EmptyIo
  pub republished : why ≢ error.Republished
  pub waits_for_nothing : why ≢ error.WaitsForNothing
  pub step_limit : why ≡ error.StepLimit → limit < work
  pub ids_exhausted : why ≡ error.IdsExhausted → 2 ^ 64 - 1 < work

-- a planner or a morsel fails only as the content permits the orderly root
abbrev pub FailsAsRoot : {W S C E : Type 0} → Works W C E → Ghosts S C → W → RunError E → S → S → Type 0
FailsAsRoot {W} {S} {C} {E} works source root why old new = (asker : RootId) (failure : E) (content : Content C) → why ≡ error.Planner asker failure → IsOrderlyRoot works root
    → source.content old ≡ Some content → IsHonest (source.lies old) (source.lies new) → works.permits root content failure

-- nothing hinders the root: it is orderly and its content permits it want of memory alone; the source tells that content, is honest and does not fail; and the
-- limit is at least its work
pub record IsUnhindered {W S C E : Type 0} (works : Works W C E) (source : Ghosts S C) (is_memory : E → Bool) (root : W) (limit : ℕ) (content : Content C) (old new : S) : Type 0 where
  pub orderly : IsOrderlyRoot works root
  pub suits : (failure : E) → works.permits root content failure → is_memory failure ≡ true
  pub told : source.content old ≡ Some content
  pub honest : IsHonest (source.lies old) (source.lies new)
  pub sound : ¬ Faulted (source.faults old) (source.faults new)
  pub enough : works.work root ≤ limit

-- want of memory, of the run or of its root's work
abbrev pub IsWantOfMemory : {E : Type 0} → (E → Bool) → RunError E → Type 0
IsWantOfMemory {E} is_memory why = (why ≡ error.OutOfMemory) ⊎ ((root : RootId) × (failure : E) × (why ≡ error.Planner root failure) × (is_memory failure ≡ true))

-- a root that nothing hinders is refused for want of memory alone
abbrev pub LacksMemoryAlone : {W S C E : Type 0} → Works W C E → Ghosts S C → (E → Bool) → W → ℕ → RunError E → S → S → Type 0
LacksMemoryAlone {W} {S} {C} works source is_memory root limit why old new = (content : Content C) → IsUnhindered works source is_memory root limit content old new → IsWantOfMemory is_memory why
