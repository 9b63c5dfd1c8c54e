-- The seats of a run: the places from which batches still come, each with what may still be fetched for it.
use Rattle.std.specs.Prelude.{◌≡◌, ◌≢◌, ℕ, ◌+◌, ◌⊎◌, Bool, true, false, cond, Option, None, Some, List, [], ◌∷◌, ◌++◌, flat_map, count_by, slice_get, ◌==◌}
use Rattle.std.specs.List.{AllByRecursion, list_any}
use Rattle.vortex_array.specs.Batch.{BatchParts}
use Rattle.vortex_io.specs.Source.{Content, has_target}
use Rattle.vortex_io.specs.declared.request.Completion.{Completion}
use Rattle.vortex_io.specs.declared.request.IoTarget.{IoTarget}
use Rattle.vortex_io.specs.declared.request.JournalEntry.{JournalEntry}
use Rattle.vortex_io.specs.declared.request.JournalEntry.TheVariants.{Submitted, Waited}
use Rattle.vortex_io.specs.declared.source.IoSource.{Ghosts}
use Rattle.vortex_scan_types.specs.declared.batch.Batch.{Batch}
use Rattle.vortex_scan_types.specs.declared.batch.WorkScope.{WorkScope}
use Rattle.vortex_scan_types.specs.declared.place.RootId.{RootId}
use Rattle.vortex_scan.specs.declared.item.Item.{Item}
use Rattle.vortex_scan.specs.declared.item.Slot.{Slot}
use Rattle.vortex_scan.specs.declared.state.State.{State}
use Rattle.vortex_scan.specs.declared.state.State.TheVariants as state
use Rattle.vortex_scan.specs.declared.worker.Work.{Work}
use Rattle.vortex_scan.specs.declared.worker.Work.TheVariants as work
use Rattle.vortex_scan.specs.Bag.{Carries}
use Rattle.vortex_scan.specs.InOrder.{IsHonestAt}
use Rattle.vortex_scan.specs.Plans.{IsSpent, Planned, fetched, has_targets}
use Rattle.vortex_scan.specs.RunState.{Live, is_of_root}

-- a place from which batches still come: its scope, and the targets that may still be fetched for it, over a content or over none, and those over none;
-- what is fresh has some of these to fetch first
pub record Seat : Type 0 where
  pub place : List ℕ
  pub scope : WorkScope
  pub targets : List IoTarget
  pub over_none : List IoTarget
  pub fresh : Bool

-- the targets of the first morsel of a plan, and the plan behind it
abbrev pub first_targets : List Planned → List IoTarget
first_targets [] = []
first_targets (planned ∷ rest) = planned.targets

abbrev pub behind_first : List Planned → List Planned
behind_first [] = []
behind_first (planned ∷ rest) = rest

-- a planner's seats, one for each morsel that it still makes, at its next places, by its plan over a content or over none, and by its plan over none
abbrev pub planned_seats : List ℕ → ℕ → List Planned → List Planned → List Seat
planned_seats path next [] none = []
planned_seats path next (planned ∷ rest) none =
    record { place = path ++ next ∷ []; scope = planned.scope; targets = planned.targets; over_none = first_targets none; fresh = has_targets (first_targets none) } ∷ planned_seats path (next + 1) rest (behind_first none)

-- the seats of a piece of work with this path, next number and scope
abbrev pub Seating : Type 0 → Type 0 → Type 0
Seating W C = Option (Content C) → List ℕ → ℕ → WorkScope → W → List Seat

-- a planner's are those of its plan, and a morsel is one itself
abbrev pub work_seats : {P M C : Type 0} → (P → Option (Content C) → List Planned) → (M → Option (Content C) → List IoTarget) → (M → Bool) → Seating (Work P M) C
work_seats planners morsels fresh told path next scope (work.Planner it) = planned_seats path next (planners it told) (planners it None)
work_seats planners morsels fresh told path next scope (work.Morsel it) = record { place = path; scope = scope; targets = morsels it told; over_none = morsels it None; fresh = fresh it } ∷ []

-- the seats of a root: those of its live items
abbrev pub seats_at : {W C : Type 0} → Seating W C → RootId → Option (Content C) → Item W → List Seat
seats_at seating root told item = cond (is_of_root root item) (seating told item.path item.next item.scope item.work) []

abbrev pub seats : {W C : Type 0} → Seating W C → RootId → Option (Content C) → List (Item W) → List Seat
seats seating root told items = flat_map (seats_at seating root told) items

-- all that may still be fetched for seats
abbrev pub targets_of : List Seat → List IoTarget
targets_of list = flat_map (λ (seat : Seat). seat.targets) list

-- P holds of some element
abbrev pub SomeByRecursion : {X : Type 0} → (X → Type 0) → List X → Type 0
SomeByRecursion P [] = ⊥
SomeByRecursion P (x ∷ xs) = P x ⊎ SomeByRecursion P xs

-- a seat is an earlier one, with the same targets or fewer
pub record IsLess (was now : Seat) : Type 0 where
  pub place : now.place ≡ was.place
  pub scope : now.scope ≡ was.scope
  pub targets : IsSpent was.targets [] now.targets
  pub over_none : IsSpent was.over_none [] now.over_none

-- What is said of a root's seats is said over none, or over a content, where this holds.

-- in a call, that the work tells what it owes, and the root's source tells the content and is honest
abbrev pub IsTold : {S C : Type 0} → Type 0 → Ghosts S C → List (Slot S) → List (Slot S) → RootId → Option (Content C) → Type 0
IsTold tells source old new root None = Unit {0}
IsTold tells source old new root (Some content) = tells × IsHonestAt source root content old new

-- where a completion is delivered from elsewhere, that the work tells what it owes, and what comes to the root is what the content has
abbrev pub IsBrought : {W C V : Type 0} → Type 0 → (C → V) → RootId → Completion C → List (Item W) → RootId → Option (Content C) → Type 0
IsBrought tells means asker completion items root None = Unit {0}
IsBrought tells means asker completion items root (Some content) = tells × (root ≡ asker → Carries means content asker completion items)

-- What is added to a journal.

-- a call adds these entries to the journal of a root's source, which tells it
pub record Adds {S C : Type 0} (source : Ghosts S C) (root : RootId) (added : List JournalEntry) (old new : List (Slot S)) : Type 0 where
  pub before : Slot S
  pub there : slice_get old root.0 ≡ Some before
  pub journal : List JournalEntry
  pub told : source.journal before.source ≡ Some journal
  pub after : Slot S
  pub now : slice_get new root.0 ≡ Some after
  pub grew : source.journal after.source ≡ Some (journal ++ added)

-- the targets of the fetches among entries
abbrev pub entry_targets : JournalEntry → List IoTarget
entry_targets (Submitted owner request) = fetched (request ∷ [])
entry_targets Waited = []

abbrev pub fetched_in : List JournalEntry → List IoTarget
fetched_in entries = flat_map entry_targets entries

-- whether an entry is a wait
abbrev pub is_wait : JournalEntry → Bool
is_wait (Submitted owner request) = false
is_wait Waited = true

-- no call to wait is added to a journal
abbrev pub AddsNoWait : {S C : Type 0} → Ghosts S C → List (Slot S) → List (Slot S) → Type 0
AddsNoWait source old new = (root : RootId) (added : List JournalEntry) → Adds source root added old new → list_any is_wait added ≡ false

-- nothing is added to a journal
abbrev pub AddsNothing : {S C : Type 0} → Ghosts S C → List (Slot S) → List (Slot S) → Type 0
AddsNothing source old new = (root : RootId) (added : List JournalEntry) → Adds source root added old new → added ≡ []

-- one source may note one wait, and nothing else is added
pub record WaitsOnce {S C : Type 0} (source : Ghosts S C) (old new : List (Slot S)) : Type 0 where
  pub root : RootId
  pub once : (added : List JournalEntry) → Adds source root added old new → (added ≡ []) ⊎ (added ≡ Waited ∷ [])
  pub others : (other : RootId) (added : List JournalEntry) → other ≢ root → Adds source other added old new → added ≡ []

-- What calls keep of seats.

-- each seat is one that was there before, with the same targets or fewer
abbrev pub KeepsSeats : {W S C : Type 0} → (RootId → Option (Content C) → Type 0) → Seating W C → Live W S → Live W S → Type 0
KeepsSeats {W} {S} {C} over seating old new = (root : RootId) (told : Option (Content C)) → over root told
    → AllByRecursion (λ seat. SomeByRecursion (λ was. IsLess was seat) (seats seating root told old.items)) (seats seating root told new.items)

-- a root that joins adds its seats, each of which stands under the root's number
abbrev pub AddsSeats : {W S C : Type 0} → Seating W C → RootId → WorkScope → W → Live W S → Live W S → Type 0
AddsSeats {W} {S} {C} seating joins scope work old new = (root : RootId) (told : Option (Content C)) (test : Seat → Bool)
    → count_by test (seats seating root told new.items) ≡ count_by test (seats seating root told old.items) + count_by test (cond (joins.0 == root.0) (seating told (joins.0 ∷ []) 0 scope work) [])

-- a batch is of this seat: its place and its scope
abbrev pub IsOfSeat : Batch → Seat → Type 0
IsOfSeat batch seat = (batch.place ≡ seat.place) × (batch.scope ≡ seat.scope)

-- a batch has a seat of its root that was there before, and is as the morsels' type says
pub record TakesSeat {W S C : Type 0} (over : RootId → Option (Content C) → Type 0) (seating : Seating W C) (gives_such : BatchParts → Bool) (old : Live W S) (batch : Batch) : Type 0 where
  pub seat : (told : Option (Content C)) → over batch.root told → SomeByRecursion (IsOfSeat batch) (seats seating batch.root told old.items)
  pub such : gives_such batch.array ≡ true

-- each target that a call fetches leaves the seats, at most as often as they had it
abbrev pub SpendsSeats : {W S C : Type 0} → (RootId → Option (Content C) → Type 0) → Ghosts S C → Seating W C → Live W S → Live W S → Type 0
SpendsSeats {W} {S} {C} over source seating old new = (root : RootId) (told : Option (Content C)) (added : List JournalEntry) → over root told → Adds source root added old.slots new.slots
    → IsSpent (targets_of (seats seating root told old.items)) (fetched_in added) (targets_of (seats seating root told new.items))

-- a call that is refused fetches no target oftener than the seats had it
abbrev pub SpendsAtMost : {W S C : Type 0} → (RootId → Option (Content C) → Type 0) → Ghosts S C → Seating W C → Live W S → Live W S → Type 0
SpendsAtMost {W} {S} {C} over source seating old new = (root : RootId) (told : Option (Content C)) (added : List JournalEntry) → over root told → Adds source root added old.slots new.slots
    → IsSpent (targets_of (seats seating root told old.items)) (fetched_in added) []

-- one of these targets was fetched
abbrev pub IsFetched : List IoTarget → List IoTarget → Type 0
IsFetched targets fetches = SomeByRecursion (λ target. SomeByRecursion (λ fetch. fetch ≡ target) fetches) targets

-- a fresh seat stays fresh, or one of its targets over none was fetched
abbrev pub StaysFresh : List Seat → List IoTarget → Seat → Type 0
StaysFresh new fetches seat = seat.fresh ≡ true → SomeByRecursion (λ now. IsLess seat now × (now.fresh ≡ true)) new ⊎ IsFetched seat.over_none fetches

abbrev pub KeepsFresh : {W S C : Type 0} → (RootId → Option (Content C) → Type 0) → Ghosts S C → Seating W C → Live W S → Live W S → Type 0
KeepsFresh {W} {S} {C} over source seating old new = (root : RootId) (told : Option (Content C)) (added : List JournalEntry) → over root told → Adds source root added old.slots new.slots
    → AllByRecursion (StaysFresh (seats seating root told new.items) (fetched_in added)) (seats seating root told old.items)

-- no seat is fresh
abbrev pub NoneFresh : {W C : Type 0} → Seating W C → List (Item W) → Type 0
NoneFresh {W} {C} seating items = (root : RootId) (told : Option (Content C)) → AllByRecursion (λ seat. seat.fresh ≡ false) (seats seating root told items)

-- a sure source does not fail where its content has all that may be fetched over none for its root
abbrev pub SurelyStands : {W S C : Type 0} → Ghosts S C → Seating W C → Live W S → List (Slot S) → Type 0
SurelyStands {W} {S} {C} source seating old new = (root : RootId) (before after : Slot S) (content : Content C) → slice_get old.slots root.0 ≡ Some before → slice_get new root.0 ≡ Some after
    → source.sure before.source ≡ true → source.content before.source ≡ Some content
    → AllByRecursion (λ target. has_target content target ≡ true) (targets_of (seats seating root None old.items)) → source.faults after.source ≡ source.faults before.source

-- no source that is sure and tells its content fails
abbrev pub FaultsNoSure : {S C : Type 0} → Ghosts S C → List (Slot S) → List (Slot S) → Type 0
FaultsNoSure {S} {C} source old new = (root : RootId) (before after : Slot S) (content : Content C) → slice_get old root.0 ≡ Some before → slice_get new root.0 ≡ Some after
    → source.sure before.source ≡ true → source.content before.source ≡ Some content → source.faults after.source ≡ source.faults before.source

-- What a run keeps where its work tells a plan: what is parked waits, and what has something outstanding is a morsel.

abbrev pub IsMorsel : {P M : Type 0} → Work P M → Type 0
IsMorsel (work.Planner it) = ⊥
IsMorsel (work.Morsel it) = Unit {0}

pub record ItemIsPlanned {W : Type 0} (state_is : W → State) (publishes : W → Type 0) (item : Item W) : Type 0 where
  pub parked : item.ready ≡ false → state_is item.work ≡ state.Waiting
  pub asked : item.asked ≢ [] → publishes item.work

abbrev pub ArePlanned : {W : Type 0} → (W → State) → (W → Type 0) → List (Item W) → Type 0
ArePlanned state_is publishes items = AllByRecursion (ItemIsPlanned state_is publishes) items
