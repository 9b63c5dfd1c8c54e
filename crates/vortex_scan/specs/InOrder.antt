-- Orderly runs: what an item asked for is outstanding, it waits only for that, and each visit leaves less work.
use Rattle.std.specs.Prelude.{◌≡◌, ◌≢◌, ℕ, ◌+◌, ◌-◌, ◌^◌, ◌<◌, ◌≤◌, true, Some, List, [], map, slice_get, sum_by}
use Rattle.std.specs.List.{AllByRecursion}
use Rattle.vortex_io.specs.Source.{Content, IsHonest, fetch_of}
use Rattle.vortex_io.specs.declared.ids.IoOwnerId.{IoOwnerId}
use Rattle.vortex_io.specs.declared.request.Completion.{Completion}
use Rattle.vortex_io.specs.declared.request.Fetch.{Fetch}
use Rattle.vortex_io.specs.declared.request.IoRequest.{IoRequest}
use Rattle.vortex_io.specs.declared.source.IoSource.{Ghosts}
use Rattle.vortex_scan.specs.declared.errors.Progress.{Progress}
use Rattle.vortex_scan.specs.declared.errors.Progress.TheVariants as progress
use Rattle.vortex_scan.specs.declared.errors.RunError.{RunError}
use Rattle.vortex_scan.specs.declared.errors.RunError.TheVariants as error
use Rattle.vortex_scan.specs.declared.item.Item.{Item}
use Rattle.vortex_scan.specs.declared.item.Slot.{Slot}
use Rattle.vortex_scan_types.specs.declared.place.RootId.{RootId}
use Rattle.vortex_scan.specs.declared.state.State.TheVariants as state
use Rattle.vortex_scan.specs.declared.worker.Worker.{Ghosts as Works}
use Rattle.vortex_scan.specs.Bag.{Carries}
use Rattle.vortex_scan.specs.Keys.{IsLeastReady}
use Rattle.vortex_scan.specs.RunState.{Live, RunState}

-- requests, as fetches of their owner
abbrev pub as_fetches : IoOwnerId → List IoRequest → List Fetch
as_fetches owner requests = map (fetch_of owner) requests

-- an item is orderly: its work is, what that has asked for is outstanding in the run, and it does not wait while it is ready
pub record ItemIsOrderly {W C E : Type 0} (works : Works W C E) (item : Item W) : Type 0 where
  pub orderly : works.orderly item.work
  pub asked : item.asked ≡ as_fetches item.owner (works.asked item.work)
  pub acts : item.ready ≡ true → works.state_is item.work ≢ state.Waiting

-- a run is orderly where every live item is
abbrev pub IsOrderly : {W S C E : Type 0} → Works W C E → Live W S → Type 0
IsOrderly works live = AllByRecursion (ItemIsOrderly works) live.items

-- an orderly run stays so
abbrev pub StaysOrderly : {W S C E : Type 0} → Works W C E → Live W S → Live W S → Type 0
StaysOrderly works old new = IsOrderly works old → IsOrderly works new

-- the work that all live items have left
abbrev pub work_left : {W C E : Type 0} → Works W C E → List (Item W) → ℕ
work_left {W} works items = sum_by (λ (item : Item W). works.work item.work) items

-- of an orderly run, the visits made and the work left do not rise together, nor do the next owner number and the work left
abbrev pub WorksOff : {W S C E : Type 0} → Works W C E → RunState W S → RunState W S → Type 0
WorksOff works old new = IsOrderly works old.live → (new.visits + work_left works new.live.items ≤ old.visits + work_left works old.live.items)
    × (new.live.next_owner + work_left works new.live.items ≤ old.live.next_owner + work_left works old.live.items)

-- a root that joins adds its work, and one owner number
abbrev pub AddsWork : {W S C E : Type 0} → Works W C E → W → RunState W S → RunState W S → Type 0
AddsWork works root old new = (new.visits ≡ old.visits) × (new.live.next_owner ≡ old.live.next_owner + 1) × (work_left works new.live.items ≡ work_left works old.live.items + works.work root)

-- a planner that an orderly run may take as a root
pub record IsOrderlyRoot {W C E : Type 0} (works : Works W C E) (root : W) : Type 0 where
  pub orderly : works.orderly root
  pub asked : works.asked root ≡ []
  pub acts : works.state_is root ≢ state.Waiting

-- an orderly run is refused for no disorder of its items, and reaches an end of its numbers only where visits or owner numbers are too few for its work
pub record RefusesInOrder {W S C E : Type 0} (works : Works W C E) (why : RunError E) (old : RunState W S) : Type 0 where
  pub empty_batch : why ≢ error.EmptyBatch
  pub empty_io : why ≢ error.EmptyIo
  pub republished : why ≢ error.Republished
  pub waits_for_nothing : why ≢ error.WaitsForNothing
  pub step_limit : why ≡ error.StepLimit → old.limit < old.visits + work_left works old.live.items
  pub ids_exhausted : why ≡ error.IdsExhausted → 2 ^ 64 < old.live.next_owner + work_left works old.live.items

abbrev pub IsInOrder : {W S C E : Type 0} → Works W C E → RunError E → RunState W S → Type 0
IsInOrder works why old = IsOrderly works old.live → RefusesInOrder works why old

-- a content permits a live item of a root this error
pub record IsPermitted {W C E : Type 0} (works : Works W C E) (root : RootId) (content : Content C) (failure : E) (items : List (Item W)) : Type 0 where
  pub at : ℕ
  pub item : Item W
  pub there : slice_get items at ≡ Some item
  pub of_root : item.root ≡ root
  pub permits : works.permits item.work content failure

-- the source of a root tells this content, and is honest in the call
pub record IsHonestAt {S C : Type 0} (source : Ghosts S C) (root : RootId) (content : Content C) (old new : List (Slot S)) : Type 0 where
  pub before : Slot S
  pub there : slice_get old root.0 ≡ Some before
  pub told : source.content before.source ≡ Some content
  pub after : Slot S
  pub now : slice_get new root.0 ≡ Some after
  pub honest : IsHonest (source.lies before.source) (source.lies after.source)

-- an orderly run's planners and morsels fail only as the content permitted a live item of their root as the call began
abbrev pub FailsAsPermitted : {W S C E : Type 0} → Works W C E → Ghosts S C → RunError E → Live W S → Live W S → Type 0
FailsAsPermitted {W} {S} {C} {E} works source why old new = (root : RootId) (failure : E) (content : Content C) → why ≡ error.Planner root failure → IsOrderly works old
    → IsHonestAt source root content old.slots new.slots → IsPermitted works root content failure old.items

-- of an orderly run, the live items of a root are permitted no more than before
abbrev pub PermitsNoMore : {W S C E : Type 0} → Works W C E → Ghosts S C → Live W S → Live W S → Type 0
PermitsNoMore {W} {S} {C} {E} works source old new = (root : RootId) (failure : E) (content : Content C) → IsOrderly works old
    → IsHonestAt source root content old.slots new.slots → IsPermitted works root content failure new.items → IsPermitted works root content failure old.items

-- the same of a delivery from elsewhere, where what is delivered to that root is what the content has
abbrev pub PermitsNoMoreGiven : {W S C E V : Type 0} → Works W C E → (C → V) → RootId → Completion C → Live W S → Live W S → Type 0
PermitsNoMoreGiven {W} {S} {C} {E} works means asker completion old new = (root : RootId) (failure : E) (content : Content C) → IsOrderly works old
    → (root ≡ asker → Carries means content asker completion old.items) → IsPermitted works root content failure new.items → IsPermitted works root content failure old.items

-- a batch is of the ready item with the least key, which goes on
abbrev pub GivesInOrder : {W : Type 0} → Progress → List (Item W) → Type 0
GivesInOrder {W} (progress.Batch batch) items = (at : ℕ) × (item : Item W) × IsLeastReady items at item × (batch.root ≡ item.root) × (batch.scope ≡ item.scope) × (batch.place ≡ item.path)
GivesInOrder (progress.RootDone root) items = Unit {0}
GivesInOrder progress.Waiting items = Unit {0}
GivesInOrder progress.Idle items = Unit {0}
