-- Runs that are taken to their end: what they give, and how they fail, by the clauses of their calls alone.
use Rattle.std.specs.Prelude.{◌≡◌, ◌≢◌, ℕ, ◌+◌, ◌<◌, ◌≤◌, Bool, Some, List, [], length, slice_get, count_by}
use Rattle.vortex_io.specs.Source.{Content}
use Rattle.vortex_io.specs.declared.source.IoSource.{Ghosts}
use Rattle.vortex_scan_types.specs.declared.batch.Batch.{Batch}
use Rattle.vortex_scan_types.specs.declared.place.RootId.{RootId}
use Rattle.vortex_scan.specs.Bag.{Owing, bag, entries_of}
use Rattle.vortex_scan.specs.InOrder.{IsOrderly, IsPermitted, work_left}
use Rattle.vortex_scan.specs.Owed.{Entry}
use Rattle.vortex_scan.specs.RunState.{Live, RunState}
use Rattle.vortex_scan.specs.declared.errors.RunError.{RunError}
use Rattle.vortex_scan.specs.declared.errors.RunError.TheVariants as error
use Rattle.vortex_scan.specs.declared.item.Slot.{Slot}
use Rattle.vortex_scan.specs.declared.worker.Worker.{Ghosts as Works}

-- each root's source tells this content
abbrev pub TellsEach : {S C : Type 0} → Ghosts S C → (ℕ → Content C) → List (Slot S) → Type 0
TellsEach {S} source contents slots = (root : ℕ) (slot : Slot S) → slice_get slots root ≡ Some slot → source.content slot.source ≡ Some (contents root)

-- these batches are what was owed, each entry as often as it was owed
abbrev pub GivesAll : {W S C : Type 0} → Ghosts S C → Owing W C → List Batch → Live W S → Type 0
GivesAll {W} {S} {C} source owed batches old = (contents : ℕ → Content C) → TellsEach source contents old.slots → (test : Entry → Bool) → count_by test (entries_of batches) ≡ bag owed contents test [] old.items

-- nothing is owed any more: whatever was given is all that there was
abbrev pub IsEmpty : {W S C : Type 0} → Owing W C → Live W S → Type 0
IsEmpty {W} {S} {C} owed live = (contents : ℕ → Content C) (given : List Entry) (test : Entry → Bool) → bag owed contents test given live.items ≡ count_by test given

-- an error of a planner or a morsel is one that the content permitted a live item of its root
abbrev pub FailsWithin : {W S C E : Type 0} → Works W C E → Ghosts S C → RunError E → Live W S → Type 0
FailsWithin {W} {S} {C} {E} works source why old = (contents : ℕ → Content C) → TellsEach source contents old.slots → (root : RootId) (failure : E) → why ≡ error.Planner root failure → root.0 < length old.slots
    → IsPermitted works root (contents root.0) failure old.items

-- an error that no disorder of an item is the cause of, nor the limit of visits
pub record IsInOrder {E : Type 0} (why : RunError E) : Type 0 where
  pub empty_batch : why ≢ error.EmptyBatch
  pub empty_io : why ≢ error.EmptyIo
  pub republished : why ≢ error.Republished
  pub waits_for_nothing : why ≢ error.WaitsForNothing
  pub step_limit : why ≢ error.StepLimit

-- a run was taken on, and gave these batches
pub record IsTaken {W S C E : Type 0} (works : Works W C E) (source : Ghosts S C) (owed : Owing W C) (old : RunState W S) (batches : List Batch) (now : RunState W S) : Type 0 where
  pub long : length now.live.slots ≡ length old.live.slots
  pub told : (contents : ℕ → Content C) → TellsEach source contents old.live.slots → TellsEach source contents now.live.slots
  pub given : (contents : ℕ → Content C) → TellsEach source contents old.live.slots → (test : Entry → Bool) → bag owed contents test (entries_of batches) now.live.items ≡ bag owed contents test [] old.live.items
  pub orderly : IsOrderly works now.live
  pub work : now.visits + work_left works now.live.items ≤ old.visits + work_left works old.live.items
  pub limit : now.limit ≡ old.limit
  pub permitted : (contents : ℕ → Content C) → TellsEach source contents old.live.slots → (root : RootId) (failure : E) → root.0 < length old.live.slots
      → IsPermitted works root (contents root.0) failure now.live.items → IsPermitted works root (contents root.0) failure old.live.items
