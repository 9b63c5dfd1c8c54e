-- What holds over a whole call, however many steps it makes.
use Rattle.std.specs.Prelude.{◌≡◌, ◌≢◌, ℕ, ◌+◌, ◌-◌, ◌*◌, ◌^◌, ◌<◌, ◌≤◌, true, false, Some, List, [], slice_get}
use Rattle.std.specs.List.{AllByRecursion}
use Rattle.std.proofs.Math.ListN.{set}
use Rattle.vortex_buffer.specs.Counts.{Faulted, Rose}
use Rattle.vortex_io.specs.declared.source.IoSource.{Ghosts}
use Rattle.vortex_scan.specs.declared.errors.Progress.{Progress}
use Rattle.vortex_scan.specs.declared.errors.Progress.TheVariants as progress
use Rattle.vortex_scan.specs.declared.errors.RunError.{RunError}
use Rattle.vortex_scan.specs.declared.errors.RunError.TheVariants as error
use Rattle.vortex_scan.specs.declared.item.Item.{Item}
use Rattle.vortex_scan.specs.declared.item.Slot.{Slot}
use Rattle.vortex_scan_types.specs.declared.place.RootId.{RootId}
use Rattle.vortex_scan.specs.Fits.{visits_since}
use Rattle.vortex_scan.specs.RunState.{Live, RunState, has_root, liveness}

-- what an answer tells of roots: a batch is of a live root; a root that is done was live, has no item left and is live no more; and no other root ends
abbrev pub TellsRoots : {W S : Type 0} → Progress → Live W S → Live W S → Type 0
TellsRoots (progress.Batch batch) old new = (slice_get (liveness old.slots) batch.root.0 ≡ Some true) × (liveness new.slots ≡ liveness old.slots)
TellsRoots (progress.RootDone root) old new = (slice_get (liveness old.slots) root.0 ≡ Some true) × (has_root root new.items ≡ false) × (liveness new.slots ≡ set (liveness old.slots) root.0 false)
TellsRoots progress.Waiting old new = liveness new.slots ≡ liveness old.slots
TellsRoots progress.Idle old new = liveness new.slots ≡ liveness old.slots

-- the visits since all were asked, before a call, and those made in it are together at most the visits since at its end and 64 for each time that the
-- source of a root which stays live was found with nothing, as long as the count of these times is below its last number
abbrev pub AsksEnough : {W S C : Type 0} → Ghosts S C → RunState W S → RunState W S → Type 0
AsksEnough {W} {S} source old new = (root : ℕ) (before after : Slot S) (made found : ℕ) → slice_get old.live.slots root ≡ Some before → slice_get new.live.slots root ≡ Some after
    → after.live ≡ true → source.quiet after.source < 2 ^ 64 - 1 → new.visits ≡ old.visits + made → source.quiet after.source ≡ source.quiet before.source + found
    → visits_since old.since + made ≤ visits_since new.since + 64 * found

-- the source of each live root was found with nothing in the call, and was given nothing since
abbrev pub AreQuiet : {S C : Type 0} → Ghosts S C → List (Slot S) → List (Slot S) → Type 0
AreQuiet {S} source old new = (root : ℕ) (before after : Slot S) → slice_get old root ≡ Some before → slice_get new root ≡ Some after → after.live ≡ true
    → Rose (source.quiet before.source) (source.quiet after.source) × (source.stale after.source ≡ false)

-- a run that waits: an item is live, none is ready, each has a fetch outstanding, and all sources were found with nothing
pub record IsAtRest {W S C : Type 0} (source : Ghosts S C) (old new : Live W S) : Type 0 where
  pub some : new.items ≢ []
  pub each : AllByRecursion (λ (item : Item W). (item.ready ≡ false) × (item.asked ≢ [])) new.items
  pub quiet : AreQuiet source old.slots new.slots

-- the source of a live root failed in the call
pub record FailedAt {S C : Type 0} (source : Ghosts S C) (root : RootId) (old new : List (Slot S)) : Type 0 where
  pub before : Slot S
  pub there : slice_get old root.0 ≡ Some before
  pub live : before.live ≡ true
  pub after : Slot S
  pub now : slice_get new root.0 ≡ Some after
  pub fault : Faulted (source.faults before.source) (source.faults after.source)

-- a refusal over a root's source comes only where that source failed in the call
abbrev pub FailsByCause : {S C E : Type 0} → Ghosts S C → RunError E → List (Slot S) → List (Slot S) → Type 0
FailsByCause source why old new = (root : RootId) → why ≡ error.Source root → FailedAt source root old new
