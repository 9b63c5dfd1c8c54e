-- Roots that have ended, over any list of calls.
use Rattle.std.specs.Prelude.{◌≡◌, ◌≢◌, ◌⊎◌, ◌<◌, true, false, Option, None, Some, List, [], ◌∷◌, slice_get}
use Rattle.std.specs.List.{AllByRecursion}
use Rattle.vortex_io.specs.declared.payload.Payload.{Ghosts as Meanings}
use Rattle.vortex_io.specs.declared.source.IoSource.{Ghosts}
use Rattle.vortex_scan_types.specs.declared.batch.WorkScope.{WorkScope}
use Rattle.vortex_scan_types.specs.declared.place.RootId.{RootId}
use Rattle.vortex_scan.specs.declared.errors.Progress.{Progress}
use Rattle.vortex_scan.specs.declared.errors.Progress.TheVariants as progress
use Rattle.vortex_scan.specs.declared.worker.Worker.{Ghosts as Works}
use Rattle.vortex_scan.specs.Fits.{RunFits}
use Rattle.vortex_scan.specs.Going.{Advances}
use Rattle.vortex_scan.specs.RunState.{RunState, live_with, liveness}
use Rattle.vortex_scan.specs.Steps.{CancelsLive, admitted}
use Rattle.vortex_scan.specs.Whole.{TellsRoots}

-- a root has ended: its number was given, and it is live no more
abbrev pub HasEnded : {W S : Type 0} → RunState W S → RootId → Type 0
HasEnded run root = (root.0 < run.next_root) × (slice_get (liveness run.live.slots) root.0 ≢ Some true)

-- what was told is of a root: a batch of it, or its end
abbrev pub IsOf : RootId → Option Progress → Type 0
IsOf root None = ⊥
IsOf root (Some (progress.Batch batch)) = batch.root ≡ root
IsOf root (Some (progress.RootDone done)) = done ≡ root
IsOf root (Some progress.Waiting) = ⊥
IsOf root (Some progress.Idle) = ⊥

-- The calls that are not refused, in the words of their clauses.

-- a root was admitted
pub record Admits {W S : Type 0} (old new : RunState W S) : Type 0 where
  pub work : W
  pub scope : WorkScope
  pub io : S
  pub well : old.failed ≡ false
  pub now : new ≡ admitted old work scope io

-- a root was cancelled
pub record CancelsOne {W S C : Type 0} (source : Ghosts S C) (root : RootId) (old new : RunState W S) : Type 0 where
  pub step : CancelsLive source root (slice_get old.live.slots root.0) old.live new.live
  pub now : new ≡ record old { live = new.live }

-- completions were delivered, or none came
pub record HearsSources {W S : Type 0} (old new : RunState W S) : Type 0 where
  pub roots : liveness new.live.slots ≡ liveness old.live.slots
  pub now : new ≡ record old { live = new.live }

-- all sources were taken
abbrev pub TakesSources : {W S : Type 0} → RunState W S → RunState W S → Type 0
TakesSources old new = new ≡ record old { live = live_with [] [] old.live.next_owner; failed = true }

-- the run went on, and told this
pub record WentOn {W S C E : Type 0} (works : Works W C E) (source : Ghosts S C) (payload : Meanings C) (answer : Progress) (old new : RunState W S) : Type 0 where
  pub well : old.failed ≡ false
  pub goes : Advances works source payload old new answer
  pub roots : TellsRoots answer old.live new.live

-- any of these, and what it told
abbrev pub IsCall : {W S C E : Type 0} → Works W C E → Ghosts S C → Meanings C → Option Progress → RunState W S → RunState W S → Type 0
IsCall works source payload None old new = Admits old new ⊎ (((root : RootId) × CancelsOne source root old new) ⊎ (HearsSources old new ⊎ TakesSources old new))
IsCall works source payload (Some answer) old new = WentOn works source payload answer old new

-- calls one after another, and what each told
abbrev pub AreCalls : {W S C E : Type 0} → Works W C E → Ghosts S C → Meanings C → List (Option Progress) → RunState W S → RunState W S → Type 0
AreCalls works source payload [] old new = new ≡ old
AreCalls {W} {S} works source payload (told ∷ rest) old new = (between : RunState W S) × IsCall works source payload told old between × AreCalls works source payload rest between new

-- what a run keeps until it fails
abbrev pub IsKept : {W S C : Type 0} → Ghosts S C → RunState W S → Type 0
IsKept source run = run.failed ≡ false → RunFits source run

-- a root whose end is told has ended, and so has a root that was admitted and is cancelled
abbrev pub ToldRootsHaveEnded : {W S C E : Type 0} → Works W C E → Ghosts S C → Meanings C → Type 0
ToldRootsHaveEnded {W} {S} works source payload = (old new : RunState W S) (root : RootId) → IsKept source old
    → (IsCall works source payload (Some (progress.RootDone root)) old new → HasEnded new root) × (root.0 < old.next_root → CancelsOne source root old new → HasEnded new root)

-- whatever is called, nothing is told of a root that has ended, and it stays so
abbrev pub EndedRootsAreSilent : {W S C E : Type 0} → Works W C E → Ghosts S C → Meanings C → Type 0
EndedRootsAreSilent {W} {S} works source payload = (old new : RunState W S) (told : List (Option Progress)) (root : RootId) → IsKept source old → HasEnded old root
    → AreCalls works source payload told old new → AllByRecursion (λ answer. ¬ IsOf root answer) told × HasEnded new root
