-- How a run goes on: what it asks and visits until something comes.
use Rattle.std.specs.Prelude.{◌≡◌, ◌≢◌, ℕ, zero, suc, ◌+◌, ◌<◌, ◌≤◌, ◌⊎◌, Bool, true, false, Option, None, Some, option_map, List, [], length, slice_get}
use Rattle.vortex_io.specs.declared.payload.Payload.{Ghosts as Meanings}
use Rattle.vortex_io.specs.declared.request.Completion.{Completion}
use Rattle.vortex_io.specs.declared.source.IoSource.{Ghosts}
use Rattle.vortex_scan.specs.declared.errors.Progress.{Progress}
use Rattle.vortex_scan.specs.declared.errors.Progress.TheVariants as progress
use Rattle.vortex_scan.specs.declared.errors.RunError.{RunError}
use Rattle.vortex_scan.specs.declared.errors.RunError.TheVariants as error
use Rattle.vortex_scan.specs.declared.errors.Visited.{Visited}
use Rattle.vortex_scan.specs.declared.errors.Visited.TheVariants as visited
use Rattle.vortex_scan.specs.declared.item.Item.{Item}
use Rattle.vortex_scan.specs.declared.worker.Worker.{Ghosts as Works}
use Rattle.vortex_scan.specs.Asking.{is_live, root_at}
use Rattle.vortex_scan.specs.Fails.{AskFails, VisitFails, VisitGives}
use Rattle.vortex_scan.specs.Keys.{IsLeastReady}
use Rattle.vortex_scan.specs.RunState.{Live, NothingReady, RunState, live_with}
use Rattle.vortex_scan.specs.declared.counts.Counts.{Counts}
use Rattle.vortex_scan.specs.declared.item.Slot.{Slot}
use Rattle.vortex_scan.specs.Sources.{KeepsEach}
use Rattle.vortex_scan.specs.Steps.{Asks, VisitsLeast}
use Rattle.vortex_scan.specs.Visits.{is_due}

-- a live root's source gave something so many times
abbrev pub Gives : {W S C E : Type 0} → Works W C E → Ghosts S C → Meanings C → ℕ → ℕ → Live W S → Live W S → Type 0
Gives works source payload root zero old new = new ≡ old
Gives {W} {S} {C} works source payload root (suc times) old new = (between : Live W S) × (completion : Completion C) × Gives works source payload root times old between × Asks works source payload (root_at root) (Some completion) between new

-- a root's source is asked until it gives nothing, where the root is live
abbrev pub AsksOut : {W S C E : Type 0} → Works W C E → Ghosts S C → Meanings C → ℕ → Bool → Live W S → Live W S → Type 0
AsksOut {W} {S} works source payload root true old new = (times : ℕ) × (between : Live W S) × Gives works source payload root times old between × Asks works source payload (root_at root) None between new
AsksOut works source payload root false old new = new ≡ old

-- the sources of the first live roots are asked until each gives nothing, in order of admission
abbrev pub AsksAll : {W S C E : Type 0} → Works W C E → Ghosts S C → Meanings C → ℕ → Live W S → Live W S → Type 0
AsksAll works source payload zero old new = new ≡ old
AsksAll {W} {S} works source payload (suc root) old new = (between : Live W S) × AsksAll works source payload root old between × AsksOut works source payload root (is_live (slice_get between.slots root)) between new

-- a run asks all: the count of visits since begins anew
pub record AsksEach {W S C E : Type 0} (works : Works W C E) (source : Ghosts S C) (payload : Meanings C) (old new : RunState W S) : Type 0 where
  pub asks : AsksAll works source payload (length old.live.slots) old.live new.live
  pub now : new ≡ record old { live = new.live; since = Some 0 }

-- it is time to ask all, or no item is ready
abbrev pub IsToAsk : {W S : Type 0} → RunState W S → Type 0
IsToAsk run = (is_due run.since ≡ true) ⊎ NothingReady run.live.items

-- some item is ready
abbrev pub SomeReady : {W : Type 0} → List (Item W) → Type 0
SomeReady {W} items = (at : ℕ) × (item : Item W) × IsLeastReady items at item

-- all are asked exactly where it is time, or no item is ready; `asked` says whether they were
abbrev pub AsksIfDue : {W S C E : Type 0} → Works W C E → Ghosts S C → Meanings C → Bool → RunState W S → RunState W S → Type 0
AsksIfDue works source payload true old new = IsToAsk old × AsksEach works source payload old new
AsksIfDue works source payload false old new = (new ≡ old) × (is_due old.since ≡ false) × SomeReady old.live.items

-- one turn of a call: all are asked where it is time, and then comes a visit
pub record Turns {W S C E : Type 0} (works : Works W C E) (source : Ghosts S C) (payload : Meanings C) (old new : RunState W S) (came : Visited) : Type 0 where
  pub asked : Bool
  pub between : RunState W S
  pub asks : AsksIfDue works source payload asked old between
  pub visits : VisitsLeast works source between new came

-- a run goes on by so many turns that gave nothing to answer
abbrev pub GoesOn : {W S C E : Type 0} → Works W C E → Ghosts S C → Meanings C → ℕ → RunState W S → RunState W S → Type 0
GoesOn works source payload zero old new = new ≡ old
GoesOn {W} {S} works source payload (suc turns) old new = (between : RunState W S) × GoesOn works source payload turns old between × Turns works source payload between new visited.Went

-- what the last turn of a call answers: its visit's batch or end of a root; else all were asked, nothing is ready, and an item is live or none
abbrev pub Ends : {W S C E : Type 0} → Works W C E → Ghosts S C → Meanings C → RunState W S → RunState W S → Progress → Type 0
Ends works source payload old new (progress.Batch batch) = Turns works source payload old new (visited.Batch batch)
Ends works source payload old new (progress.RootDone root) = Turns works source payload old new (visited.RootDone root)
Ends works source payload old new progress.Waiting = AsksIfDue works source payload true old new × NothingReady new.live.items × (new.live.items ≢ [])
Ends works source payload old new progress.Idle = AsksIfDue works source payload true old new × (new.live.items ≡ [])

-- what a turn comes to: nothing to answer yet, or the call's answer
abbrev pub TurnsTo : {W S C E : Type 0} → Works W C E → Ghosts S C → Meanings C → RunState W S → RunState W S → Option Progress → Type 0
TurnsTo works source payload old new None = Turns works source payload old new visited.Went
TurnsTo works source payload old new (Some answer) = Ends works source payload old new answer

-- asking a live root's source fails, after it gave something so many times
pub record AsksOutFails {W S C E : Type 0} (works : Works W C E) (source : Ghosts S C) (payload : Meanings C) (root : ℕ) (old new : Live W S) (why : RunError E) : Type 0 where
  pub times : ℕ
  pub between : Live W S
  pub gives : Gives works source payload root times old between
  pub fails : AskFails works source payload (root_at root) between new why

-- asking all fails at one live root, the earlier ones having been asked
pub record AskingOutFails {W S C E : Type 0} (works : Works W C E) (source : Ghosts S C) (payload : Meanings C) (old new : Live W S) (why : RunError E) : Type 0 where
  pub root : ℕ
  pub between : Live W S
  pub before : AsksAll works source payload root old between
  pub live : is_live (slice_get between.slots root) ≡ true
  pub fails : AsksOutFails works source payload root between new why

-- all were to be asked, and that fails; no visit was made
pub record AskingFailsThen {W S C E : Type 0} (works : Works W C E) (source : Ghosts S C) (payload : Meanings C) (old new : RunState W S) (why : RunError E) : Type 0 where
  pub due : IsToAsk old
  pub fails : AskingOutFails works source payload old.live new.live why
  pub visits : new.visits ≡ old.visits
  pub since : new.since ≡ old.since
  pub sources : KeepsEach source old.live.slots new.live.slots

-- the visit of the least ready item fails; it has counted
pub record VisitLeastFails {W S C E : Type 0} (works : Works W C E) (source : Ghosts S C) (old new : RunState W S) (why : RunError E) : Type 0 where
  pub room : old.visits < old.limit
  pub at : ℕ
  pub item : Item W
  pub least : IsLeastReady old.live.items at item
  pub fails : VisitFails works source (works.state_is item.work) at item old.live new.live why
  pub gives : VisitGives works source (works.state_is item.work) item old.live.slots new.live.slots
  pub visits : new.visits ≡ old.visits + 1
  pub since : new.since ≡ option_map (λ visits. visits + 1) old.since
  pub sources : KeepsEach source old.live.slots new.live.slots

-- the limit is reached and an item is ready
pub record IsAtLimit {W S : Type 0} (run : RunState W S) : Type 0 where
  pub reached : run.limit ≤ run.visits
  pub at : ℕ
  pub item : Item W
  pub least : IsLeastReady run.live.items at item

-- a turn whose sources were asked fails at the limit, or in its visit
abbrev pub VisitingFails : {W S C E : Type 0} → Works W C E → Ghosts S C → RunState W S → RunState W S → RunError E → Type 0
VisitingFails works source old new why = ((why ≡ error.StepLimit) × IsAtLimit old × (new ≡ old)) ⊎ VisitLeastFails works source old new why

pub record TurnFailsThen {W S C E : Type 0} (works : Works W C E) (source : Ghosts S C) (payload : Meanings C) (old new : RunState W S) (why : RunError E) : Type 0 where
  pub asked : Bool
  pub between : RunState W S
  pub asks : AsksIfDue works source payload asked old between
  pub fails : VisitingFails works source between new why

-- why a turn fails
abbrev pub TurnFails : {W S C E : Type 0} → Works W C E → Ghosts S C → Meanings C → RunState W S → RunState W S → RunError E → Type 0
TurnFails works source payload old new why = AskingFailsThen works source payload old new why ⊎ TurnFailsThen works source payload old new why

-- a run that has not failed, by its parts
abbrev pub state_with : {W S : Type 0} → List (Item W) → List (Slot S) → ℕ → Counts → ℕ → RunState W S
state_with items slots owners counts roots = record { live = live_with items slots owners; next_root = roots; visits = counts.visits; since = counts.since; limit = counts.limit; failed = false }

-- a call that went on to an answer
pub record Advances {W S C E : Type 0} (works : Works W C E) (source : Ghosts S C) (payload : Meanings C) (old new : RunState W S) (answer : Progress) : Type 0 where
  pub turns : ℕ
  pub between : RunState W S
  pub goes : GoesOn works source payload turns old between
  pub ends : Ends works source payload between new answer

-- a call that went on to a turn that fails
pub record AdvanceFails {W S C E : Type 0} (works : Works W C E) (source : Ghosts S C) (payload : Meanings C) (old new : RunState W S) (why : RunError E) : Type 0 where
  pub turns : ℕ
  pub between : RunState W S
  pub goes : GoesOn works source payload turns old between
  pub fails : TurnFails works source payload between new why
