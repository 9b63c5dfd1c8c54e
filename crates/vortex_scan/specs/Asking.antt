-- Asking sources, and going on until something comes.
use Rattle.std.specs.Prelude.{◌≡◌, ◌≢◌, ℕ, zero, suc, ◌<◌, ◌≤◌, ◌||◌, Bool, true, false, Option, None, Some, is_some, List, [], slice_get}
use Rattle.vortex_io.specs.declared.payload.Payload.{Ghosts as Meanings}
use Rattle.vortex_io.specs.declared.request.Completion.{Completion}
use Rattle.vortex_io.specs.declared.source.IoSource.{Ghosts}
use Rattle.vortex_scan.specs.declared.errors.RunError.{RunError}
use Rattle.vortex_scan.specs.declared.item.Item.{Item}
use Rattle.vortex_scan.specs.declared.item.Slot.{Slot}
use Rattle.vortex_scan_types.specs.declared.place.RootId.{RootId}
use Rattle.vortex_scan.specs.declared.worker.Worker.{Ghosts as Works}
use Rattle.vortex_scan.specs.Fails.{AskFails}
use Rattle.vortex_scan.specs.RunState.{Live}
use Rattle.vortex_scan.specs.Steps.{Asks}

-- a root by its number
abbrev pub root_at : ℕ → RootId
root_at number = record { 0 = number }

-- whether the root of a number is live
abbrev pub is_live : {S : Type 0} → Option (Slot S) → Bool
is_live None = false
is_live (Some slot) = slot.live

-- a root's source is asked once, where the root is live; `came` says whether it gave something
abbrev pub AsksLive : {W S C E : Type 0} → Works W C E → Ghosts S C → Meanings C → ℕ → Bool → Live W S → Live W S → Bool → Type 0
AsksLive {W} {S} {C} works source payload number true old new came = (answer : Option (Completion C)) × Asks works source payload (root_at number) answer old new × (came ≡ is_some answer)
AsksLive works source payload number false old new came = (new ≡ old) × (came ≡ false)

-- the sources of the first live roots are asked once each, in order of admission; `came` says whether one gave something
abbrev pub AsksOnce : {W S C E : Type 0} → Works W C E → Ghosts S C → Meanings C → ℕ → Live W S → Live W S → Bool → Type 0
AsksOnce works source payload zero old new came = (new ≡ old) × (came ≡ false)
AsksOnce {W} {S} works source payload (suc number) old new came = (between : Live W S) × (before : Bool) × (here : Bool) × AsksOnce works source payload number old between before
    × AsksLive works source payload number (is_live (slice_get between.slots number)) between new here × (came ≡ (before || here))

-- asking one of them fails, the earlier ones having been asked
pub record AskingFails {W S C E : Type 0} (works : Works W C E) (source : Ghosts S C) (payload : Meanings C) (old new : Live W S) (why : RunError E) : Type 0 where
  pub number : ℕ
  pub between : Live W S
  pub came : Bool
  pub asked : AsksOnce works source payload number old between came
  pub live : is_live (slice_get between.slots number) ≡ true
  pub fails : AskFails works source payload (root_at number) between new why

-- an item has a fetch outstanding
abbrev pub IsAsking : {W : Type 0} → List (Item W) → ℕ → Type 0
IsAsking {W} items root = (at : ℕ) × (item : Item W) × (slice_get items at ≡ Some item) × (item.root.0 ≡ root) × (item.asked ≢ [])

-- a root is the first, in order of admission, that has an item with a fetch outstanding
pub record IsFirstAsking {W : Type 0} (items : List (Item W)) (root : ℕ) : Type 0 where
  pub asking : IsAsking items root
  pub first : (other : ℕ) → IsAsking items other → root ≤ other

-- an item among the first n has a fetch outstanding
abbrev pub IsAskingBelow : {W : Type 0} → List (Item W) → ℕ → ℕ → Type 0
IsAskingBelow {W} items n root = (at : ℕ) × (at < n) × ((item : Item W) × (slice_get items at ≡ Some item) × (item.root.0 ≡ root) × (item.asked ≢ []))

-- what is known once the first n items were read
abbrev pub FirstOf : {W : Type 0} → List (Item W) → ℕ → Option RootId → Type 0
FirstOf {W} items n None = (root : ℕ) → ¬ IsAskingBelow items n root
FirstOf {W} items n (Some best) = IsAskingBelow items n best.0 × ((other : ℕ) → IsAskingBelow items n other → best.0 ≤ other)
