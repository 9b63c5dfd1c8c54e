-- What names an item, a batch, a root and a fetch.
use Rattle.std.specs.Prelude.{◌≡◌, ℕ, ◌<◌, Option, Some, List}
use Rattle.std.specs.List.{AllByRecursion}
use Rattle.vortex_io.specs.declared.ids.IoRequestId.{IoRequestId}
use Rattle.vortex_io.specs.declared.request.Fetch.{Fetch}
use Rattle.vortex_io.specs.declared.request.IoTarget.{IoTarget}
use Rattle.vortex_io.specs.declared.source.IoSource.{Ghosts}
use Rattle.vortex_scan.specs.declared.item.Item.{Item}
use Rattle.vortex_scan.specs.declared.item.Slot.{Slot}
use Rattle.vortex_scan.specs.RunState.{Live}

-- of the given fetches, each that is an item's own asks for the target that its number names there
abbrev pub AskAsNamed : {W : Type 0} → (W → IoRequestId → Option IoTarget) → Item W → List Fetch → Type 0
AskAsNamed names item fetches = AllByRecursion (λ (fetch : Fetch). fetch.owner ≡ item.owner → names item.work fetch.request ≡ Some fetch.target) fetches

-- an item's fetches ask as they are named, those that the run keeps for it and those that the sources have outstanding
pub record ItemIsNamed {W S C : Type 0} (names : W → IoRequestId → Option IoTarget) (source : Ghosts S C) (slots : List (Slot S)) (item : Item W) : Type 0 where
  pub asked : AskAsNamed names item item.asked
  pub outstanding : AllByRecursion (λ (slot : Slot S). AskAsNamed names item (source.outstanding slot.source)) slots

-- no source has a fetch of an owner number that was not given yet
abbrev pub AreGiven : {S C : Type 0} → Ghosts S C → ℕ → List (Slot S) → Type 0
AreGiven {S} source owners slots = AllByRecursion (λ (slot : Slot S). AllByRecursion (λ (fetch : Fetch). fetch.owner.0 < owners) (source.outstanding slot.source)) slots

-- each number of a fetch names one target, to its item and at the sources
pub record IsNamed {W S C : Type 0} (names : W → IoRequestId → Option IoTarget) (source : Ghosts S C) (live : Live W S) : Type 0 where
  pub each : AllByRecursion (ItemIsNamed names source live.slots) live.items
  pub given : AreGiven source live.next_owner live.slots
