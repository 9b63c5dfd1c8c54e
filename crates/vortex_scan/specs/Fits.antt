-- What a run keeps until it fails.
use Rattle.std.specs.Prelude.{◌≡◌, ◌≢◌, ℕ, ◌<◌, ◌≤◌, true, false, Option, None, Some, List, [], ◌∷◌, length, slice_get}
use Rattle.std.specs.List.{AllByRecursion, list_any}
use Rattle.vortex_io.specs.Source.{is_named}
use Rattle.vortex_io.specs.declared.ids.IoOwnerId.{IoOwnerId}
use Rattle.vortex_io.specs.declared.ids.IoRequestId.{IoRequestId}
use Rattle.vortex_io.specs.declared.request.Fetch.{Fetch}
use Rattle.vortex_io.specs.declared.request.IoTarget.{IoTarget}
use Rattle.vortex_io.specs.declared.source.IoSource.{Ghosts}
use Rattle.vortex_scan.specs.declared.item.Item.{Item}
use Rattle.vortex_scan.specs.declared.item.Slot.{Slot}
use Rattle.vortex_scan.specs.Fetching.{numbers}
use Rattle.vortex_scan.specs.Naming.{IsNamed}
use Rattle.vortex_scan.specs.Numbers.{repeats}
use Rattle.vortex_scan.specs.RunState.{Live, RunState, has_root, liveness}
use Rattle.vortex_scan_types.specs.declared.place.RootId.{RootId}

-- each fetch that an item has outstanding is outstanding at the source, by owner and number
abbrev pub AreKept : List Fetch → List Fetch → Type 0
AreKept outstanding asked = AllByRecursion (λ (fetch : Fetch). list_any (is_named fetch.owner fetch.request) outstanding ≡ true) asked

-- an item's fetches are its own
abbrev pub AreOwn : IoOwnerId → List Fetch → Type 0
AreOwn owner asked = AllByRecursion (λ (fetch : Fetch). fetch.owner ≡ owner) asked

-- an item fits: its root is live, its fetches are kept there, its own and numbered apart; its numbers were given; and what is parked waits for something
pub record ItemFits {W S C : Type 0} (source : Ghosts S C) (slots : List (Slot S)) (next_owner : ℕ) (item : Item W) : Type 0 where
  pub slot : Slot S
  pub there : slice_get slots item.root.0 ≡ Some slot
  pub live : slot.live ≡ true
  pub kept : AreKept (source.outstanding slot.source) item.asked
  pub own : AreOwn item.owner item.asked
  pub distinct : repeats (numbers item.asked) ≡ false
  pub owner : item.owner.0 < next_owner
  pub next : item.next ≤ next_owner
  pub parked : item.ready ≡ false → item.asked ≢ []

-- the items stand in the order of their owner numbers, each its own
abbrev pub AreRising : {W : Type 0} → List (Item W) → Type 0
AreRising [] = Unit {0}
AreRising {W} (item ∷ items) = AllByRecursion (λ (other : Item W). item.owner.0 < other.owner.0) items × AreRising items

pub record LiveFits {W S C : Type 0} (source : Ghosts S C) (live : Live W S) : Type 0 where
  pub each : AllByRecursion (ItemFits source live.slots live.next_owner) live.items
  pub rising : AreRising live.items

-- each live root has an item
abbrev pub ArePeopled : {W S : Type 0} → Live W S → Type 0
ArePeopled live = (root : RootId) → slice_get (liveness live.slots) root.0 ≡ Some true → has_root root live.items ≡ true

-- the visits since the sources were asked; before the first asking they count as the most that may be made
abbrev pub visits_since : Option ℕ → ℕ
visits_since None = 64
visits_since (Some visits) = visits

pub record RunFits {W S C : Type 0} (source : Ghosts S C) (run : RunState W S) : Type 0 where
  pub roots : length run.live.slots ≡ run.next_root
  pub live : LiveFits source run.live
  pub peopled : ArePeopled run.live
  pub since : visits_since run.since ≤ 64

-- what a run holds: room for all its sources, and until it fails, all that fits; where its work tells what it owes, each number of a fetch names
-- one target; and where its work tells a plan, its items are planned
pub record RunHolds {W S C : Type 0} (names : W → IoRequestId → Option IoTarget) (tells plans : Type 0) (ArePlanned : List (Item W) → Type 0) (source : Ghosts S C) (room : List S) (capacity : ℕ) (run : RunState W S) : Type 0 where
  pub none : room ≡ []
  pub enough : length run.live.slots ≤ capacity
  pub fits : run.failed ≡ false → RunFits source run
  pub named : tells → run.failed ≡ false → IsNamed names source run.live
  pub planned : plans → run.failed ≡ false → ArePlanned run.live.items
