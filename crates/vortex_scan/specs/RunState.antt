-- What contracts see of a run.
use Rattle.std.specs.Prelude.{◌≡◌, ℕ, ◌^◌, ◌-◌, ◌==◌, Bool, false, Option, None, List, [], count_by, map}
use Rattle.std.specs.List.{AllByRecursion, list_any}
use Rattle.std.proofs.Math.ListN.{set}
use Rattle.vortex_scan.specs.declared.item.Item.{Item}
use Rattle.vortex_scan.specs.declared.item.Slot.{Slot}
use Rattle.vortex_scan_types.specs.declared.place.RootId.{RootId}

-- what the work of a run is about: the live items in the order of their owner numbers, the source of each root that was
-- admitted, and the next owner number
pub record Live (W S : Type 0) : Type 0 where
  pub items : List (Item W)
  pub slots : List (Slot S)
  pub next_owner : ℕ

-- the state of a run; `since` counts the visits since every live root's source was last asked until it gave nothing
pub record RunState (W S : Type 0) : Type 0 where
  pub live : Live W S
  pub next_root : ℕ
  pub visits : ℕ
  pub since : Option ℕ
  pub limit : ℕ
  pub failed : Bool

-- a run without roots
abbrev pub new_run : {W S : Type 0} → RunState W S
new_run = record { live = record { items = []; slots = []; next_owner = 0 }; next_root = 0; visits = 0; since = None; limit = 2 ^ 64 - 1; failed = false }

-- whether an item is of a root
abbrev pub is_of_root : {W : Type 0} → RootId → Item W → Bool
is_of_root root item = item.root.0 == root.0

-- whether a root has a live item
abbrev pub has_root : {W : Type 0} → RootId → List (Item W) → Bool
has_root root items = list_any (is_of_root root) items

-- how many roots are live
abbrev pub live_count : {S : Type 0} → List (Slot S) → ℕ
live_count {S} slots = count_by (λ (slot : Slot S). slot.live) slots

-- which roots are live, in order of admission
abbrev pub liveness : {S : Type 0} → List (Slot S) → List Bool
liveness {S} slots = map (λ (slot : Slot S). slot.live) slots

-- these items and sources, and the next owner number
abbrev pub live_with : {W S : Type 0} → List (Item W) → List (Slot S) → ℕ → Live W S
live_with items slots next_owner = record { items = items; slots = slots; next_owner = next_owner }

-- the item at a place is another
abbrev pub put : {W S : Type 0} → ℕ → Item W → Live W S → Live W S
put at item live = record live { items = set live.items at item }

-- no item is ready
abbrev pub NothingReady : {W : Type 0} → List (Item W) → Type 0
NothingReady {W} items = AllByRecursion (λ (item : Item W). item.ready ≡ false) items
