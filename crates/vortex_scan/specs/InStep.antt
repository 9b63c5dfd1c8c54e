-- Roots in step with their sources.
use Rattle.std.specs.Prelude.{◌≡◌, ℕ, Bool, true, cond, Some, List, count_by, sum_by, slice_get}
use Rattle.vortex_buffer.specs.Counts.{Rose}
use Rattle.vortex_io.specs.declared.ids.IoOwnerId.{IoOwnerId}
use Rattle.vortex_io.specs.declared.ids.IoRequestId.{IoRequestId}
use Rattle.vortex_io.specs.declared.request.Fetch.{Fetch}
use Rattle.vortex_io.specs.declared.source.IoSource.{Ghosts}
use Rattle.vortex_scan.specs.declared.errors.RunError.{RunError}
use Rattle.vortex_scan.specs.declared.errors.RunError.TheVariants as error
use Rattle.vortex_scan.specs.declared.item.Item.{Item}
use Rattle.vortex_scan.specs.declared.item.Slot.{Slot}
use Rattle.vortex_scan_types.specs.declared.place.RootId.{RootId}
use Rattle.vortex_scan.specs.RunState.{Live, is_of_root}

-- how many fetches that pass a test an item has outstanding, where it is of the root
abbrev pub kept_of : {W : Type 0} → RootId → (Fetch → Bool) → Item W → ℕ
kept_of root test item = cond (is_of_root root item) (count_by test item.asked) 0

-- a root is in step: where it is live, its source has outstanding what its items have, each fetch as often
abbrev pub IsInStep : {W S C : Type 0} → Ghosts S C → Live W S → RootId → Type 0
IsInStep {W} {S} source live root = (slot : Slot S) → slice_get live.slots root.0 ≡ Some slot → slot.live ≡ true → (test : Fetch → Bool) → count_by test (source.outstanding slot.source) ≡ sum_by (kept_of root test) live.items

-- each root that was in step is so
abbrev pub StaysInStep : {W S C : Type 0} → Ghosts S C → Live W S → Live W S → Type 0
StaysInStep source old new = (root : RootId) → IsInStep source old root → IsInStep source new root

-- a source may have lied in the call: its count of lies rose, or stands at its last number
pub record LiedAt {S C : Type 0} (source : Ghosts S C) (root : RootId) (old new : List (Slot S)) : Type 0 where
  pub before : Slot S
  pub there : slice_get old root.0 ≡ Some before
  pub after : Slot S
  pub now : slice_get new root.0 ≡ Some after
  pub lied : Rose (source.lies before.source) (source.lies after.source)

-- a completion that is not expected comes from a root in step only where its source may have lied in the call
abbrev pub LiesByCause : {W S C E : Type 0} → Ghosts S C → RunError E → Live W S → List (Slot S) → Type 0
LiesByCause source why old new = (root : RootId) (owner : IoOwnerId) (request : IoRequestId) → why ≡ error.Protocol root owner request → IsInStep source old root → LiedAt source root old.slots new
