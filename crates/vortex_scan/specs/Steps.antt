-- The steps of a run. Each leaves all else as it stands.
use Rattle.std.specs.Prelude.{◌≡◌, ◌≢◌, ℕ, ◌+◌, ◌-◌, ◌^◌, ◌<◌, ◌&&◌, ◌||◌, not, Bool, true, false, cond, Option, None, Some, option_map, Result, Ok, List, [], ◌∷◌, ◌++◌, filter, slice_get, IsTrue}
use Rattle.std.specs.List.{list_any, remove}
use Rattle.std.proofs.Math.ListN.{set}
use Rattle.vortex_io.specs.Source.{Taken, fetches, is_of_kind}
use Rattle.vortex_io.specs.declared.ids.IoRequestId.{IoRequestId}
use Rattle.vortex_io.specs.declared.payload.Payload.{Ghosts as Meanings}
use Rattle.vortex_io.specs.declared.request.Completion.{Completion}
use Rattle.vortex_io.specs.declared.request.Fetch.{Fetch}
use Rattle.vortex_io.specs.declared.request.IoRequest.{IoRequest}
use Rattle.vortex_io.specs.declared.source.IoSource.{Ghosts}
use Rattle.vortex_scan_types.specs.declared.batch.WorkScope.{WorkScope}
use Rattle.vortex_scan.specs.declared.errors.Visited.{Visited}
use Rattle.vortex_scan.specs.declared.errors.Visited.TheVariants as visited
use Rattle.vortex_scan.specs.declared.item.Item.{Item}
use Rattle.vortex_scan.specs.declared.item.Slot.{Slot}
use Rattle.vortex_scan_types.specs.declared.place.RootId.{RootId}
use Rattle.vortex_scan.specs.declared.state.Output.{Output}
use Rattle.vortex_scan.specs.declared.state.Output.TheVariants as output
use Rattle.vortex_scan.specs.declared.state.State.{State}
use Rattle.vortex_scan.specs.declared.state.State.TheVariants as state
use Rattle.vortex_scan.specs.declared.worker.Worker.{Ghosts as Works}
use Rattle.vortex_scan.specs.Fetching.{is_answer, numbers}
use Rattle.vortex_scan.specs.Keys.{IsLeastReady, key}
use Rattle.vortex_scan.specs.Numbers.{repeats}
use Rattle.vortex_scan.specs.RunState.{Live, RunState, has_root, is_of_root, put}
use Rattle.vortex_scan.specs.Sources.{Clears, Polls, Releases, Submits, Waits}

-- Admit: a ready item under the next numbers, whose path is its root's number, and its source, which is live.

abbrev pub root_item : {W : Type 0} → ℕ → ℕ → WorkScope → W → Item W
root_item root owner scope work = record { root = record { 0 = root }; owner = record { 0 = owner }; scope = scope; path = root ∷ []; next = 0; asked = []; ready = true; work = work }

abbrev pub admitted : {W S : Type 0} → RunState W S → W → WorkScope → S → RunState W S
admitted run work scope source = record run {
  live = record {
    items = run.live.items ++ root_item run.next_root run.live.next_owner scope work ∷ [];
    slots = run.live.slots ++ record { source = source; live = true } ∷ [];
    next_owner = run.live.next_owner + 1;
  };
  next_root = run.next_root + 1;
}

-- Retire: the item leaves and its owner is released. With a root's last item the source is cleared too, and the root is no longer live.

-- a source that is cleared too, unless others of its root are live
abbrev pub ClearsLast : {S C : Type 0} → Ghosts S C → Bool → S → S → Type 0
ClearsLast source true old new = new ≡ old
ClearsLast source false old new = Clears source old new

pub record Retires {W S C : Type 0} (source : Ghosts S C) (at : ℕ) (item : Item W) (old new : Live W S) (answer : Visited) : Type 0 where
  pub slot : Slot S
  pub there : slice_get old.slots item.root.0 ≡ Some slot
  pub released : S
  pub releases : Releases source item.owner slot.source released
  pub after : S
  pub clears : ClearsLast source (has_root item.root (remove old.items at)) released after
  pub now : new ≡ record old {
    items = remove old.items at;
    slots = set old.slots item.root.0 (record { source = after; live = has_root item.root (remove old.items at) && slot.live });
  }
  pub answers : answer ≡ cond (has_root item.root (remove old.items at)) visited.Went (visited.RootDone item.root)

-- Settle: an item is done, waits or stays ready, as it says. What waits has something outstanding.
abbrev pub Settles : {W S C : Type 0} → Ghosts S C → State → ℕ → Item W → Live W S → Live W S → Visited → Type 0
Settles source state.Done at item old new answer = Retires source at item old new answer
Settles source state.NeedsCompute at item old new answer = (new ≡ old) × (answer ≡ visited.Went)
Settles source state.Waiting at item old new answer = (item.asked ≢ []) × (new ≡ put at (record item { ready = false }) old) × (answer ≡ visited.Went)

-- Publish: a batch that is not empty, and whose fetches have numbers of their own, is submitted.
abbrev pub published : {W : Type 0} → Item W → List IoRequest → Item W
published item batch = record item { asked = item.asked ++ fetches item.owner batch }

pub record Publishes {W S C : Type 0} (source : Ghosts S C) (at : ℕ) (item : Item W) (batch : List IoRequest) (old new : Live W S) : Type 0 where
  pub some : batch ≢ []
  pub fresh : repeats (numbers (published item batch).asked) ≡ false
  pub slot : Slot S
  pub there : slice_get old.slots item.root.0 ≡ Some slot
  pub after : S
  pub submits : Submits source item.owner batch (Ok tt) slot.source after
  pub now : new ≡ record old { items = set old.items at (published item batch); slots = set old.slots item.root.0 (record slot { source = after }) }

-- Spawn: a child takes its parent's key as its path and the next owner number; the parent's next number rises.
abbrev pub child_of : {W : Type 0} → Item W → ℕ → WorkScope → W → Item W
child_of parent owner scope work = record { root = parent.root; owner = record { 0 = owner }; scope = scope; path = key parent; next = 0; asked = []; ready = true; work = work }

pub record Spawns {W S : Type 0} (at : ℕ) (item : Item W) (scope : WorkScope) (work : W) (old new : Live W S) : Type 0 where
  pub room : old.next_owner < 2 ^ 64 - 1
  pub now : new ≡ record old { items = set old.items at (record item { next = item.next + 1 }) ++ child_of item old.next_owner scope work ∷ []; next_owner = old.next_owner + 1 }

-- What an answer of a computation leads to; the item stands at its place as the computation left it.
abbrev pub Follows : {W S C E : Type 0} → Works W C E → Ghosts S C → Output W → ℕ → Item W → Live W S → Live W S → Visited → Type 0
Follows works source output.Done at item old new answer = Retires source at item old new answer
Follows works source output.Continue at item old new answer = (new ≡ old) × (answer ≡ visited.Went)
Follows {W} {S} works source (output.NeedsIO batch) at item old new answer =
    (between : Live W S) × Publishes source at item batch old between × Settles source (works.state_is item.work) at (published item batch) between new answer
Follows works source (output.Child scope work) at item old new answer = Spawns at item scope work old new × (answer ≡ visited.Went)
Follows works source (output.Batch array) at item old new answer =
    (array.rows ≢ 0) × (new ≡ old) × (answer ≡ visited.Batch (record { root = item.root; scope = item.scope; place = item.path; array = array }))

-- Visit: an item that is to compute does so once, and any other is settled.

-- one computation, after which each number names the target that it named
pub record Computes {W C E : Type 0} (works : Works W C E) (old : W) (answer : Result (Output W) E) (new : W) : Type 0 where
  pub computes : works.computes old answer new
  pub names : (number : IoRequestId) → works.names new number ≡ works.names old number

-- the item after a computation
abbrev pub computed : {W : Type 0} → Item W → W → Item W
computed item work = record item { work = work }

abbrev pub Visits : {W S C E : Type 0} → Works W C E → Ghosts S C → State → ℕ → Item W → Live W S → Live W S → Visited → Type 0
Visits works source state.Done at item old new answer = Settles source state.Done at item old new answer
Visits works source state.Waiting at item old new answer = Settles source state.Waiting at item old new answer
Visits {W} works source state.NeedsCompute at item old new answer =
    (out : Output W) × (work : W) × Computes works item.work (Ok out) work × Follows works source out at (computed item work) (put at (computed item work) old) new answer

-- a visit of the ready item with the least key, which counts
pub record VisitsLeast {W S C E : Type 0} (works : Works W C E) (source : Ghosts S C) (old new : RunState W S) (answer : Visited) : Type 0 where
  pub room : old.visits < old.limit
  pub at : ℕ
  pub item : Item W
  pub least : IsLeastReady old.live.items at item
  pub visits : Visits works source (works.state_is item.work) at item old.live new.live answer
  pub now : new ≡ record old { live = new.live; visits = old.visits + 1; since = option_map (λ visits. visits + 1) old.since }

-- Deliver: a live item of the root takes the result of a fetch that it has outstanding. A parked item that no longer waits is ready, and
-- one that waits still has something outstanding.

abbrev pub is_waiting : State → Bool
is_waiting state.Done = false
is_waiting state.NeedsCompute = false
is_waiting state.Waiting = true

-- whether an item of the root expects a completion
abbrev pub expects : {W C : Type 0} → RootId → Completion C → Item W → Bool
expects root completion item = is_of_root root item && list_any (is_answer completion) item.asked

pub record Hands {W C E : Type 0} (works : Works W C E) (completion : Completion C) (item : Item W) (left : List Fetch) (work : W) : Type 0 where
  pub entry : Fetch
  pub taken : Taken completion.owner completion.request item.asked left entry
  pub kind : IsTrue (is_of_kind entry.target completion.result)
  pub takes : works.takes item.work completion.request completion.result work
  pub names : (number : IoRequestId) → works.names work number ≡ works.names item.work number

abbrev pub handed : {W C E : Type 0} → Works W C E → Item W → List Fetch → W → Item W
handed works item left work = record item { asked = left; ready = item.ready || not (is_waiting (works.state_is work)); work = work }

pub record Delivers {W C E : Type 0} (works : Works W C E) (root : RootId) (completion : Completion C) (old new : List (Item W)) : Type 0 where
  pub at : ℕ
  pub item : Item W
  pub there : slice_get old at ≡ Some item
  pub of_root : item.root ≡ root
  pub left : List Fetch
  pub work : W
  pub hands : Hands works completion item left work
  pub waits : (handed works item left work).ready ≡ false → left ≢ []
  pub now : new ≡ set old at (handed works item left work)

-- Ask: a live root's source is polled, and what comes is delivered.

-- what an answer of a source does to the items
abbrev pub DeliversAny : {W C E : Type 0} → Works W C E → RootId → Option (Completion C) → List (Item W) → List (Item W) → Type 0
DeliversAny works root None old new = new ≡ old
DeliversAny works root (Some completion) old new = Delivers works root completion old new

pub record Asks {W S C E : Type 0} (works : Works W C E) (source : Ghosts S C) (payload : Meanings C) (root : RootId) (answer : Option (Completion C)) (old new : Live W S) : Type 0 where
  pub slot : Slot S
  pub there : slice_get old.slots root.0 ≡ Some slot
  pub live : slot.live ≡ true
  pub after : S
  pub polls : Polls source payload (Ok answer) slot.source after
  pub delivers : DeliversAny works root answer old.items new.items
  pub now : new ≡ record old { items = new.items; slots = set old.slots root.0 (record slot { source = after }) }

-- Wait: the same, once, for the source of a live root at which something is outstanding.
pub record WaitsFor {W S C E : Type 0} (works : Works W C E) (source : Ghosts S C) (payload : Meanings C) (root : RootId) (old new : Live W S) : Type 0 where
  pub slot : Slot S
  pub there : slice_get old.slots root.0 ≡ Some slot
  pub live : slot.live ≡ true
  pub after : S
  pub completion : Completion C
  pub waits : Waits source payload (Ok completion) slot.source after
  pub delivers : Delivers works root completion old.items new.items
  pub now : new ≡ record old { items = new.items; slots = set old.slots root.0 (record slot { source = after }) }

-- Cancel: a live root's items leave, its source is cleared, and it is no longer live.
pub record Cancels {W S C : Type 0} (source : Ghosts S C) (root : RootId) (slot : Slot S) (old new : Live W S) : Type 0 where
  pub after : S
  pub clears : Clears source slot.source after
  pub now : new ≡ record old { items = filter (λ item. not (is_of_root root item)) old.items; slots = set old.slots root.0 (record { source = after; live = false }) }

-- where the root is not live, nothing changes
abbrev pub CancelsLive : {W S C : Type 0} → Ghosts S C → RootId → Option (Slot S) → Live W S → Live W S → Type 0
CancelsLive source root None old new = new ≡ old
CancelsLive source root (Some slot) old new = (slot.live ≡ true → Cancels source root slot old new) × (slot.live ≡ false → new ≡ old)
