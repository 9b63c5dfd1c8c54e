-- What is parked goes on to wait, and what has something outstanding to be a morsel, step by step.
use Rattle.std.proofs.Common.{◌≡◌, ◌≢◌, ℕ, ◌+◌, List, [], ◌∷◌, ◌++◌, refl, sym, ◌∙◌, ap, Bool, true, false, not, ◌||◌, Option, None, Some, Ok}
use Rattle.std.specs.Prelude.{slice_get}
use Rattle.std.proofs.Math.ListN.{set}
use Rattle.vortex_array.specs.Batch.{BatchParts}
use Rattle.vortex_io.specs.declared.payload.Payload.{Ghosts as Meanings}
use Rattle.vortex_io.specs.declared.request.Completion.{Completion}
use Rattle.vortex_io.specs.declared.request.IoRequest.{IoRequest}
use Rattle.vortex_io.specs.declared.source.IoSource.{Ghosts}
use Rattle.vortex_scan_types.specs.declared.place.RootId.{RootId}
use Rattle.vortex_scan.specs.declared.errors.Visited.{Visited}
use Rattle.vortex_scan.specs.declared.item.Item.{Item}
use Rattle.vortex_scan.specs.declared.item.Slot.{Slot}
use Rattle.vortex_scan.specs.declared.state.Output.{Output}
use Rattle.vortex_scan.specs.declared.state.Output.TheVariants as output
use Rattle.vortex_scan.specs.declared.state.State.{State}
use Rattle.vortex_scan.specs.declared.state.State.TheVariants as state
use Rattle.vortex_scan.specs.declared.worker.Worker.{Ghosts as Works}
use Rattle.vortex_scan.specs.RunState.{Live, is_of_root, put}
use Rattle.vortex_scan.specs.Seats.{ArePlanned, ItemIsPlanned, Seating}
use Rattle.vortex_scan.specs.Steps.{Asks, CancelsLive, Delivers, Follows, Retires, Settles, Visits, child_of, computed, handed, is_waiting, published}
use Rattle.vortex_scan.proofs.Places.{each_at, each_filter, each_push, each_remove, each_set, get_set}
use Rattle.vortex_scan.proofs.Planning.{WorkPlans}

-- a list with an element is not empty
pub some_there : {A : Type 0} (xs : List A) (x : A) (ys : List A) → (xs ++ x ∷ ys) ≢ []
some_there [] x ys e = absurd (cc)
some_there (z ∷ zs) x ys e = absurd (cc)

still_waits : (shown : State) (ready : Bool) → (ready || not (is_waiting shown)) ≡ false → shown ≡ state.Waiting
still_waits state.Done true e = absurd (cc)
still_waits state.Done false e = absurd (cc)
still_waits state.NeedsCompute true e = absurd (cc)
still_waits state.NeedsCompute false e = absurd (cc)
still_waits state.Waiting ready e = refl

module _ {W S C E V : Type 0} (means : C → V) (works : Works W C E) (source : Ghosts S C) (seating : Seating W C) (gives_such : BatchParts → Bool) (publishes : W → Type 0) (laws : WorkPlans means works seating gives_such publishes) where
  abbrev Planned' : Item W → Type 0
  Planned' item = ItemIsPlanned works.state_is publishes item

  abbrev All' : List (Item W) → Type 0
  All' items = ArePlanned works.state_is publishes items

  retire_planned : (at : ℕ) (item : Item W) (old new : Live W S) (answer : Visited) → All' old.items → Retires source at item old new answer → All' new.items
  retire_planned at item old new answer each r = rw r.now (each_remove Planned' old.items at each)

  settle_planned : (shown : State) (at : ℕ) (item : Item W) (old new : Live W S) (answer : Visited) → works.state_is item.work ≡ shown → slice_get old.items at ≡ Some item → All' old.items → Settles source shown at item old new answer → All' new.items
  settle_planned state.Done at item old new answer shows there each s = retire_planned at item old new answer each s
  settle_planned state.NeedsCompute at item old new answer shows there each s = rw s.0 each
  settle_planned state.Waiting at item old new answer shows there each s =
      let mine = each_at Planned' old.items at item each there in
      rw s.1 (each_set Planned' old.items at (record item { ready = false }) each (record { parked = λ e. shows; asked = mine.asked }))

  follow_planned : (out : Output W) (at : ℕ) (item : Item W) (old new : Live W S) (answer : Visited) → item.ready ≡ true → slice_get old.items at ≡ Some item → ((batch : List IoRequest) → out ≡ output.NeedsIO batch → publishes item.work)
      → All' old.items → Follows works source out at item old new answer → All' new.items
  follow_planned output.Done at item old new answer ready there asks each h = retire_planned at item old new answer each h
  follow_planned output.Continue at item old new answer ready there asks each h = rw h.0 each
  follow_planned (output.NeedsIO batch) at item old new answer ready there asks each h =
      let p = h.1 in
      let now : Item W = published item batch in
      let there' : slice_get h.0.items at ≡ Some now = rw (ap (λ (l : Live W S). l.items) p.now) (get_set old.items at item now there) in
      let mine : Planned' now = record { parked = λ e. absurd (cc); asked = λ some. asks batch refl } in
      settle_planned (works.state_is item.work) at now h.0 new answer refl there' (rw p.now (each_set Planned' old.items at now each mine)) h.2
  follow_planned (output.Child scope work) at item old new answer ready there asks each h =
      let p = h.0 in
      let mine = each_at Planned' old.items at item each there in
      let now : Item W = record item { next = item.next + 1 } in
      let child : Item W = child_of item old.next_owner scope work in
      rw p.now (each_push Planned' (set old.items at now) child (each_set Planned' old.items at now each (record { parked = mine.parked; asked = mine.asked }))
      (record { parked = λ e. absurd (cc); asked = λ some. absurd (some refl) }))
  follow_planned (output.Batch array) at item old new answer ready there asks each h = rw h.1 each

  pub visit_planned : (shown : State) (at : ℕ) (item : Item W) (old new : Live W S) (answer : Visited) → works.state_is item.work ≡ shown → item.ready ≡ true → slice_get old.items at ≡ Some item → All' old.items
      → Visits works source shown at item old new answer → All' new.items
  visit_planned state.Done at item old new answer shows ready there each h = settle_planned state.Done at item old new answer shows there each h
  visit_planned state.Waiting at item old new answer shows ready there each h = settle_planned state.Waiting at item old new answer shows there each h
  visit_planned state.NeedsCompute at item old new answer shows ready there each h =
      let now : Item W = computed item h.1 in
      let mine = each_at Planned' old.items at item each there in
      let did = h.2.computes in
      let on : publishes item.work → publishes h.1 = laws.computes_on item.work (Ok h.0) h.1 did in
      let all : All' (set old.items at now) = each_set Planned' old.items at now each (record { parked = λ e. absurd (cc); asked = λ some. on (mine.asked some) }) in
      follow_planned h.0 at now (put at now old) new answer ready (get_set old.items at item now there) (λ batch e. on (laws.asks item.work batch h.1 (rw e at did))) all h.3

  pub delivers_planned : (root : RootId) (completion : Completion C) (items items' : List (Item W)) → All' items → Delivers works root completion items items' → All' items'
  delivers_planned root completion items items' each d =
      let mine = each_at Planned' items d.at d.item each d.there in
      let t = d.hands.taken in
      let some : d.item.asked ≢ [] = λ none. some_there t.before d.hands.entry t.behind (sym t.stood ∙ none) in
      let on : publishes d.work = laws.takes_on d.item.work completion.request completion.result d.work d.hands.takes (mine.asked some) in
      rw d.now (each_set Planned' items d.at (handed works d.item d.left d.work) each (record { parked = λ e. still_waits (works.state_is d.work) d.item.ready e; asked = λ left. on }))

  pub asks_planned : (payload : Meanings C) (root : RootId) (answer : Option (Completion C)) (old new : Live W S) → All' old.items → Asks works source payload root answer old new → All' new.items
  asks_planned payload root None old new each a = rw a.delivers each
  asks_planned payload root (Some completion) old new each a = delivers_planned root completion old.items new.items each a.delivers

-- a root that joins
pub admit_planned : {W : Type 0} (state_is : W → State) (publishes : W → Type 0) (items : List (Item W)) (item : Item W) → item.ready ≡ true → item.asked ≡ [] → ArePlanned state_is publishes items → ArePlanned state_is publishes (items ++ item ∷ [])
admit_planned state_is publishes items item ready none each = each_push (ItemIsPlanned state_is publishes) items item each (record { parked = λ e. absurd (cc); asked = λ some. absurd (some none) })

-- a root that is cancelled
pub cancel_planned : {W S C : Type 0} (source : Ghosts S C) (state_is : W → State) (publishes : W → Type 0) (root : RootId) (found : Option (Slot S)) (old new : Live W S) → CancelsLive source root found old new
    → ArePlanned state_is publishes old.items → ArePlanned state_is publishes new.items
cancel_planned source state_is publishes root None old new c each = rw c each
cancel_planned {W} {S} source state_is publishes root (Some slot) old new c each =
    elim slot.live as (λ b. slot.live ≡ b → ArePlanned state_is publishes new.items) [
      | true ↦ λ e. rw (ap (λ (l : Live W S). l.items) (c.0 e).now) (each_filter (ItemIsPlanned state_is publishes) (ItemIsPlanned state_is publishes) (λ item. not (is_of_root root item)) old.items (λ item left planned. planned) each)
      | false ↦ λ e. rw (c.1 e) each
    ] refl
