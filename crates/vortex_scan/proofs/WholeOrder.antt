-- What orderly runs keep over whole calls, and in which order they give.
use Rattle.std.proofs.Common.{◌≡◌, ◌≢◌, ℕ, ◌≤◌, List, [], ◌∷◌, ◌++◌, refl, sym, ◌∙◌, ap, subst, Bool, true, false, cond, not, Option, None, Some, arith, filter}
use Rattle.std.specs.Prelude.{slice_get, eqb, sum_by}
use Rattle.std.specs.List.{remove}
use Rattle.std.proofs.Math.ListN.{set}
use Rattle.std.proofs.lemmas.Bool.{eqb-true}
use Rattle.std.proofs.lemmas.List.Sums.{sum_by-cons}
use Rattle.vortex_io.specs.declared.payload.Payload.{Ghosts as Meanings}
use Rattle.vortex_io.specs.declared.request.Completion.{Completion}
use Rattle.vortex_io.specs.declared.source.IoSource.{Ghosts}
use Rattle.vortex_scan_types.specs.declared.batch.Batch.{Batch}
use Rattle.vortex_scan.specs.declared.errors.Progress.{Progress}
use Rattle.vortex_scan.specs.declared.errors.Progress.TheVariants as progress
use Rattle.vortex_scan.specs.declared.errors.RunError.{RunError}
use Rattle.vortex_scan.specs.declared.errors.RunError.TheVariants as error
use Rattle.vortex_scan.specs.declared.errors.Visited.TheVariants as visited
use Rattle.vortex_scan.specs.declared.item.Item.{Item}
use Rattle.vortex_scan.specs.declared.item.Slot.{Slot}
use Rattle.vortex_scan_types.specs.declared.place.RootId.{RootId}
use Rattle.vortex_scan.specs.declared.state.Output.{Output}
use Rattle.vortex_scan.specs.declared.state.Output.TheVariants as output
use Rattle.vortex_scan.specs.declared.state.State.{State}
use Rattle.vortex_scan.specs.declared.state.State.TheVariants as state
use Rattle.vortex_scan.specs.declared.worker.Worker.{Ghosts as Works}
use Rattle.vortex_scan.specs.Asking.{AsksOnce}
use Rattle.vortex_scan.specs.Fits.{LiveFits}
use Rattle.vortex_scan.specs.Going.{Advances}
use Rattle.vortex_scan.specs.InOrder.{GivesInOrder, IsOrderlyRoot, ItemIsOrderly, RefusesInOrder, StaysOrderly, WorksOff, as_fetches, work_left}
use Rattle.vortex_scan.specs.Keys.{IsLeastReady, key, key_less}
use Rattle.vortex_scan.specs.RunState.{Live, RunState, has_root, is_of_root, live_with, put}
use Rattle.vortex_scan.specs.Steps.{Cancels, CancelsLive, Delivers, Follows, Settles, Visits, WaitsFor, computed, published}
use Rattle.vortex_scan.proofs.Behaved.{Held, Off, delivers_orderly, distinct_all, worked_off}
use Rattle.vortex_scan.proofs.Chains.{carry_advance, carry_once}
use Rattle.vortex_scan.proofs.Ordering.{WorkIsOrderly}
use Rattle.vortex_scan.proofs.Places.{each_filter, each_push, get_set, get_set_other}
use Rattle.vortex_scan.proofs.Rooted.{eqb_same}

module _ {W S C E : Type 0} (works : Works W C E) (source : Ghosts S C) (payload : Meanings C) (laws : WorkIsOrderly payload.means works) where
  pub advance_orderly : (old new : RunState W S) (answer : Progress) → LiveFits source old.live → Advances works source payload old new answer → StaysOrderly works old.live new.live × WorksOff works old new
  advance_orderly old new answer fits a = (
    λ o. (carry_advance works source payload (Held works source payload laws) (Off works source payload laws) (worked_off works source payload laws) old new answer (fits, o) a).0.1,
    λ o. (carry_advance works source payload (Held works source payload laws) (Off works source payload laws) (worked_off works source payload laws) old new answer (fits, o) a).1,
  )

  pub once_orderly : (roots : ℕ) (run : RunState W S) (new : Live W S) (came : Bool) → LiveFits source run.live → AsksOnce works source payload roots run.live new came → StaysOrderly works run.live new × WorksOff works run (record run { live = new })
  once_orderly roots run new came fits a = (
    λ o. (carry_once works source payload (Held works source payload laws) (Off works source payload laws) (worked_off works source payload laws) roots run.visits run.live new came (fits, o) a).0.1,
    λ o. (carry_once works source payload (Held works source payload laws) (Off works source payload laws) (worked_off works source payload laws) roots run.visits run.live new came (fits, o) a).1,
  )

  pub wait_orderly : (root : RootId) (run : RunState W S) (new : Live W S) → LiveFits source run.live → WaitsFor works source payload root run.live new → StaysOrderly works run.live new × WorksOff works run (record run { live = new })
  wait_orderly root run new fits a =
      let same = ap (λ (l : Live W S). l.next_owner) a.now in (
        λ o. (delivers_orderly payload.means works laws root a.completion run.live.items new.items o (distinct_all source run.live fits) a.delivers).0,
        λ o. let less = (delivers_orderly payload.means works laws root a.completion run.live.items new.items o (distinct_all source run.live fits) a.delivers).1 in (omega (arith, less), omega (arith, less, same)),
      )

  pub complete_orderly : (root : RootId) (completion : Completion C) (run : RunState W S) (items' : List (Item W)) → LiveFits source run.live → Delivers works root completion run.live.items items'
      → StaysOrderly works run.live (live_with items' run.live.slots run.live.next_owner) × WorksOff works run (record run { live = live_with items' run.live.slots run.live.next_owner })
  complete_orderly root completion run items' fits d = (
    λ o. (delivers_orderly payload.means works laws root completion run.live.items items' o (distinct_all source run.live fits) d).0,
    λ o. let less = (delivers_orderly payload.means works laws root completion run.live.items items' o (distinct_all source run.live fits) d).1 in (omega (arith, less), omega (arith, less)),
  )

-- a root leaves with its work
filter_less : {A : Type 0} (f : A → ℕ) (p : A → Bool) (xs : List A) → sum_by f (filter p xs) ≤ sum_by f xs
filter_less f p [] = omega arith
filter_less f p (x ∷ xs) =
    let h = sum_by-cons f x xs in
    let t = filter_less f p xs in
    elim (p x) as (λ b. sum_by f (cond b (x ∷ filter p xs) (filter p xs)) ≤ sum_by f (x ∷ xs)) [ true ↦ let k = sum_by-cons f x (filter p xs) in omega (arith, h, t, k) | false ↦ omega (arith, h, t) ]

module _ {W S C E : Type 0} (works : Works W C E) (source : Ghosts S C) where
  same_orderly : (run : RunState W S) (new : Live W S) → new ≡ run.live → StaysOrderly works run.live new × WorksOff works run (record run { live = new })
  same_orderly run new e = rw e ((λ o. o), (λ o. (omega arith, omega arith)))

  cancels_orderly : (root : RootId) (slot : Slot S) (run : RunState W S) (new : Live W S) → Cancels source root slot run.live new → StaysOrderly works run.live new × WorksOff works run (record run { live = new })
  cancels_orderly root slot run new c =
      let less = filter_less (λ (item : Item W). works.work item.work) (λ item. not (is_of_root root item)) run.live.items in
      let is = ap (λ (l : Live W S). work_left works l.items) c.now in
      let same = ap (λ (l : Live W S). l.next_owner) c.now in (
        λ o. rw c.now (each_filter (ItemIsOrderly works) (ItemIsOrderly works) (λ item. not (is_of_root root item)) run.live.items (λ x e m. m) o),
        λ o. (omega (arith, less, is), omega (arith, less, is, same)),
      )

  pub cancel_orderly : (root : RootId) (found : Option (Slot S)) (run : RunState W S) (new : Live W S) → CancelsLive source root found run.live new → StaysOrderly works run.live new × WorksOff works run (record run { live = new })
  cancel_orderly root None run new c = same_orderly run new c
  cancel_orderly root (Some slot) run new c =
      elim slot.live as (λ b. slot.live ≡ b → StaysOrderly works run.live new × WorksOff works run (record run { live = new })) [ true ↦ λ e. cancels_orderly root slot run new (c.0 e) | false ↦ λ e. same_orderly run new (c.1 e) ] refl

-- a root joins with its work
pub admit_orderly : {W S C E : Type 0} (works : Works W C E) (items : List (Item W)) (slots slots' : List (Slot S)) (owners owners' : ℕ) (item : Item W) → item.asked ≡ [] → IsOrderlyRoot works item.work
    → StaysOrderly works (live_with items slots owners) (live_with (items ++ item ∷ []) slots' owners')
admit_orderly works items slots slots' owners owners' item none root o =
    each_push (ItemIsOrderly works) items item o (record { orderly = root.orderly; asked = none ∙ ap (as_fetches item.owner) (sym root.asked); acts = λ ready. root.acts })

-- a run that had failed, or that has no live root, is refused for that
pub failed_in_order : {W S C E : Type 0} (works : Works W C E) (why : RunError E) (old : RunState W S) → why ≡ error.RunFailed → RefusesInOrder works why old
failed_in_order works why old is = record { empty_batch = λ e. absurd (cc); empty_io = λ e. absurd (cc); republished = λ e. absurd (cc); waits_for_nothing = λ e. absurd (cc); step_limit = λ e. absurd (cc); ids_exhausted = λ e. absurd (cc) }

pub rootless_in_order : {W S C E : Type 0} (works : Works W C E) (why : RunError E) (old : RunState W S) → why ≡ error.NoLiveRoot → RefusesInOrder works why old
rootless_in_order works why old is = record { empty_batch = λ e. absurd (cc); empty_io = λ e. absurd (cc); republished = λ e. absurd (cc); waits_for_nothing = λ e. absurd (cc); step_limit = λ e. absurd (cc); ids_exhausted = λ e. absurd (cc) }

-- In which order a run gives.

no_batch : (b : Bool) (root : RootId) (batch : Batch) → visited.Batch batch ≡ cond b visited.Went (visited.RootDone root) → ⊥
no_batch true root batch e = absurd (cc)
no_batch false root batch e = absurd (cc)

module _ {W S C E : Type 0} (works : Works W C E) (source : Ghosts S C) (payload : Meanings C) where
  settle_gives : (shown : State) (at : ℕ) (item : Item W) (old new : Live W S) (batch : Batch) → Settles source shown at item old new (visited.Batch batch) → ⊥
  settle_gives state.Done at item old new batch s = no_batch (has_root item.root (remove old.items at)) item.root batch s.answers
  settle_gives state.NeedsCompute at item old new batch s = absurd (let e = s.1 in cc)
  settle_gives state.Waiting at item old new batch s = absurd (let e = s.2 in cc)

  abbrev IsIts : Batch → Item W → Type 0
  IsIts batch item = (batch.root ≡ item.root) × (batch.scope ≡ item.scope) × (batch.place ≡ item.path)

  follow_gives : (out : Output W) (at : ℕ) (item : Item W) (old new : Live W S) (batch : Batch) → Follows works source out at item old new (visited.Batch batch) → (new ≡ old) × IsIts batch item
  follow_gives output.Done at item old new batch h = absurd (no_batch (has_root item.root (remove old.items at)) item.root batch h.answers)
  follow_gives output.Continue at item old new batch h = absurd (let e = h.1 in cc)
  follow_gives (output.NeedsIO requests) at item old new batch h = absurd (settle_gives (works.state_is item.work) at (published item requests) h.0 new batch h.2)
  follow_gives (output.Child scope work) at item old new batch h = absurd (let e = h.1 in cc)
  follow_gives (output.Batch array) at item old new batch h =
      let made : Batch = record { root = item.root; scope = item.scope; place = item.path; array = array } in
      let same : batch ≡ made = let e = h.2 in cc in
      (h.1, (ap (λ (b : Batch). b.root) same, ap (λ (b : Batch). b.scope) same, ap (λ (b : Batch). b.place) same))

  still_least : (items : List (Item W)) (at : ℕ) (item now : Item W) → IsLeastReady items at item → now.ready ≡ item.ready → key now ≡ key item → IsLeastReady (set items at now) at now
  still_least items at item now l ready same = record {
    there = get_set items at item now l.there;
    ready = ready ∙ l.ready;
    least = λ j other there' ready'.
        elim (eqb j at) as (λ b. eqb j at ≡ b → key_less (key other) (key now) ≡ false) [
          | true ↦ λ e.
              let here : j ≡ at = eqb-true _ _ e in
              let there'' : slice_get (set items at now) at ≡ Some other = subst (λ n. slice_get (set items at now) n ≡ Some other) here there' in
              let mine = get_set items at item now l.there in
              let is : now ≡ other = cc in
              subst (λ (x : Item W). key_less (key x) (key now) ≡ false) is (rw same (l.least at item l.there l.ready))
          | false ↦ λ e.
              let differs : j ≢ at = λ h. let t : eqb j at ≡ true = rw h (eqb_same at) in cc in
              rw same (l.least j other (sym (get_set_other items at j now differs) ∙ there') ready')
        ] refl;
  }

  visit_gives : (shown : State) (at : ℕ) (item : Item W) (old new : Live W S) (batch : Batch) → IsLeastReady old.items at item → Visits works source shown at item old new (visited.Batch batch) → GivesInOrder (progress.Batch batch) new.items
  visit_gives state.Done at item old new batch l h = absurd (settle_gives state.Done at item old new batch h)
  visit_gives state.Waiting at item old new batch l h = absurd (settle_gives state.Waiting at item old new batch h)
  visit_gives state.NeedsCompute at item old new batch l h =
      let now : Item W = computed item h.1 in
      let f = follow_gives h.0 at now (put at now old) new batch h.3 in
      let items : new.items ≡ set old.items at now = ap (λ (x : Live W S). x.items) f.0 in
      rw items (at, now, still_least old.items at item now l refl refl, f.1.0, f.1.1, f.1.2)

  pub advance_gives : (old new : RunState W S) (answer : Progress) → Advances works source payload old new answer → GivesInOrder answer new.live.items
  advance_gives old new (progress.Batch batch) a =
      let t = a.ends in
      let v = t.visits in
      visit_gives (works.state_is v.item.work) v.at v.item t.between.live new.live batch v.least v.visits
  advance_gives old new (progress.RootDone root) a = tt
  advance_gives old new progress.Waiting a = tt
  advance_gives old new progress.Idle a = tt
