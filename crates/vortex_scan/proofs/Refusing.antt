-- An orderly run is refused for no disorder of its items.
use Rattle.std.proofs.Common.{◌≡◌, ◌≢◌, ℕ, ◌+◌, ◌-◌, ◌^◌, ◌<◌, ◌≤◌, List, [], ◌∷◌, ◌++◌, refl, sym, ◌∙◌, ap, subst, Bool, true, false, not, ◌||◌, Some, Ok, Err, Result, arith, map, filter, inl, inr, ◌⊎◌, ⊎_elim}
use Rattle.std.specs.Prelude.{slice_get, sum_by}
use Rattle.std.specs.List.{AllByRecursion}
use Rattle.std.proofs.lemmas.List.{map-append}
use Rattle.vortex_io.specs.Source.{fetch_of, is_fetch}
use Rattle.vortex_io.specs.declared.ids.IoOwnerId.{IoOwnerId}
use Rattle.vortex_io.specs.declared.ids.IoRequestId.{IoRequestId}
use Rattle.vortex_io.specs.declared.payload.Payload.{Ghosts as Meanings}
use Rattle.vortex_io.specs.declared.request.Completion.{Completion}
use Rattle.vortex_io.specs.declared.request.IoRequest.{IoRequest}
use Rattle.vortex_io.specs.declared.source.IoSource.{Ghosts}
use Rattle.vortex_scan.specs.declared.errors.RunError.{RunError}
use Rattle.vortex_scan.specs.declared.errors.RunError.TheVariants as error
use Rattle.vortex_scan.specs.declared.item.Item.{Item}
use Rattle.vortex_scan_types.specs.declared.place.RootId.{RootId}
use Rattle.vortex_scan.specs.declared.state.Output.{Output}
use Rattle.vortex_scan.specs.declared.state.Output.TheVariants as output
use Rattle.vortex_scan.specs.declared.state.State.{State}
use Rattle.vortex_scan.specs.declared.state.State.TheVariants as state
use Rattle.vortex_scan.specs.declared.worker.Worker.{Ghosts as Works}
use Rattle.vortex_scan.specs.Asking.{AskingFails, IsFirstAsking, root_at}
use Rattle.vortex_scan.specs.Fails.{AskFails, DeliverFails, DeliversInVain, FollowFails, PollMisses, PublishFails, VisitFails, WaitFails, WaitMisses, SubmitFaults}
use Rattle.vortex_scan.specs.Fetching.{numbers}
use Rattle.vortex_scan.specs.Fits.{LiveFits}
use Rattle.vortex_scan.specs.Going.{AdvanceFails, Advances}
use Rattle.vortex_scan.specs.InOrder.{IsOrderly, ItemIsOrderly, RefusesInOrder, as_fetches, work_left}
use Rattle.vortex_scan.specs.Keys.{IsLeastReady}
use Rattle.vortex_scan.specs.Numbers.{repeats}
use Rattle.vortex_scan.specs.Orderly.{request_numbers}
use Rattle.vortex_scan.specs.RunState.{Live, RunState, put}
use Rattle.vortex_scan.specs.Steps.{computed, handed, is_waiting, published}
use Rattle.vortex_scan.proofs.Behaved.{Held, Off, distinct_all, handed_orderly, worked_off}
use Rattle.vortex_scan.proofs.Chains.{Broken, advance_breaks, once_breaks}
use Rattle.vortex_scan.proofs.Ordering.{OutputGoesOn, WorkIsOrderly}
use Rattle.vortex_scan.proofs.Places.{each_at}
use Rattle.vortex_scan.proofs.Tallies.{removed_sum}

-- what holds of a refusal, by the parts of the run that it speaks of
pub record Fine {W S C E : Type 0} (works : Works W C E) (why : RunError E) (limit made : ℕ) (live : Live W S) : Type 0 where
  pub empty_batch : why ≢ error.EmptyBatch
  pub empty_io : why ≢ error.EmptyIo
  pub republished : why ≢ error.Republished
  pub waits_for_nothing : why ≢ error.WaitsForNothing
  pub step_limit : why ≡ error.StepLimit → limit < made + work_left works live.items
  pub ids_exhausted : why ≡ error.IdsExhausted → 2 ^ 64 < live.next_owner + work_left works live.items

no_fetches : (owner : IoOwnerId) (requests : List IoRequest) → as_fetches owner requests ≡ [] → requests ≡ []
no_fetches owner [] e = refl
no_fetches owner (r ∷ rs) e = absurd (cc)

same_numbers : (owner : IoOwnerId) (requests : List IoRequest) → numbers (as_fetches owner requests) ≡ request_numbers requests
same_numbers owner [] = refl
same_numbers owner (r ∷ rs) = ap (λ z. r.request.0 ∷ z) (same_numbers owner rs)

must_wait : (ready : Bool) (shown : State) → (ready || not (is_waiting shown)) ≡ false → shown ≡ state.Waiting
must_wait true shown e = absurd (cc)
must_wait false state.Done e = absurd (cc)
must_wait false state.NeedsCompute e = absurd (cc)
must_wait false state.Waiting e = refl

module _ {W S C E : Type 0} (works : Works W C E) (limit made : ℕ) (live : Live W S) where
  fine_memory : (why : RunError E) → why ≡ error.OutOfMemory → Fine works why limit made live
  fine_memory why is = record { empty_batch = λ e. absurd (cc); empty_io = λ e. absurd (cc); republished = λ e. absurd (cc); waits_for_nothing = λ e. absurd (cc); step_limit = λ e. absurd (cc); ids_exhausted = λ e. absurd (cc) }

  fine_source : (why : RunError E) (root : RootId) → why ≡ error.Source root → Fine works why limit made live
  fine_source why root is = record { empty_batch = λ e. absurd (cc); empty_io = λ e. absurd (cc); republished = λ e. absurd (cc); waits_for_nothing = λ e. absurd (cc); step_limit = λ e. absurd (cc); ids_exhausted = λ e. absurd (cc) }

  fine_planner : (why : RunError E) (root : RootId) (failure : E) → why ≡ error.Planner root failure → Fine works why limit made live
  fine_planner why root failure is = record { empty_batch = λ e. absurd (cc); empty_io = λ e. absurd (cc); republished = λ e. absurd (cc); waits_for_nothing = λ e. absurd (cc); step_limit = λ e. absurd (cc); ids_exhausted = λ e. absurd (cc) }

  fine_protocol : (why : RunError E) (root : RootId) (owner : IoOwnerId) (request : IoRequestId) → why ≡ error.Protocol root owner request → Fine works why limit made live
  fine_protocol why root owner request is = record { empty_batch = λ e. absurd (cc); empty_io = λ e. absurd (cc); republished = λ e. absurd (cc); waits_for_nothing = λ e. absurd (cc); step_limit = λ e. absurd (cc); ids_exhausted = λ e. absurd (cc) }

  fine_limit : (why : RunError E) → why ≡ error.StepLimit → limit < made + work_left works live.items → Fine works why limit made live
  fine_limit why is less = record { empty_batch = λ e. absurd (cc); empty_io = λ e. absurd (cc); republished = λ e. absurd (cc); waits_for_nothing = λ e. absurd (cc); step_limit = λ e. less; ids_exhausted = λ e. absurd (cc) }

  fine_ids : (why : RunError E) → why ≡ error.IdsExhausted → 2 ^ 64 < live.next_owner + work_left works live.items → Fine works why limit made live
  fine_ids why is less = record { empty_batch = λ e. absurd (cc); empty_io = λ e. absurd (cc); republished = λ e. absurd (cc); waits_for_nothing = λ e. absurd (cc); step_limit = λ e. absurd (cc); ids_exhausted = λ e. less }

module _ {W S C E : Type 0} (works : Works W C E) (source : Ghosts S C) (payload : Meanings C) (laws : WorkIsOrderly payload.means works) (limit made : ℕ) where
  in_vain : (root : RootId) (completion : Completion C) (live : Live W S) → Held works source payload laws live → DeliversInVain works root completion live.items → ⊥
  in_vain root completion live held v =
      let o = each_at (ItemIsOrderly works) live.items v.at v.item held.1 v.there in
      let distinct = each_at (λ (item : Item W). repeats (numbers item.asked) ≡ false) live.items v.at v.item (distinct_all source live held.0) v.there in
      let now = (handed_orderly payload.means works laws completion v.item [] v.work o distinct v.hands).0 in
      let waiting = must_wait v.item.ready (works.state_is v.work) v.waits in
      laws.waits v.work now.orderly waiting (no_fetches v.item.owner (works.asked v.work) (sym now.asked))

  deliver_fine : (root : RootId) (completion : Completion C) (live : Live W S) (why : RunError E) → Held works source payload laws live → DeliverFails works root completion live.items why → Fine works why limit made live
  deliver_fine root completion live why held f =
      ⊎_elim (λ p. fine_protocol works limit made live why root completion.owner completion.request p.0) (λ v. absurd (in_vain root completion live held v.1)) f

  ask_fine : (root : RootId) (old new : Live W S) (why : RunError E) → Held works source payload laws old → AskFails works source payload root old new why → Fine works why limit made old
  ask_fine root old new why held f =
      ⊎_elim (λ m. fine_memory works limit made old why m.0)
      (λ r. ⊎_elim (λ s. fine_source works limit made old why root s.0) (λ (m : PollMisses works source payload root old new why). deliver_fine root m.completion old why held m.fails) r) f

  wait_fine : (root : RootId) (old new : Live W S) (why : RunError E) → Held works source payload laws old → WaitFails works source payload root old new why → Fine works why limit made old
  wait_fine root old new why held f =
      ⊎_elim (λ m. fine_memory works limit made old why m.0)
      (λ r. ⊎_elim (λ s. fine_source works limit made old why root s.0) (λ (m : WaitMisses works source payload root old new why). deliver_fine root m.completion old why held m.fails) r) f

  publish_fine : (batch : List IoRequest) (item : Item W) (asked : List IoRequest) (live old new : Live W S) (why : RunError E) (left : ℕ) (shown : State) → works.orderly item.work → item.asked ≡ as_fetches item.owner asked
      → OutputGoesOn works (output.NeedsIO batch) asked (works.asked item.work) left (works.work item.work) shown → PublishFails works source batch item old new why → Fine works why limit made live
  publish_fine batch item asked live old new why left shown orderly own g f =
      let now = published item batch in
      let own' : now.asked ≡ as_fetches item.owner (works.asked item.work) =
      ap (λ list. list ++ map (fetch_of item.owner) (filter is_fetch batch)) own ∙ sym (map-append (fetch_of item.owner) asked (filter is_fetch batch)) ∙ ap (as_fetches item.owner) (sym g.1) in
      let anew : repeats (numbers now.asked) ≡ false = ap (λ list. repeats (numbers list)) own' ∙ ap repeats (same_numbers item.owner (works.asked item.work)) ∙ ap (λ list. repeats (request_numbers list)) g.1 ∙ g.0.numbers in
      ⊎_elim (λ e. absurd (g.0.some e.1))
      (λ r. ⊎_elim (λ t. absurd (let twice = t.1 in cc))
      (λ s. ⊎_elim (λ u. fine_source works limit made live why item.root u.0)
      (λ w. absurd (laws.waits item.work orderly w.1 (no_fetches item.owner (works.asked item.work) (sym own' ∙ w.2)))) s) r) f

  follow_fine : (answer : Result (Output W) E) (item : Item W) (before : W) (live old new : Live W S) (why : RunError E) → works.orderly before → item.asked ≡ as_fetches item.owner (works.asked before) → works.computes before answer item.work
      → works.work before ≤ work_left works live.items → old.next_owner ≡ live.next_owner → FollowFails works source answer item old new why → Fine works why limit made live
  follow_fine (Err failure) item before live old new why orderly own did some same f = fine_planner works limit made live why item.root failure f
  follow_fine (Ok output.Done) item before live old new why orderly own did some same f = absurd f
  follow_fine (Ok output.Continue) item before live old new why orderly own did some same f = absurd f
  follow_fine (Ok (output.NeedsIO batch)) item before live old new why orderly own did some same f =
      let g = laws.goes_on before (output.NeedsIO batch) item.work orderly did in
      ⊎_elim (λ m. fine_memory works limit made live why m)
      (λ p. publish_fine batch item (works.asked before) live old new why (works.work before) (works.state_is item.work) g.0 own g.1 p) f
  follow_fine (Ok (output.Child scope work)) item before live old new why orderly own did some same f =
      let g = laws.goes_on before (output.Child scope work) item.work orderly did in
      let child = laws.some_work work g.1.0.0 in
      let less = g.1.0.3 in
      ⊎_elim (λ m. fine_memory works limit made live why m) (λ e. fine_ids works limit made live why e.0 (let last = e.1 in omega (arith, last, some, same, child, less))) f
  follow_fine (Ok (output.Batch array)) item before live old new why orderly own did some same f =
      let g = laws.goes_on before (output.Batch array) item.work orderly did in
      ⊎_elim (λ m. fine_memory works limit made live why m) (λ e. absurd (g.1.0 e.1)) f

  own_left : (live : Live W S) (at : ℕ) (item : Item W) → slice_get live.items at ≡ Some item → works.work item.work ≤ work_left works live.items
  own_left live at item there =
      let sums = removed_sum (λ (item : Item W). works.work item.work) live.items at item there in
      omega (arith, sums)

  some_left : (live : Live W S) (at : ℕ) (item : Item W) → IsOrderly works live → slice_get live.items at ≡ Some item → 0 < work_left works live.items
  some_left live at item each there =
      let o = each_at (ItemIsOrderly works) live.items at item each there in
      let some = laws.some_work item.work o.orderly in
      let own = own_left live at item there in
      omega (arith, some, own)

  visit_fine : (shown : State) (at : ℕ) (item : Item W) (old new : Live W S) (why : RunError E) → works.state_is item.work ≡ shown → item.ready ≡ true → slice_get old.items at ≡ Some item → Held works source payload laws old
      → VisitFails works source shown at item old new why → Fine works why limit made old
  visit_fine state.Done at item old new why shows ready there held f = absurd f
  visit_fine state.Waiting at item old new why shows ready there held f = absurd ((each_at (ItemIsOrderly works) old.items at item held.1 there).acts ready shows)
  visit_fine state.NeedsCompute at item old new why shows ready there held f =
      let o = each_at (ItemIsOrderly works) old.items at item held.1 there in
      follow_fine f.0 (computed item f.1) item.work old (put at (computed item f.1) old) new why o.orderly o.asked f.2.computes (own_left old at item there) refl f.3

module _ {W S C E : Type 0} (works : Works W C E) (source : Ghosts S C) (payload : Meanings C) (laws : WorkIsOrderly payload.means works) where
  broken_fine : (limit made : ℕ) (old new : Live W S) (why : RunError E) → Broken works source payload (Held works source payload laws) (Off works source payload laws) made limit old new why → Fine works why limit made old
  broken_fine limit made old new why b =
      let mid : Fine works why limit b.count b.between =
      ⊎_elim (λ a. ask_fine works source payload laws limit b.count a.0 b.between new why b.held a.1)
      (λ r. ⊎_elim (λ l.
      let some = some_left works source payload laws limit b.count b.between l.2.0 l.2.1 b.held.1 l.2.2.there in
      let reached = l.1 in
      fine_limit works limit b.count b.between why l.0 (omega (arith, some, reached)))
      (λ v. let least = v.2 in visit_fine works source payload laws limit b.count (works.state_is v.1.work) v.0 v.1 b.between new why refl least.ready least.there b.held v.4) r) b.breaks.way in
      let one = b.kept.0 in
      let two = b.kept.1 in
      record {
        empty_batch = mid.empty_batch;
        empty_io = mid.empty_io;
        republished = mid.republished;
        waits_for_nothing = mid.waits_for_nothing;
        step_limit = λ e. let less = mid.step_limit e in omega (arith, less, one);
        ids_exhausted = λ e. let less = mid.ids_exhausted e in omega (arith, less, two);
      }

  in_order : (why : RunError E) (old : RunState W S) → Fine works why old.limit old.visits old.live → RefusesInOrder works why old
  in_order why old f = record { empty_batch = f.empty_batch; empty_io = f.empty_io; republished = f.republished; waits_for_nothing = f.waits_for_nothing; step_limit = f.step_limit; ids_exhausted = f.ids_exhausted }

  pub advance_in_order : (old new : RunState W S) (why : RunError E) → LiveFits source old.live → AdvanceFails works source payload old new why → IsOrderly works old.live → RefusesInOrder works why old
  advance_in_order old new why fits f orderly =
      in_order why old (broken_fine old.limit old.visits old.live new.live why
      (advance_breaks works source payload (Held works source payload laws) (Off works source payload laws) (worked_off works source payload laws) old new why (fits, orderly) f))

  ahead : (why : RunError E) (old : RunState W S) → Fine works why old.limit 0 old.live → Fine works why old.limit old.visits old.live
  ahead why old f = record { empty_batch = f.empty_batch; empty_io = f.empty_io; republished = f.republished; waits_for_nothing = f.waits_for_nothing; step_limit = λ e. let less = f.step_limit e in omega (arith, less); ids_exhausted = f.ids_exhausted }

  pub asking_in_order : (old : RunState W S) (new : Live W S) (why : RunError E) → LiveFits source old.live → AskingFails works source payload old.live new why → IsOrderly works old.live → RefusesInOrder works why old
  asking_in_order old new why fits f orderly =
      let b = once_breaks works source payload (Held works source payload laws) (Off works source payload laws) (worked_off works source payload laws) old.limit old.live new why (fits, orderly) f in
      in_order why old (ahead why old (broken_fine old.limit 0 old.live new why b))

  pub wait_in_order : (root : RootId) (old : RunState W S) (new : Live W S) (why : RunError E) → LiveFits source old.live → WaitFails works source payload root old.live new why → IsOrderly works old.live → RefusesInOrder works why old
  wait_in_order root old new why fits f orderly = in_order why old (wait_fine works source payload laws old.limit old.visits root old.live new why (fits, orderly) f)

  pub complete_in_order : (root : RootId) (completion : Completion C) (old : RunState W S) (why : RunError E) → LiveFits source old.live → DeliverFails works root completion old.live.items why → IsOrderly works old.live → RefusesInOrder works why old
  complete_in_order root completion old why fits f orderly = in_order why old (deliver_fine works source payload laws old.limit old.visits root completion old.live why (fits, orderly) f)
