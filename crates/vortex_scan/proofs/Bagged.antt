-- What was given and is still owed stays the same, step by step.
use Rattle.std.proofs.Common.{◌≡◌, ℕ, ◌+◌, ◌≤◌, List, [], ◌∷◌, ◌++◌, refl, sym, ◌∙◌, ap, subst, Bool, true, false, cond, ◌&&◌, Option, None, Some, Ok, arith, ⊎_elim, inl, inr, ◌^◌, ◌-◌}
use Rattle.std.specs.Prelude.{slice_get, count_by, sum_by}
use Rattle.std.specs.List.{AllByRecursion, remove}
use Rattle.std.proofs.Math.ListN.{set}
use Rattle.std.proofs.lemmas.List.Sums.{sum_by_push}
use Rattle.std.proofs.lemmas.Bool.{cases_order}
use Rattle.vortex_buffer.specs.Counts.{Rose}
use Rattle.vortex_io.specs.Source.{Agrees, Completes, Content, IsHonest, Taken, TakesNone, TakesOne, is_named, is_of_kind}
use Rattle.vortex_io.specs.declared.payload.Payload.{Ghosts as Meanings}
use Rattle.vortex_io.specs.declared.request.Completion.{Completion}
use Rattle.vortex_io.specs.declared.request.Fetch.{Fetch}
use Rattle.vortex_io.specs.declared.request.IoTarget.{IoTarget}
use Rattle.vortex_io.specs.declared.source.IoSource.{Ghosts}
use Rattle.vortex_scan_types.specs.declared.batch.Batch.{Batch}
use Rattle.vortex_scan.specs.declared.errors.Progress.{Progress}
use Rattle.vortex_scan.specs.declared.errors.Progress.TheVariants as progress
use Rattle.vortex_scan.specs.declared.errors.Visited.{Visited}
use Rattle.vortex_scan.specs.declared.errors.Visited.TheVariants as visited
use Rattle.vortex_scan.specs.declared.item.Item.{Item}
use Rattle.vortex_scan.specs.declared.item.Slot.{Slot}
use Rattle.vortex_scan_types.specs.declared.place.RootId.{RootId}
use Rattle.vortex_scan.specs.declared.state.Output.{Output}
use Rattle.vortex_scan.specs.declared.state.Output.TheVariants as output
use Rattle.vortex_scan.specs.declared.state.State.{State}
use Rattle.vortex_scan.specs.declared.state.State.TheVariants as state
use Rattle.vortex_scan.specs.declared.worker.Worker.{Ghosts as Works}
use Rattle.vortex_scan.specs.Asking.{AsksOnce}
use Rattle.vortex_scan.specs.Bag.{AddsToBag, AreHonest, KeepsBag, IsEmptied, KeepsBagGiven, Owing, batches_of, entries_of, owes}
use Rattle.vortex_scan.specs.Fetching.{is_answer}
use Rattle.vortex_scan.specs.Fits.{ItemFits, LiveFits}
use Rattle.vortex_scan.specs.Going.{Advances}
use Rattle.vortex_scan.specs.Naming.{AskAsNamed, IsNamed, ItemIsNamed}
use Rattle.vortex_scan.specs.Owed.{Entry, rows_of}
use Rattle.vortex_scan.specs.RunState.{Live, RunState, has_root, live_with, put}
use Rattle.vortex_scan.specs.Sources.{KeepsEach}
use Rattle.vortex_scan.specs.Steps.{Asks, Delivers, Follows, Hands, Retires, Settles, Visits, WaitsFor, child_of, computed, handed, published}
use Rattle.vortex_scan.proofs.Asked.{asks_fits}
use Rattle.vortex_scan.proofs.Chains.{Carried, came_batches, carry_advance, carry_once}
use Rattle.vortex_scan.proofs.Fitting.{left_fits}
use Rattle.vortex_scan.proofs.Keeping.{slot_after, slot_before, slots_at}
use Rattle.vortex_scan.proofs.Named.{asks_named, asks_so, visit_named}
use Rattle.vortex_scan.proofs.Owing.{OutputGives, WorkOwes}
use Rattle.vortex_scan.proofs.Places.{each_at, each_behind, get_set}
use Rattle.vortex_scan.proofs.Stepping.{taken_named}
use Rattle.vortex_scan.proofs.Tallies.{count_cons, count_join, removed_sum, set_sum}
use Rattle.vortex_scan.proofs.Visiting.{visit_fits}

-- An honest call is honest in its parts.

last_early : (a b d : ℕ) → a ≤ b → b ≤ d → b ≡ 2 ^ 64 - 1 → Rose a d
last_early a b d first then last = ⊎_elim (λ e. inr (sym e ∙ last)) (λ one. inl (⊎_elim (λ more. omega (arith, first, more)) (λ less. absurd (omega (arith, then, less))) one)) (cases_order b d)

pub honest_early : (a b d : ℕ) → a ≤ b → b ≤ d → IsHonest a d → IsHonest a b
honest_early a b d first then honest rose =
    honest (⊎_elim (λ more. inl (omega (arith, more, then))) (λ last. last_early a b d first then last) rose)

pub honest_late : (a b d : ℕ) → a ≤ b → IsHonest a d → IsHonest b d
honest_late a b d first honest rose = honest (⊎_elim (λ more. inl (omega (arith, more, first))) (λ last. inr last) rose)

module _ {S C : Type 0} (source : Ghosts S C) (contents : ℕ → Content C) where
  pub early : (a b d : List (Slot S)) → KeepsEach source a b → KeepsEach source b d → AreHonest source contents a d → AreHonest source contents a b
  early a b d k l h root before after there now live =
      let last = slot_after source b d root after l now in
      let one = slots_at source a b root before after k there now in
      let two = slots_at source b d root after last.0 l now last.1 in
      let whole = h root before last.0 there last.1 live in
      (whole.0, honest_early (source.lies before.source) (source.lies after.source) (source.lies last.0.source) one.keeps.lies two.keeps.lies whole.1)

  pub late : (a b d : List (Slot S)) → KeepsEach source a b → KeepsEach source b d → AreHonest source contents a d → AreHonest source contents b d
  late a b d k l h root before after there now live =
      let first = slot_before source a b root before k there in
      let one = slots_at source a b root first.0 before k first.1 there in
      let whole = h root first.0 after first.1 now (one.ends live) in
      (one.keeps.content ∙ whole.0, honest_late (source.lies first.0.source) (source.lies before.source) (source.lies after.source) one.keeps.lies whole.1)

-- the target of the fetch that a completion takes is the one that its number names
pub taken_names : {W C E : Type 0} (works : Works W C E) (item : Item W) (completion : Completion C) (out out' : List Fetch) (entry : Fetch) → Taken completion.owner completion.request out out' entry → completion.owner ≡ item.owner → AskAsNamed works.names item out
    → works.names item.work completion.request ≡ Some entry.target
taken_names works item completion out out' entry t whose named =
    let all : AskAsNamed works.names item (t.before ++ entry ∷ t.behind) = rw t.stood at named in
    let one = (each_behind (asks_so works.names item) t.before (entry ∷ t.behind) all).0 in
    rw t.number at (one (t.whose ∙ whose))

-- The items' sums.

module _ {W C : Type 0} (owed : Owing W C) (contents : ℕ → Content C) (test : Entry → Bool) where
  worth_none : (item : Item W) → owed item.scope item.work (contents item.root.0) ≡ [] → owes owed contents test item ≡ 0
  worth_none item e = ap (count_by test) e

module _ {W S C E V : Type 0} (works : Works W C E) (source : Ghosts S C) (means : C → V) (owed : Owing W C) (laws : WorkOwes means works owed) (contents : ℕ → Content C) (test : Entry → Bool) where
  -- how many given entries pass
  abbrev gave : Visited → ℕ
  gave answer = count_by test (entries_of (came_batches answer))

  abbrev total : Live W S → ℕ
  total live = sum_by (owes owed contents test) live.items

  none_left : (b : Bool) (root : RootId) → count_by test (entries_of (came_batches (cond b visited.Went (visited.RootDone root)))) ≡ 0
  none_left true root = refl
  none_left false root = refl

  retire_bag : (at : ℕ) (item : Item W) (old new : Live W S) (answer : Visited) → slice_get old.items at ≡ Some item → owes owed contents test item ≡ 0 → Retires source at item old new answer → gave answer + total new ≡ total old
  retire_bag at item old new answer there none r =
      let gone : gave answer ≡ 0 = rw r.answers (none_left (has_root item.root (remove old.items at)) item.root) in
      let left : total new ≡ sum_by (owes owed contents test) (remove old.items at) = ap (λ (l : Live W S). total l) r.now in
      let h = removed_sum (owes owed contents test) old.items at item there in
      omega (arith, gone, left, h, none)

  put_bag : (old : Live W S) (at : ℕ) (item now : Item W) → slice_get old.items at ≡ Some item → owes owed contents test now ≡ owes owed contents test item → total (put at now old) ≡ total old
  put_bag old at item now there same = let h = set_sum (owes owed contents test) old.items at item now there in omega (arith, h, same)

  settle_bag : (shown : State) (at : ℕ) (item : Item W) (old new : Live W S) (answer : Visited) → works.state_is item.work ≡ shown → slice_get old.items at ≡ Some item → Settles source shown at item old new answer → gave answer + total new ≡ total old
  settle_bag state.Done at item old new answer shows there s = retire_bag at item old new answer there (worth_none owed contents test item (laws.ends (contents item.root.0) item.scope item.work shows)) s
  settle_bag state.NeedsCompute at item old new answer shows there s =
      let gone : gave answer ≡ 0 = ap (λ came. gave came) s.1 in
      let left : total new ≡ total old = ap (λ (l : Live W S). total l) s.0 in
      omega (arith, gone, left)
  settle_bag state.Waiting at item old new answer shows there s =
      let gone : gave answer ≡ 0 = ap (λ came. gave came) s.2 in
      let left : total new ≡ total (put at (record item { ready = false }) old) = ap (λ (l : Live W S). total l) s.1 in
      let same = put_bag old at item (record item { ready = false }) there refl in
      omega (arith, gone, left, same)

  follow_bag : (out : Output W) (at : ℕ) (item : Item W) (was : List Entry) (old new : Live W S) (answer : Visited) → slice_get old.items at ≡ Some item
      → OutputGives {W = W} {E = E} (λ other it. owed other it (contents item.root.0)) item.scope was (Ok out) (owed item.scope item.work (contents item.root.0)) → Follows works source out at item old new answer
      → gave answer + total new + owes owed contents test item ≡ total old + count_by test was
  follow_bag output.Done at item was old new answer there gives h =
      let gone : gave answer ≡ 0 = rw h.answers (none_left (has_root item.root (remove old.items at)) item.root) in
      let left : total new ≡ sum_by (owes owed contents test) (remove old.items at) = ap (λ (l : Live W S). total l) h.now in
      let r = removed_sum (owes owed contents test) old.items at item there in
      let none = ap (count_by test) gives in
      omega (arith, gone, left, r, none)
  follow_bag output.Continue at item was old new answer there gives h =
      let gone : gave answer ≡ 0 = ap (λ came. gave came) h.1 in
      let left : total new ≡ total old = ap (λ (l : Live W S). total l) h.0 in
      let same = ap (count_by test) gives in
      omega (arith, gone, left, same)
  follow_bag (output.NeedsIO batch) at item was old new answer there gives h =
      let p = h.1 in
      let there' : slice_get h.0.items at ≡ Some (published item batch) = rw (ap (λ (l : Live W S). l.items) p.now) (get_set old.items at item (published item batch) there) in
      let first : total h.0 ≡ total (put at (published item batch) old) = ap (λ (l : Live W S). total l) p.now in
      let between = put_bag old at item (published item batch) there refl in
      let then = settle_bag (works.state_is item.work) at (published item batch) h.0 new answer refl there' h.2 in
      let same = ap (count_by test) gives in
      omega (arith, first, between, then, same)
  follow_bag (output.Child scope work) at item was old new answer there gives h =
      let p = h.0 in
      let now : Item W = record item { next = item.next + 1 } in
      let child : Item W = child_of item old.next_owner scope work in
      let gone : gave answer ≡ 0 = ap (λ came. gave came) h.1 in
      let left : total new ≡ sum_by (owes owed contents test) (set old.items at now ++ child ∷ []) = ap (λ (l : Live W S). total l) p.now in
      let more = sum_by_push (owes owed contents test) (set old.items at now) child in
      let between = put_bag old at item now there refl in
      let parts = ap (count_by test) gives ∙ count_join test (owed scope work (contents item.root.0)) (owed item.scope item.work (contents item.root.0)) in
      omega (arith, gone, left, more, between, parts)
  follow_bag (output.Batch array) at item was old new answer there gives h =
      let e : Entry = record { scope = item.scope; rows = rows_of array } in
      let rest = owed item.scope item.work (contents item.root.0) in
      let left : total new ≡ total old = ap (λ (l : Live W S). total l) h.1 in
      let came : gave answer ≡ count_by test (e ∷ []) = ap (λ came. gave came) h.2 in
      let one = count_cons test e [] in
      let parts : count_by test was ≡ count_by test (e ∷ rest) = ap (count_by test) gives in
      let two = count_cons test e rest in
      omega (arith, left, came, one, parts, two)

  visit_bag : (shown : State) (at : ℕ) (item : Item W) (old new : Live W S) (answer : Visited) → works.state_is item.work ≡ shown → slice_get old.items at ≡ Some item → Visits works source shown at item old new answer → gave answer + total new ≡ total old
  visit_bag state.Done at item old new answer shows there h = settle_bag state.Done at item old new answer shows there h
  visit_bag state.Waiting at item old new answer shows there h = settle_bag state.Waiting at item old new answer shows there h
  visit_bag state.NeedsCompute at item old new answer shows there h =
      let now : Item W = computed item h.1 in
      let gives = laws.gives (contents item.root.0) item.scope item.work (Ok h.0) h.1 h.2.computes in
      let first = set_sum (owes owed contents test) old.items at item now there in
      let then = follow_bag h.0 at now (owed item.scope item.work (contents item.root.0)) (put at now old) new answer (get_set old.items at item now there) gives h.3 in
      omega (arith, first, then)

  -- an item that is handed what the content has owes the same
  hand_bag : (completion : Completion C) (item : Item W) (left : List Fetch) (work : W) (target : IoTarget) → Hands works completion item left work → works.names item.work completion.request ≡ Some target
      → Agrees means (contents item.root.0) target completion.result → owes owed contents test (handed works item left work) ≡ owes owed contents test item
  hand_bag completion item left work target hands named agrees = ap (count_by test) (laws.delivers (contents item.root.0) item.scope item.work completion.request target completion.result work hands.takes named agrees)

  delivers_bag : (root : RootId) (completion : Completion C) (items items' : List (Item W)) (d : Delivers works root completion items items') (target : IoTarget) → works.names d.item.work completion.request ≡ Some target
      → Agrees means (contents root.0) target completion.result → sum_by (owes owed contents test) items' ≡ sum_by (owes owed contents test) items
  delivers_bag root completion items items' d target named agrees =
      let mine : Agrees means (contents d.item.root.0) target completion.result = subst (λ (r : RootId). Agrees means (contents r.0) target completion.result) (sym d.of_root) agrees in
      let same = hand_bag completion d.item d.left d.work target d.hands named mine in
      let h = set_sum (owes owed contents test) items d.at d.item (handed works d.item d.left d.work) d.there in
      let now = ap (sum_by (owes owed contents test)) d.now in
      omega (arith, same, h, now)

  completed_bag : (items items' : List (Item W)) (slots : List (Slot S)) (owners : ℕ) (root : RootId) (slot : Slot S) (after : S) (completion : Completion C) → LiveFits source (live_with items slots owners) → IsNamed works.names source (live_with items slots owners)
      → slice_get slots root.0 ≡ Some slot → Completes means (source.content slot.source) (source.outstanding slot.source) (source.outstanding after) (source.lies slot.source) (source.lies after) completion
      → source.content slot.source ≡ Some (contents root.0) → IsHonest (source.lies slot.source) (source.lies after)
      → Delivers works root completion items items' → sum_by (owes owed contents test) items' ≡ sum_by (owes owed contents test) items
  completed_bag items items' slots owners root slot after completion fits named there completes told honest d =
      let f = each_at (ItemFits source slots owners) items d.at d.item fits.each d.there in
      let whose = (left_fits completion d.item.asked d.left d.hands.entry d.item.owner d.hands.taken f.own f.distinct).3 in
      let mine = each_at (ItemIsNamed works.names source slots) items d.at d.item named.each d.there in
      let outstanding = each_at (λ (s : Slot S). AskAsNamed works.names d.item (source.outstanding s.source)) slots root.0 slot mine.outstanding there in
      ⊎_elim (λ (one : TakesOne means (source.content slot.source) (source.outstanding slot.source) (source.outstanding after) (source.lies slot.source) (source.lies after) completion).
      delivers_bag root completion items items' d one.entry.target
      (taken_names works d.item completion (source.outstanding slot.source) (source.outstanding after) one.entry one.taken whose outstanding)
      ((one.answers honest).agrees (contents root.0) told))
      (λ (none : TakesNone (source.outstanding slot.source) (source.outstanding after) (source.lies slot.source) (source.lies after) completion).
      absurd (honest none.counted)) completes

pub both : (a b : Bool) → a ≡ true → b ≡ true → (a && b) ≡ true
both a b e f = rw (e, f) refl

module _ {W S C E : Type 0} (works : Works W C E) (source : Ghosts S C) (payload : Meanings C) (owed : Owing W C) (laws : WorkOwes payload.means works owed) where
  -- what a step keeps of the bag
  abbrev Keeps' : List Batch → ℕ → Live W S → ℕ → Live W S → Type 0
  Keeps' batches made old made' new = (contents : ℕ → Content C) → AreHonest source contents old.slots new.slots → (test : Entry → Bool)
      → count_by test (entries_of batches) + sum_by (owes owed contents test) new.items ≡ sum_by (owes owed contents test) old.items

  abbrev Holds' : Live W S → Type 0
  Holds' live = LiveFits source live × IsNamed works.names source live

  asked_slot : (root : RootId) (old new : Live W S) (slot : Slot S) (after : S) (contents : ℕ → Content C) → slice_get old.slots root.0 ≡ Some slot → slot.live ≡ true → new.slots ≡ set old.slots root.0 (record slot { source = after })
      → AreHonest source contents old.slots new.slots → (source.content slot.source ≡ Some (contents root.0)) × IsHonest (source.lies slot.source) (source.lies after)
  asked_slot root old new slot after contents there live now honest =
      honest root.0 slot (record slot { source = after }) there (ap (λ slots. slice_get slots root.0) now ∙ get_set old.slots root.0 slot (record slot { source = after }) there) live

  asks_bag : (root : RootId) (answer : Option (Completion C)) (made : ℕ) (old new : Live W S) → Holds' old → Asks works source payload root answer old new → Holds' new × Keeps' [] made old made new
  asks_bag root None made old new h a =
      ((asks_fits works source payload root None old new h.0 a, asks_named works source payload root None old new h.1 a), λ contents honest test. let e = ap (sum_by (owes owed contents test)) a.delivers in omega (arith, e))
  asks_bag root (Some completion) made old new h a = (
    (asks_fits works source payload root (Some completion) old new h.0 a, asks_named works source payload root (Some completion) old new h.1 a),
    λ contents honest test.
        let told = asked_slot root old new a.slot a.after contents a.there a.live (ap (λ (l : Live W S). l.slots) a.now) honest in
        let e = completed_bag works source payload.means owed laws contents test old.items new.items old.slots old.next_owner root a.slot a.after completion h.0 h.1 a.there a.polls.accounts told.0 told.1 a.delivers in
        omega (arith, e),
  )

  bag_on : (batches : List Batch) (m n o : ℕ) (a b d : Live W S) → KeepsEach source a.slots b.slots → KeepsEach source b.slots d.slots → Keeps' [] m a n b → Keeps' batches n b o d → Keeps' batches m a o d
  bag_on batches m n o a b d k l first then contents honest test =
      let one = first contents (early source contents a.slots b.slots d.slots k l honest) test in
      let two = then contents (late source contents a.slots b.slots d.slots k l honest) test in
      omega (arith, one, two)

  carried : Carried works source payload Holds' Keeps'
  carried = record {
    same = λ made live contents honest test. omega arith;
    on = bag_on;
    asks = asks_bag;
    visits = λ made at item old new came h least v. (
      (visit_fits source works (works.state_is item.work) at item old new came h.0 least.there v, visit_named works source laws.publishes (works.state_is item.work) at item old new came h.0 least.there h.1 v),
      λ contents honest test. visit_bag works source payload.means owed laws contents test (works.state_is item.work) at item old new came refl least.there v,
    );
  }

  whole_bag : (batches : List Batch) (made made' : ℕ) (old new : Live W S) → Keeps' batches made old made' new → KeepsBag source owed batches old new
  whole_bag batches made made' old new k contents honest given test =
      let j = count_join test given (entries_of batches) in
      let e = k contents honest test in
      omega (arith, j, e)

  pub advance_bag : (old new : RunState W S) (answer : Progress) → LiveFits source old.live → IsNamed works.names source old.live → Advances works source payload old new answer → IsNamed works.names source new.live × KeepsBag source owed (batches_of answer) old.live new.live
  advance_bag old new answer fits named a =
      let did = carry_advance works source payload Holds' Keeps' carried old new answer (fits, named) a in
      (did.0.1, whole_bag (batches_of answer) old.visits new.visits old.live new.live did.1)

  pub once_bag : (roots : ℕ) (old new : Live W S) (came : Bool) → LiveFits source old → IsNamed works.names source old → AsksOnce works source payload roots old new came → IsNamed works.names source new × KeepsBag source owed [] old new
  once_bag roots old new came fits named a =
      let did = carry_once works source payload Holds' Keeps' carried roots 0 old new came (fits, named) a in
      (did.0.1, whole_bag [] 0 0 old new did.1)

  pub wait_bag : (root : RootId) (old new : Live W S) → LiveFits source old → IsNamed works.names source old → WaitsFor works source payload root old new → KeepsBag source owed [] old new
  wait_bag root old new fits named a = whole_bag [] 0 0 old new (λ contents honest test.
      let told = asked_slot root old new a.slot a.after contents a.there a.live (ap (λ (l : Live W S). l.slots) a.now) honest in
      let e = completed_bag works source payload.means owed laws contents test old.items new.items old.slots old.next_owner root a.slot a.after a.completion fits named a.there a.waits.accounts told.0 told.1 a.delivers in
      omega (arith, e))

  pub complete_bag : (root : RootId) (completion : Completion C) (items items' : List (Item W)) (slots : List (Slot S)) (owners : ℕ) → LiveFits source (live_with items slots owners) → IsNamed works.names source (live_with items slots owners)
      → Delivers works root completion items items' → KeepsBagGiven payload.means owed root completion (live_with items slots owners) (live_with items' slots owners)
  complete_bag root completion items items' slots owners fits named d contents carries given test =
      let f = each_at (ItemFits source slots owners) items d.at d.item fits.each d.there in
      let whose = (left_fits completion d.item.asked d.left d.hands.entry d.item.owner d.hands.taken f.own f.distinct).3 in
      let mine = each_at (ItemIsNamed works.names source slots) items d.at d.item named.each d.there in
      let t = d.hands.taken in
      let carried' = each_at (λ (item : Item W). item.root ≡ root → AllByRecursion (λ (fetch : Fetch). is_answer completion fetch ≡ true → Agrees payload.means (contents root.0) fetch.target completion.result) item.asked) items d.at d.item carries d.there d.of_root in
      let all : AllByRecursion (λ (fetch : Fetch). is_answer completion fetch ≡ true → Agrees payload.means (contents root.0) fetch.target completion.result) (t.before ++ d.hands.entry ∷ t.behind) = rw t.stood at carried' in
      let one = (each_behind (λ (fetch : Fetch). is_answer completion fetch ≡ true → Agrees payload.means (contents root.0) fetch.target completion.result) t.before (d.hands.entry ∷ t.behind) all).0 in
      let is_it : is_answer completion d.hands.entry ≡ true = both (is_named completion.owner completion.request d.hands.entry) (is_of_kind d.hands.entry.target completion.result)
      (taken_named completion.owner completion.request d.item.asked d.left d.hands.entry t) d.hands.kind in
      let e = delivers_bag works source payload.means owed laws contents test root completion items items' d d.hands.entry.target
      (taken_names works d.item completion d.item.asked d.left d.hands.entry t whose mine.asked) (one is_it) in
      ap (λ n. count_by test given + n) e

-- a root that joins
pub admit_bag : {W S C : Type 0} (owed : Owing W C) (items : List (Item W)) (slots slots' : List (Slot S)) (owners owners' : ℕ) (item : Item W)
    → AddsToBag owed item.root.0 item.scope item.work (live_with items slots owners) (live_with (items ++ item ∷ []) slots' owners')
admit_bag owed items slots slots' owners owners' item contents given test = let h = sum_by_push (owes owed contents test) items item in omega (arith, h)

-- where no item is live, all that there is was given
pub emptied : {W S C E : Type 0} (works : Works W C E) (source : Ghosts S C) (payload : Meanings C) (owed : Owing W C) (old new : RunState W S) (answer : Progress) → Advances works source payload old new answer → IsEmptied owed answer new.live
emptied works source payload owed old new (progress.Batch batch) a e = absurd (cc)
emptied works source payload owed old new (progress.RootDone root) a e = absurd (cc)
emptied works source payload owed old new progress.Waiting a e = absurd (cc)
emptied works source payload owed old new progress.Idle a e = λ contents given test. let none = ap (sum_by (owes owed contents test)) a.ends.1 in omega (arith, none)
