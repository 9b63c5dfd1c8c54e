-- Live items of orderly runs are permitted no more errors than before, and fail by none other.
use Rattle.std.proofs.Common.{◌≡◌, ℕ, suc, ◌+◌, List, [], ◌∷◌, ◌++◌, refl, sym, ◌∙◌, ap, subst, Bool, true, false, Option, None, Some, Ok, Err, Result, filter, ⊎_elim}
use Rattle.std.specs.Prelude.{slice_get}
use Rattle.std.specs.List.{AllByRecursion}
use Rattle.std.proofs.Math.ListN.{set}
use Rattle.vortex_io.specs.Source.{Agrees, Completes, Content, IsHonest, TakesNone, TakesOne, is_named, is_of_kind}
use Rattle.vortex_io.specs.declared.payload.Payload.{Ghosts as Meanings}
use Rattle.vortex_io.specs.declared.request.Completion.{Completion}
use Rattle.vortex_io.specs.declared.request.Fetch.{Fetch}
use Rattle.vortex_io.specs.declared.request.IoRequest.{IoRequest}
use Rattle.vortex_io.specs.declared.source.IoSource.{Ghosts}
use Rattle.vortex_scan_types.specs.declared.batch.Batch.{Batch}
use Rattle.vortex_scan.specs.declared.errors.Progress.{Progress}
use Rattle.vortex_scan.specs.declared.errors.RunError.{RunError}
use Rattle.vortex_scan.specs.declared.errors.RunError.TheVariants as error
use Rattle.vortex_scan.specs.declared.errors.Visited.{Visited}
use Rattle.vortex_scan.specs.declared.item.Item.{Item}
use Rattle.vortex_scan.specs.declared.item.Slot.{Slot}
use Rattle.vortex_scan_types.specs.declared.place.RootId.{RootId}
use Rattle.vortex_scan.specs.declared.state.Output.{Output}
use Rattle.vortex_scan.specs.declared.state.Output.TheVariants as output
use Rattle.vortex_scan.specs.declared.state.State.{State}
use Rattle.vortex_scan.specs.declared.state.State.TheVariants as state
use Rattle.vortex_scan.specs.declared.worker.Worker.{Ghosts as Works}
use Rattle.vortex_scan.specs.Asking.{AsksOnce}
use Rattle.vortex_scan.specs.Bag.{Owing}
use Rattle.vortex_scan.specs.Fails.{AskFails, FollowFails, PollMisses, VisitFails}
use Rattle.vortex_scan.specs.Fetching.{is_answer, numbers}
use Rattle.vortex_scan.specs.Fits.{ItemFits, LiveFits}
use Rattle.vortex_scan.specs.Going.{AdvanceFails, Advances}
use Rattle.vortex_scan.specs.InOrder.{FailsAsPermitted, IsHonestAt, IsOrderly, IsPermitted, ItemIsOrderly, PermitsNoMore, PermitsNoMoreGiven}
use Rattle.vortex_scan.specs.Keys.{IsLeastReady}
use Rattle.vortex_scan.specs.Naming.{AskAsNamed, IsNamed, ItemIsNamed}
use Rattle.vortex_scan.specs.Numbers.{repeats}
use Rattle.vortex_scan.specs.Orderly.{has_number}
use Rattle.vortex_scan.specs.Owed.{NamesTargets}
use Rattle.vortex_scan.specs.RunState.{Live, RunState, live_with, put}
use Rattle.vortex_scan.specs.Sources.{KeepsEach}
use Rattle.vortex_scan.specs.Steps.{Asks, Delivers, Follows, Hands, Retires, Settles, Visits, WaitsFor, child_of, computed, handed, published}
use Rattle.vortex_scan.proofs.Asked.{asks_fits}
use Rattle.vortex_scan.proofs.Bagged.{both, honest_early, honest_late, taken_names}
use Rattle.vortex_scan.proofs.Behaved.{delivers_orderly, distinct_all, split, visit_orderly}
use Rattle.vortex_scan.proofs.Chains.{Carried, advance_breaks, came_batches, carry_advance, carry_once}
use Rattle.vortex_scan.proofs.Fitting.{left_fits}
use Rattle.vortex_scan.proofs.Keeping.{slot_after, slots_at}
use Rattle.vortex_scan.proofs.Named.{asks_named, visit_named}
use Rattle.vortex_scan.proofs.Ordering.{OutputPermits, WorkIsOrderly}
use Rattle.vortex_scan.proofs.Owing.{WorkOwes}
use Rattle.vortex_scan.proofs.Places.{each_at, each_behind, each_push, each_remove, each_set, get_set}
use Rattle.vortex_scan.proofs.Stepping.{taken_named}
use Rattle.vortex_scan.proofs.Visiting.{visit_fits}

module _ {S C : Type 0} (source : Ghosts S C) (root : RootId) (content : Content C) where
  pub at_early : (a b d : List (Slot S)) → KeepsEach source a b → KeepsEach source b d → IsHonestAt source root content a d → IsHonestAt source root content a b
  at_early a b d k l h =
      let mid = slot_after source a b root.0 h.before k h.there in
      let one = slots_at source a b root.0 h.before mid.0 k h.there mid.1 in
      let two = slots_at source b d root.0 mid.0 h.after l mid.1 h.now in
      record {
        before = h.before;
        there = h.there;
        told = h.told;
        after = mid.0;
        now = mid.1;
        honest = honest_early (source.lies h.before.source) (source.lies mid.0.source) (source.lies h.after.source) one.keeps.lies two.keeps.lies h.honest;
      }

  pub at_late : (a b d : List (Slot S)) → KeepsEach source a b → IsHonestAt source root content a d → IsHonestAt source root content b d
  at_late a b d k h =
      let mid = slot_after source a b root.0 h.before k h.there in
      let one = slots_at source a b root.0 h.before mid.0 k h.there mid.1 in
      record {
        before = mid.0;
        there = mid.1;
        told = one.keeps.content ∙ h.told;
        after = h.after;
        now = h.now;
        honest = honest_late (source.lies h.before.source) (source.lies mid.0.source) (source.lies h.after.source) one.keeps.lies h.honest;
      }

fair_same : (a a' b b' : ℕ) → a ≡ a' → b ≡ b' → IsHonest a b → IsHonest a' b'
fair_same a a' b b' e f h = subst (λ z. IsHonest a' z) f (subst (λ z. IsHonest z b) e h)

-- A content permits an item of the root an error only if something else holds. What holds is G throughout.
module _ {W S C E : Type 0} (works : Works W C E) (source : Ghosts S C) (payload : Meanings C) (laws : WorkIsOrderly payload.means works)
    (publishes : (old : W) (batch : List IoRequest) (new : W) → works.computes old (Ok (output.NeedsIO batch)) new → NamesTargets (works.names old) batch)
    (root : RootId) (content : Content C) (failure : E) (G : Type 0) where
  abbrev Leads : Item W → Type 0
  Leads item = item.root ≡ root → works.permits item.work content failure → G

  abbrev All' : List (Item W) → Type 0
  All' items = AllByRecursion Leads items

  retire_leads : (at : ℕ) (item : Item W) (old new : Live W S) (answer : Visited) → All' old.items → Retires source at item old new answer → All' new.items
  retire_leads at item old new answer each r = rw r.now (each_remove Leads old.items at each)

  settle_leads : (shown : State) (at : ℕ) (item : Item W) (old new : Live W S) (answer : Visited) → slice_get old.items at ≡ Some item → All' old.items → Settles source shown at item old new answer → All' new.items
  settle_leads state.Done at item old new answer there each s = retire_leads at item old new answer each s
  settle_leads state.NeedsCompute at item old new answer there each s = rw s.0 each
  settle_leads state.Waiting at item old new answer there each s = rw s.1 (each_set Leads old.items at (record item { ready = false }) each (each_at Leads old.items at item each there))

  follow_leads : (out : Output W) (at : ℕ) (item : Item W) (old new : Live W S) (answer : Visited) → slice_get old.items at ≡ Some item → (item.root ≡ root → OutputPermits works out content failure G) → All' old.items → Follows works source out at item old new answer → All' new.items
  follow_leads output.Done at item old new answer there child each h = retire_leads at item old new answer each h
  follow_leads output.Continue at item old new answer there child each h = rw h.0 each
  follow_leads (output.NeedsIO batch) at item old new answer there child each h =
      let p = h.1 in
      let now : Item W = published item batch in
      let there' : slice_get h.0.items at ≡ Some now = rw (ap (λ (l : Live W S). l.items) p.now) (get_set old.items at item now there) in
      settle_leads (works.state_is item.work) at now h.0 new answer there' (rw p.now (each_set Leads old.items at now each (each_at Leads old.items at item each there))) h.2
  follow_leads (output.Child scope work) at item old new answer there child each h =
      let p = h.0 in
      let now : Item W = record item { next = item.next + 1 } in
      let one : Item W = child_of item old.next_owner scope work in
      rw p.now (each_push Leads (set old.items at now) one (each_set Leads old.items at now each (each_at Leads old.items at item each there)) (λ of permits. child of permits))
  follow_leads (output.Batch array) at item old new answer there child each h = rw h.1 each

  child_leads : (out : Output W) (permitted : Type 0) → (permitted → G) → OutputPermits works out content failure permitted → OutputPermits works out content failure G
  child_leads output.Done permitted f o = tt
  child_leads output.Continue permitted f o = tt
  child_leads (output.NeedsIO batch) permitted f o = tt
  child_leads (output.Child scope work) permitted f o = λ permits. f (o permits)
  child_leads (output.Batch array) permitted f o = tt

  visit_leads : (shown : State) (at : ℕ) (item : Item W) (old new : Live W S) (answer : Visited) → slice_get old.items at ≡ Some item → IsOrderly works old → All' old.items → Visits works source shown at item old new answer → All' new.items
  visit_leads state.Done at item old new answer there orderly each h = settle_leads state.Done at item old new answer there each h
  visit_leads state.Waiting at item old new answer there orderly each h = settle_leads state.Waiting at item old new answer there each h
  visit_leads state.NeedsCompute at item old new answer there orderly each h =
      let now : Item W = computed item h.1 in
      let o = each_at (ItemIsOrderly works) old.items at item orderly there in
      let mine = each_at Leads old.items at item each there in
      let less = laws.permits_less item.work h.0 h.1 content failure o.orderly h.2.computes in
      follow_leads h.0 at now (put at now old) new answer (get_set old.items at item now there) (λ of. child_leads h.0 (works.permits item.work content failure) (mine of) less.1)
      (each_set Leads old.items at now each (λ of permits. mine of (less.0 permits))) h.3

  -- an item that is handed what the content has at the target of its fetch
  handed_leads : (completion : Completion C) (item : Item W) (left : List Fetch) (work : W) → ItemIsOrderly works item → repeats (numbers item.asked) ≡ false → (hands : Hands works completion item left work) → Agrees payload.means content hands.entry.target completion.result
      → works.permits work content failure → works.permits item.work content failure
  handed_leads completion item left work o distinct hands agrees permits =
      let t = hands.taken in
      let s = split item.owner (works.asked item.work) t.before t.behind hands.entry (sym o.asked ∙ t.stood) (subst (λ list. repeats (numbers list) ≡ false) o.asked distinct) in
      let one : filter (has_number completion.request) (works.asked item.work) ≡ s.0 ∷ [] = subst (λ number. filter (has_number number) (works.asked item.work) ≡ s.0 ∷ []) t.number s.1 in
      let target = ap (λ (f : Fetch). f.target) s.2 in
      laws.permits_given item.work completion.request s.0 completion.result work content failure o.orderly one (subst (λ z. Agrees payload.means content z completion.result) (sym target) agrees) hands.takes permits

  delivers_leads : (asker : RootId) (completion : Completion C) (live : Live W S) (items' : List (Item W)) → LiveFits source live → IsOrderly works live → All' live.items → (d : Delivers works asker completion live.items items')
      → (asker ≡ root → Agrees payload.means content d.hands.entry.target completion.result) → All' items'
  delivers_leads asker completion live items' fits orderly each d agrees =
      let o = each_at (ItemIsOrderly works) live.items d.at d.item orderly d.there in
      let distinct = each_at (λ (item : Item W). repeats (numbers item.asked) ≡ false) live.items d.at d.item (distinct_all source live fits) d.there in
      let mine = each_at Leads live.items d.at d.item each d.there in
      rw d.now (each_set Leads live.items d.at (handed works d.item d.left d.work) each
      (λ of permits. mine of (handed_leads completion d.item d.left d.work o distinct d.hands (agrees (sym d.of_root ∙ of)) permits)))

  completed_leads : (asker : RootId) (completion : Completion C) (old : Live W S) (items' : List (Item W)) (slot : Slot S) (after : S) → LiveFits source old → IsNamed works.names source old → IsOrderly works old → All' old.items → slice_get old.slots asker.0 ≡ Some slot
      → Completes payload.means (source.content slot.source) (source.outstanding slot.source) (source.outstanding after) (source.lies slot.source) (source.lies after) completion
      → IsHonestAt source root content old.slots (set old.slots asker.0 (record slot { source = after })) → Delivers works asker completion old.items items' → All' items'
  completed_leads asker completion old items' slot after fits named orderly each there completes honest d =
      let f = each_at (ItemFits source old.slots old.next_owner) old.items d.at d.item fits.each d.there in
      let whose = (left_fits completion d.item.asked d.left d.hands.entry d.item.owner d.hands.taken f.own f.distinct).3 in
      let n = each_at (ItemIsNamed works.names source old.slots) old.items d.at d.item named.each d.there in
      let outstanding = each_at (λ (s : Slot S). AskAsNamed works.names d.item (source.outstanding s.source)) old.slots asker.0 slot n.outstanding there in
      delivers_leads asker completion old items' fits orderly each d
      (λ same.
      let here : slice_get old.slots asker.0 ≡ Some honest.before = subst (λ (r : RootId). slice_get old.slots r.0 ≡ Some honest.before) (sym same) honest.there in
      let is : slot ≡ honest.before = cc in
      let got : slice_get (set old.slots asker.0 (record slot { source = after })) asker.0 ≡ Some honest.after = subst (λ (r : RootId). slice_get (set old.slots asker.0 (record slot { source = after })) r.0 ≡ Some honest.after) (sym same) honest.now in
      let set' = get_set old.slots asker.0 slot (record slot { source = after }) there in
      let is' : (let s : Slot S = record slot { source = after } in s) ≡ honest.after = cc in
      let told : source.content slot.source ≡ Some content = ap (λ (s : Slot S). source.content s.source) is ∙ honest.told in
      let lies = ap (λ (s : Slot S). source.lies s.source) (sym is) in
      let lies' : source.lies honest.after.source ≡ source.lies after = sym (ap (λ (s : Slot S). source.lies s.source) is') in
      let fair = fair_same (source.lies honest.before.source) (source.lies slot.source) (source.lies honest.after.source) (source.lies after) lies lies' honest.honest in
      ⊎_elim (λ (one : TakesOne payload.means (source.content slot.source) (source.outstanding slot.source) (source.outstanding after) (source.lies slot.source) (source.lies after) completion).
      let theirs = taken_names works d.item completion (source.outstanding slot.source) (source.outstanding after) one.entry one.taken whose outstanding in
      let mine = taken_names works d.item completion d.item.asked d.left d.hands.entry d.hands.taken whose n.asked in
      let target : one.entry.target ≡ d.hands.entry.target = cc in
      subst (λ z. Agrees payload.means content z completion.result) target ((one.answers fair).agrees content told))
      (λ (none : TakesNone (source.outstanding slot.source) (source.outstanding after) (source.lies slot.source) (source.lies after) completion). absurd (fair none.counted)) completes)

  abbrev HeldAll : Live W S → Type 0
  HeldAll live = LiveFits source live × IsNamed works.names source live × IsOrderly works live

  abbrev KeepsAll : List Batch → ℕ → Live W S → ℕ → Live W S → Type 0
  KeepsAll batches made old made' new = IsHonestAt source root content old.slots new.slots → All' old.items → All' new.items

  asks_held : (asker : RootId) (answer : Option (Completion C)) (old new : Live W S) → HeldAll old → Asks works source payload asker answer old new → HeldAll new
  asks_held asker None old new h a = (asks_fits works source payload asker None old new h.0 a, asks_named works source payload asker None old new h.1 a, subst (AllByRecursion (ItemIsOrderly works)) (sym a.delivers) h.2)
  asks_held asker (Some completion) old new h a = (
    asks_fits works source payload asker (Some completion) old new h.0 a,
    asks_named works source payload asker (Some completion) old new h.1 a,
    (delivers_orderly payload.means works laws asker completion old.items new.items h.2 (distinct_all source old h.0) a.delivers).0,
  )

  asks_leads : (asker : RootId) (answer : Option (Completion C)) (made : ℕ) (old new : Live W S) → HeldAll old → Asks works source payload asker answer old new → HeldAll new × KeepsAll [] made old made new
  asks_leads asker None made old new h a = (asks_held asker None old new h a, λ honest each. subst All' (sym a.delivers) each)
  asks_leads asker (Some completion) made old new h a = (
    asks_held asker (Some completion) old new h a,
    λ honest each.
        let honest' = subst (λ slots. IsHonestAt source root content old.slots slots) (ap (λ (l : Live W S). l.slots) a.now) honest in
        completed_leads asker completion old new.items a.slot a.after h.0 h.1 h.2 each a.there a.polls.accounts honest' a.delivers,
  )

  visits_leads : (made at : ℕ) (item : Item W) (old new : Live W S) (came : Visited) → HeldAll old → IsLeastReady old.items at item → Visits works source (works.state_is item.work) at item old new came → HeldAll new × KeepsAll (came_batches came) made old (made + 1) new
  visits_leads made at item old new came h least v = (
    (
      visit_fits source works (works.state_is item.work) at item old new came h.0 least.there v,
      visit_named works source publishes (works.state_is item.work) at item old new came h.0 least.there h.1 v,
      (visit_orderly payload.means works laws source (works.state_is item.work) at item old new came refl least.ready least.there h.2 v).0,
    ),
    λ honest each. visit_leads (works.state_is item.work) at item old new came least.there h.2 each v,
  )

  pub leading : Carried works source payload HeldAll KeepsAll
  leading = record {
    same = λ made live honest each. each;
    on = λ batches m n o a b d k l first then honest each. then (at_late source root content a.slots b.slots d.slots k honest) (first (at_early source root content a.slots b.slots d.slots k l honest) each);
    asks = asks_leads;
    visits = visits_leads;
  }

-- each item leads to itself
each_leads : {W : Type 0} (Q : Item W → Type 0) (items : List (Item W)) → ((at : ℕ) (item : Item W) → slice_get items at ≡ Some item → Q item) → AllByRecursion Q items
each_leads Q [] f = tt
each_leads Q (x ∷ xs) f = (f 0 x refl, each_leads Q xs (λ at item there. f (suc at) item there))

module _ {W S C E : Type 0} (works : Works W C E) (source : Ghosts S C) (payload : Meanings C) (laws : WorkIsOrderly payload.means works)
    (owed : Owing W C) (owing : WorkOwes payload.means works owed) where
  abbrev LeadsTo : RootId → Content C → E → Type 0 → Item W → Type 0
  LeadsTo root content failure G item = item.root ≡ root → works.permits item.work content failure → G

  begins : (root : RootId) (content : Content C) (failure : E) (items : List (Item W)) → AllByRecursion (LeadsTo root content failure (IsPermitted works root content failure items)) items
  begins root content failure items = each_leads (LeadsTo root content failure (IsPermitted works root content failure items)) items (λ at item there of permits. record { at = at; item = item; there = there; of_root = of; permits = permits })

  ends : (root : RootId) (content : Content C) (failure : E) (items items' : List (Item W)) → AllByRecursion (LeadsTo root content failure (IsPermitted works root content failure items)) items' → IsPermitted works root content failure items' → IsPermitted works root content failure items
  ends root content failure items items' each p = each_at (LeadsTo root content failure (IsPermitted works root content failure items)) items' p.at p.item each p.there p.of_root p.permits

  pub advance_permits_less : (old new : RunState W S) (answer : Progress) → LiveFits source old.live → IsNamed works.names source old.live → Advances works source payload old new answer → PermitsNoMore works source old.live new.live
  advance_permits_less old new answer fits named a root failure content orderly honest p =
      let G = IsPermitted works root content failure old.live.items in
      let did = carry_advance works source payload (HeldAll works source payload laws owing.publishes root content failure G) (KeepsAll works source payload laws owing.publishes root content failure G)
      (leading works source payload laws owing.publishes root content failure G) old new answer (fits, named, orderly) a in
      ends root content failure old.live.items new.live.items (did.1 honest (begins root content failure old.live.items)) p

  pub once_permits_less : (roots : ℕ) (old new : Live W S) (came : Bool) → LiveFits source old → IsNamed works.names source old → AsksOnce works source payload roots old new came → PermitsNoMore works source old new
  once_permits_less roots old new came fits named a root failure content orderly honest p =
      let G = IsPermitted works root content failure old.items in
      let did = carry_once works source payload (HeldAll works source payload laws owing.publishes root content failure G) (KeepsAll works source payload laws owing.publishes root content failure G)
      (leading works source payload laws owing.publishes root content failure G) roots 0 old new came (fits, named, orderly) a in
      ends root content failure old.items new.items (did.1 honest (begins root content failure old.items)) p

  pub wait_permits_less : (asker : RootId) (old new : Live W S) → LiveFits source old → IsNamed works.names source old → WaitsFor works source payload asker old new → PermitsNoMore works source old new
  wait_permits_less asker old new fits named a root failure content orderly honest p =
      let G = IsPermitted works root content failure old.items in
      let honest' = subst (λ slots. IsHonestAt source root content old.slots slots) (ap (λ (l : Live W S). l.slots) a.now) honest in
      ends root content failure old.items new.items
      (completed_leads works source payload laws owing.publishes root content failure G asker a.completion old new.items a.slot a.after fits named orderly (begins root content failure old.items) a.there a.waits.accounts honest' a.delivers) p

  no_planner : (answer : Result (Output W) E) (item : Item W) (old new : Live W S) (why : RunError E) (root : RootId) (failure : E) → why ≡ error.Planner root failure → FollowFails works source answer item old new why → (answer ≡ Err failure) × (item.root ≡ root)
  no_planner (Err other) item old new why root failure e f = let same : failure ≡ other = cc in let of : item.root ≡ root = cc in (ap (λ z. Err z) (sym same), of)
  no_planner (Ok output.Done) item old new why root failure e f = absurd f
  no_planner (Ok output.Continue) item old new why root failure e f = absurd f
  no_planner (Ok (output.NeedsIO batch)) item old new why root failure e f =
      absurd (⊎_elim (λ m. cc) (λ p. ⊎_elim (λ q. let is = q.0 in cc) (λ r. ⊎_elim (λ q. let is = q.0 in cc) (λ s. ⊎_elim (λ q. let is = q.0 in cc) (λ q. let is = q.0 in cc) s) r) p) f)
  no_planner (Ok (output.Child scope work)) item old new why root failure e f = absurd (⊎_elim (λ m. cc) (λ q. let is = q.0 in cc) f)
  no_planner (Ok (output.Batch array)) item old new why root failure e f = absurd (⊎_elim (λ m. cc) (λ q. let is = q.0 in cc) f)

  visit_permitted : (shown : State) (at : ℕ) (item : Item W) (old new : Live W S) (why : RunError E) (root : RootId) (failure : E) (content : Content C) → why ≡ error.Planner root failure → slice_get old.items at ≡ Some item → IsOrderly works old
      → VisitFails works source shown at item old new why → IsPermitted works root content failure old.items
  visit_permitted state.Done at item old new why root failure content e there orderly f = absurd f
  visit_permitted state.Waiting at item old new why root failure content e there orderly f = absurd (let is = f.0 in cc)
  visit_permitted state.NeedsCompute at item old new why root failure content e there orderly f =
      let n = no_planner f.0 (computed item f.1) (put at (computed item f.1) old) new why root failure e f.3 in
      let o = each_at (ItemIsOrderly works) old.items at item orderly there in
      let did : works.computes item.work (Err failure) f.1 = subst (λ answer. works.computes item.work answer f.1) n.0 f.2.computes in
      record { at = at; item = item; there = there; of_root = n.1; permits = laws.fails item.work failure f.1 o.orderly did content }

  ask_no_planner : (asker : RootId) (old new : Live W S) (why : RunError E) (root : RootId) (failure : E) → why ≡ error.Planner root failure → AskFails works source payload asker old new why → ⊥
  ask_no_planner asker old new why root failure e f =
      ⊎_elim (λ m. absurd (let is = m.0 in cc)) (λ r. ⊎_elim (λ q. absurd (let is = q.0 in cc)) (λ (m : PollMisses works source payload asker old new why). ⊎_elim (λ q. absurd (let is = q.0 in cc)) (λ q. absurd (let is = q.0 in cc)) m.fails) r) f

  pub advance_fails_permitted : (old new : RunState W S) (why : RunError E) → LiveFits source old.live → IsNamed works.names source old.live → AdvanceFails works source payload old new why → FailsAsPermitted works source why old.live new.live
  advance_fails_permitted old new why fits named f root failure content e orderly honest =
      let G = IsPermitted works root content failure old.live.items in
      let b = advance_breaks works source payload (HeldAll works source payload laws owing.publishes root content failure G) (KeepsAll works source payload laws owing.publishes root content failure G)
      (leading works source payload laws owing.publishes root content failure G) old new why (fits, named, orderly) f in
      ⊎_elim (λ a. absurd (ask_no_planner a.0 b.between new.live why root failure e a.1))
      (λ r. ⊎_elim (λ l. absurd (let is = l.0 in cc))
      (λ v.
      let least = v.2 in
      let p = visit_permitted (works.state_is v.1.work) v.0 v.1 b.between new.live why root failure content e least.there b.held.2 v.4 in
      ends root content failure old.live.items b.between.items
      (b.kept (at_early source root content old.live.slots b.between.slots new.live.slots b.sources v.3 honest) (begins root content failure old.live.items)) p) r) b.breaks.way

  pub complete_permits_less : (asker : RootId) (completion : Completion C) (old : Live W S) (items' : List (Item W)) → LiveFits source old → Delivers works asker completion old.items items' → PermitsNoMoreGiven works payload.means asker completion old (live_with items' old.slots old.next_owner)
  complete_permits_less asker completion old items' fits d root failure content orderly carries p =
      let G = IsPermitted works root content failure old.items in
      ends root content failure old.items items'
      (delivers_leads works source payload laws owing.publishes root content failure G asker completion old items' fits orderly (begins root content failure old.items) d
      (λ same.
      let t = d.hands.taken in
      let carried = each_at (λ (item : Item W). item.root ≡ asker → AllByRecursion (λ (fetch : Fetch). is_answer completion fetch ≡ true → Agrees payload.means content fetch.target completion.result) item.asked) old.items d.at d.item (carries (sym same)) d.there d.of_root in
      let all : AllByRecursion (λ (fetch : Fetch). is_answer completion fetch ≡ true → Agrees payload.means content fetch.target completion.result) (t.before ++ d.hands.entry ∷ t.behind) = rw t.stood at carried in
      let one = (each_behind (λ (fetch : Fetch). is_answer completion fetch ≡ true → Agrees payload.means content fetch.target completion.result) t.before (d.hands.entry ∷ t.behind) all).0 in
      one (both (is_named completion.owner completion.request d.hands.entry) (is_of_kind d.hands.entry.target completion.result) (taken_named completion.owner completion.request d.item.asked d.left d.hands.entry t) d.hands.kind))) p
