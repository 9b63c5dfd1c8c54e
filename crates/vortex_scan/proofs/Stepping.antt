-- Roots stay in step with their sources.
use Rattle.std.proofs.Common.{◌≡◌, ◌≢◌, ℕ, ◌+◌, List, [], ◌∷◌, ◌++◌, refl, sym, ◌∙◌, ap, subst, Bool, true, false, cond, ◌&&◌, Some, arith, not}
use Rattle.std.specs.Prelude.{slice_get, eqb, count_by, sum_by}
use Rattle.std.specs.List.{AllByRecursion, remove}
use Rattle.std.proofs.Math.ListN.{set}
use Rattle.std.proofs.lemmas.Bool.Decides.{nat_tests}
use Rattle.std.proofs.lemmas.List.Sums.{sum_by_push}
use Rattle.vortex_io.specs.Source.{Taken, fetches, is_named, is_of_others, without_owner}
use Rattle.vortex_io.specs.declared.ids.IoOwnerId.{IoOwnerId}
use Rattle.vortex_io.specs.declared.ids.IoRequestId.{IoRequestId}
use Rattle.vortex_io.specs.declared.request.Fetch.{Fetch}
use Rattle.vortex_io.specs.declared.request.IoRequest.{IoRequest}
use Rattle.vortex_io.specs.declared.source.IoSource.{Ghosts}
use Rattle.vortex_scan_types.specs.declared.batch.WorkScope.{WorkScope}
use Rattle.vortex_scan.specs.declared.errors.Visited.{Visited}
use Rattle.vortex_scan.specs.declared.item.Item.{Item}
use Rattle.vortex_scan.specs.declared.item.Slot.{Slot}
use Rattle.vortex_scan_types.specs.declared.place.RootId.{RootId}
use Rattle.vortex_scan.specs.declared.state.Output.{Output}
use Rattle.vortex_scan.specs.declared.state.Output.TheVariants as output
use Rattle.vortex_scan.specs.declared.state.State.{State}
use Rattle.vortex_scan.specs.declared.state.State.TheVariants as state
use Rattle.vortex_scan.specs.declared.worker.Worker.{Ghosts as Works}
use Rattle.vortex_scan.specs.Fits.{ItemFits, LiveFits}
use Rattle.vortex_scan.specs.InStep.{IsInStep, StaysInStep, kept_of}
use Rattle.vortex_scan.specs.RunState.{Live, has_root, is_of_root, put}
use Rattle.vortex_scan.specs.Steps.{ClearsLast, Follows, Publishes, Retires, Settles, Spawns, Visits, child_of, computed, published}
use Rattle.vortex_scan.proofs.Tallies.{count_both, count_filter, count_join, count_none, one_if, removed_sum, same_sum, set_sum, count_cons}
use Rattle.vortex_scan.proofs.Fitting.{each_both, others}
use Rattle.vortex_scan.proofs.Places.{each_at, each_remove, each_weaker, get_set, get_set_other}
use Rattle.vortex_scan.proofs.Rooted.{eqb_same, same_root}
use Rattle.vortex_scan.proofs.Visiting.{item_set, publish_fits}

-- What an item has outstanding.
module _ {W : Type 0} where
  pub kept_other : (root : RootId) (test : Fetch → Bool) (item : Item W) → root.0 ≢ item.root.0 → kept_of root test item ≡ 0
  kept_other root test item differs =
      let mine : is_of_root root item ≡ false = grind (arith, nat_tests) in
      ap (λ b. cond b (count_by test item.asked) 0) mine

  pub kept_own : (test : Fetch → Bool) (item : Item W) → kept_of item.root test item ≡ count_by test item.asked
  kept_own test item = ap (λ b. cond b (count_by test item.asked) 0) (eqb_same item.root.0)

  -- one item changes
  pub set_other : (items : List (Item W)) (at : ℕ) (item now : Item W) (root : RootId) (test : Fetch → Bool) → slice_get items at ≡ Some item → now.root ≡ item.root → root.0 ≢ item.root.0 → sum_by (kept_of root test) (set items at now) ≡ sum_by (kept_of root test) items
  set_other items at item now root test there same differs =
      let h = set_sum (kept_of root test) items at item now there in
      let a = kept_other root test item differs in
      let b = kept_other root test now (subst (λ (r : RootId). root.0 ≢ r.0) (sym same) differs) in
      omega (arith, h, a, b)

  pub set_own : (items : List (Item W)) (at : ℕ) (item now : Item W) (test : Fetch → Bool) → slice_get items at ≡ Some item → now.root ≡ item.root
      → sum_by (kept_of item.root test) (set items at now) + count_by test item.asked ≡ sum_by (kept_of item.root test) items + count_by test now.asked
  set_own items at item now test there same =
      let h = set_sum (kept_of item.root test) items at item now there in
      let a = kept_own test item in
      let b : kept_of item.root test now ≡ count_by test now.asked = subst (λ (r : RootId). kept_of r test now ≡ count_by test now.asked) same (kept_own test now) in
      omega (arith, h, a, b)

  -- without fetches of its own an item adds nothing
  kept_none : (root : RootId) (test : Fetch → Bool) (item : Item W) → item.asked ≡ [] → kept_of root test item ≡ 0
  kept_none root test item none =
      elim (is_of_root root item) as (λ b. cond b (count_by test item.asked) 0 ≡ 0) [ true ↦ ap (count_by test) none | false ↦ refl ]

  pub pushed : (items : List (Item W)) (item : Item W) (root : RootId) (test : Fetch → Bool) → item.asked ≡ [] → sum_by (kept_of root test) (items ++ item ∷ []) ≡ sum_by (kept_of root test) items
  pushed items item root test none =
      let h = sum_by_push (kept_of root test) items item in
      let z = kept_none root test item none in
      omega (arith, h, z)

same_count : {A : Type 0} (p q : A → Bool) (xs : List A) → AllByRecursion (λ x. p x ≡ q x) xs → count_by p xs ≡ count_by q xs
same_count p q xs a = same_sum (λ x. one_if (p x)) (λ x. one_if (q x)) xs (each_weaker (λ x. p x ≡ q x) (λ x. one_if (p x) ≡ one_if (q x)) xs (λ x e. ap one_if e) a)

pub taken_count : (owner : IoOwnerId) (number : IoRequestId) (old new : List Fetch) (entry : Fetch) (test : Fetch → Bool) → Taken owner number old new entry → count_by test old ≡ count_by test new + one_if (test entry)
taken_count owner number old new entry test t =
    let a = ap (count_by test) t.stood ∙ count_join test t.before (entry ∷ t.behind) in
    let b = ap (count_by test) t.left ∙ count_join test t.before t.behind in
    let h = count_cons test entry t.behind in
    omega (arith, a, b, h)

found : (owner : IoOwnerId) (number : IoRequestId) → (eqb owner.0 owner.0 && eqb number.0 number.0) ≡ true
found owner number = ap (λ b. b && eqb number.0 number.0) (eqb_same owner.0) ∙ eqb_same number.0

pub taken_named : (owner : IoOwnerId) (number : IoRequestId) (old new : List Fetch) (entry : Fetch) → Taken owner number old new entry → is_named owner number entry ≡ true
taken_named owner number old new entry t = rw (t.whose, t.number) (found owner number)

-- a test that only fetches of one owner and number pass
abbrev pub OfOne : IoOwnerId → IoRequestId → (Fetch → Bool) → Type 0
OfOne owner number test = (fetch : Fetch) → is_named owner number fetch ≡ false → test fetch ≡ false

abbrev named_and : IoOwnerId → IoRequestId → (Fetch → Bool) → Fetch → Bool
named_and owner number test fetch = is_named owner number fetch && test fetch

-- where one fetch is of the owner and number, at the source and at the item, it is the same to every test
pub same_entry : (owner : IoOwnerId) (number : IoRequestId) (out out' : List Fetch) (entry other : Fetch) → Taken owner number out out' entry → is_named owner number other ≡ true
    → ((test : Fetch → Bool) → OfOne owner number test → count_by test out ≡ one_if (test other)) → (test : Fetch → Bool) → one_if (test entry) ≡ one_if (test other)
same_entry owner number out out' entry other t theirs all test =
    let here = taken_named owner number out out' entry t in
    let whole = taken_count owner number out out' entry (is_named owner number) t in
    let whole' = all (is_named owner number) (λ fetch e. e) in
    let one = ap one_if here in
    let one' = ap one_if theirs in
    let part = taken_count owner number out out' entry (named_and owner number test) t in
    let part' = all (named_and owner number test) (λ fetch e. ap (λ b. b && test fetch) e) in
    let mine = ap (λ b. one_if (b && test entry)) here in
    let their = ap (λ b. one_if (b && test other)) theirs in
    let fewer = count_both (is_named owner number) test out' in
    omega (arith, whole, whole', one, one', part, part', mine, their, fewer)

pub other_named : (owner other : IoOwnerId) (number : IoRequestId) (fetch : Fetch) → fetch.owner ≡ other → other.0 ≢ owner.0 → is_named owner number fetch ≡ false
other_named owner other number fetch own differs =
    let e : eqb fetch.owner.0 owner.0 ≡ false = rw own (grind (arith, nat_tests)) in
    ap (λ b. b && eqb fetch.request.0 number.0) e

pub other_number : (owner : IoOwnerId) (number : IoRequestId) (fetch : Fetch) → fetch.request.0 ≢ number.0 → is_named owner number fetch ≡ false
other_number owner number fetch differs = grind (arith, nat_tests)

own_no_other : (owner : IoOwnerId) → not (eqb owner.0 owner.0) ≡ false
own_no_other owner = ap not (eqb_same owner.0)

other_is : (owner other : IoOwnerId) → other.0 ≢ owner.0 → not (eqb other.0 owner.0) ≡ true
other_is owner other differs = let e : eqb other.0 owner.0 ≡ false = grind (arith, nat_tests) in ap not e

module _ {W S C : Type 0} (source : Ghosts S C) where
  -- a step that touches one root
  pub stays_by : (r : RootId) (old new : Live W S) → ((other : ℕ) → other ≢ r.0 → slice_get new.slots other ≡ slice_get old.slots other)
      → ((other : RootId) (test : Fetch → Bool) → other.0 ≢ r.0 → sum_by (kept_of other test) new.items ≡ sum_by (kept_of other test) old.items) → (IsInStep source old r → IsInStep source new r) → StaysInStep source old new
  stays_by r old new slots items own root was =
      elim (eqb root.0 r.0) as (λ b. eqb root.0 r.0 ≡ b → IsInStep source new root) [
        | true ↦ λ e. let same = same_root root r e in subst (λ (x : RootId). IsInStep source new x) (sym same) (own (subst (λ (x : RootId). IsInStep source old x) same was))
        | false ↦ λ e.
            let differs : root.0 ≢ r.0 = λ h. let t : eqb root.0 r.0 ≡ true = rw h (eqb_same r.0) in cc in
            λ slot there live test. was slot (sym (slots root.0 differs) ∙ there) live test ∙ sym (items root test differs)
      ] refl

  pub stays_same : (live : Live W S) → StaysInStep source live live
  stays_same live root was = was

  pub stays_on : (a b d : Live W S) → StaysInStep source a b → StaysInStep source b d → StaysInStep source a d
  stays_on a b d s t root was = t root (s root was)

  -- one item changes but for its fetches
  put_stays : (old : Live W S) (at : ℕ) (item now : Item W) → slice_get old.items at ≡ Some item → now.root ≡ item.root → now.asked ≡ item.asked → StaysInStep source old (put at now old)
  put_stays old at item now there same asked =
      stays_by item.root old (put at now old) (λ other differs. refl) (λ other test differs. set_other old.items at item now other test there same differs)
      (λ was slot here live test.
      let h = set_own old.items at item now test there same in
      let e = ap (count_by test) asked in
      let w = was slot here live test in
      omega (arith, h, e, w))

  -- without an item, whose fetches its source gave up, the others keep theirs
  others_keep : (at : ℕ) (item : Item W) (old : Live W S) (slot : Slot S) (out : List Fetch) → LiveFits source old → slice_get old.items at ≡ Some item → slice_get old.slots item.root.0 ≡ Some slot → slot.live ≡ true
      → out ≡ without_owner item.owner (source.outstanding slot.source) → IsInStep source old item.root → (test : Fetch → Bool) → count_by test out ≡ sum_by (kept_of item.root test) (remove old.items at)
  others_keep at item old slot out fits there here live given was test =
      let f = each_at (ItemFits source old.slots old.next_owner) old.items at item fits.each there in
      let theirs : Fetch → Bool = λ fetch. is_of_others item.owner fetch && test fetch in
      let counted = ap (count_by test) given ∙ count_filter (is_of_others item.owner) test (source.outstanding slot.source) in
      let w = was slot here live theirs in
      let sums = removed_sum (kept_of item.root theirs) old.items at item there in
      let mine = kept_own theirs item in
      let own = count_none theirs item.asked (each_weaker (λ (x : Fetch). x.owner ≡ item.owner) (λ (x : Fetch). theirs x ≡ false) item.asked
      (λ x e. let no_other : is_of_others item.owner x ≡ false = rw e (own_no_other item.owner) in ap (λ b. b && test x) no_other) f.own) in
      let Others : Item W → Type 0 = λ other. other.owner.0 ≢ item.owner.0 in
      let Old : Item W → Type 0 = ItemFits source old.slots old.next_owner in
      let same = same_sum (kept_of item.root theirs) (kept_of item.root test) (remove old.items at)
      (each_both Others Old (λ other. kept_of item.root theirs other ≡ kept_of item.root test other) (remove old.items at)
      (λ other differs g. ap (λ n. cond (is_of_root item.root other) n 0) (same_count theirs test other.asked
      (each_weaker (λ (x : Fetch). x.owner ≡ other.owner) (λ (x : Fetch). theirs x ≡ test x) other.asked
      (λ x e. let other' : is_of_others item.owner x ≡ true = rw e (other_is item.owner other.owner differs) in ap (λ b. b && test x) other') g.own)))
      (others old.items at item fits.rising there) (each_remove Old old.items at fits.each)) in
      omega (arith, counted, w, sums, mine, own, same)

  retire_own : (left : Bool) (at : ℕ) (item : Item W) (old : Live W S) (slots : List (Slot S)) (slot now : Slot S) (released after : S) → LiveFits source old → slice_get old.items at ≡ Some item → slice_get old.slots item.root.0 ≡ Some slot
      → source.outstanding released ≡ without_owner item.owner (source.outstanding slot.source) → ClearsLast source left released after
      → slice_get slots item.root.0 ≡ Some (let s : Slot S = record { source = after; live = left && slot.live } in s) → slice_get slots item.root.0 ≡ Some now → now.live ≡ true
      → IsInStep source old item.root → (test : Fetch → Bool) → count_by test (source.outstanding now.source) ≡ sum_by (kept_of item.root test) (remove old.items at)
  retire_own true at item old slots slot now released after fits there here given clears set' got live was test =
      let same : (let s : Slot S = record { source = after; live = slot.live } in s) ≡ now = cc in
      let lives : slot.live ≡ true = ap (λ (s : Slot S). s.live) same ∙ live in
      let out : source.outstanding now.source ≡ without_owner item.owner (source.outstanding slot.source) = sym (ap (λ (s : Slot S). source.outstanding s.source) same) ∙ ap (λ it. source.outstanding it) clears ∙ given in
      others_keep at item old slot (source.outstanding now.source) fits there here lives out was test
  retire_own false at item old slots slot now released after fits there here given clears set' got live was test =
      let same : (let s : Slot S = record { source = after; live = false } in s) ≡ now = cc in
      let ended : now.live ≡ false = sym (ap (λ (s : Slot S). s.live) same) in
      absurd (cc)

  retire_stays : (at : ℕ) (item : Item W) (old new : Live W S) (answer : Visited) → LiveFits source old → slice_get old.items at ≡ Some item → Retires source at item old new answer → StaysInStep source old new
  retire_stays at item old new answer fits there r =
      let left = has_root item.root (remove old.items at) in
      let slot' : Slot S = record { source = r.after; live = has_root item.root (remove old.items at) && r.slot.live } in
      let new' : Live W S = record old { items = remove old.items at; slots = set old.slots item.root.0 slot' } in
      rw r.now (stays_by item.root old new' (λ other differs. get_set_other old.slots item.root.0 other slot' differs)
      (λ other test differs.
      let h = removed_sum (kept_of other test) old.items at item there in
      let z = kept_other other test item differs in
      omega (arith, h, z))
      (λ was now got live test. retire_own (has_root item.root (remove old.items at)) at item old (set old.slots item.root.0 slot') r.slot now r.released r.after fits there r.there r.releases.accounts r.clears
      (get_set old.slots item.root.0 r.slot slot' r.there) got live was test))

  settle_stays : (shown : State) (at : ℕ) (item : Item W) (old new : Live W S) (answer : Visited) → LiveFits source old → slice_get old.items at ≡ Some item → Settles source shown at item old new answer → StaysInStep source old new
  settle_stays state.Done at item old new answer fits there s = retire_stays at item old new answer fits there s
  settle_stays state.NeedsCompute at item old new answer fits there s = rw s.0 (stays_same old)
  settle_stays state.Waiting at item old new answer fits there s = rw s.1 (put_stays old at item (record item { ready = false }) there refl refl)

  publish_stays : (at : ℕ) (item : Item W) (batch : List IoRequest) (old new : Live W S) → slice_get old.items at ≡ Some item → Publishes source at item batch old new → StaysInStep source old new
  publish_stays at item batch old new there p =
      let slot' : Slot S = record p.slot { source = p.after } in
      let new' : Live W S = record old { items = set old.items at (published item batch); slots = set old.slots item.root.0 slot' } in
      rw p.now (stays_by item.root old new' (λ other differs. get_set_other old.slots item.root.0 other slot' differs)
      (λ other test differs. set_other old.items at item (published item batch) other test there refl differs)
      (λ was now got live test.
      let same : slot' ≡ now = let set' = get_set old.slots item.root.0 p.slot slot' p.there in cc in
      let lives : p.slot.live ≡ true = ap (λ (s : Slot S). s.live) same ∙ live in
      let out = sym (ap (λ (s : Slot S). count_by test (source.outstanding s.source)) same) ∙ ap (count_by test) p.submits.accounts ∙ count_join test (source.outstanding p.slot.source) (fetches item.owner batch) in
      let w = was p.slot p.there lives test in
      let h = set_own old.items at item (published item batch) test there refl in
      let j = count_join test item.asked (fetches item.owner batch) in
      omega (arith, out, w, h, j)))

  spawn_stays : (at : ℕ) (item : Item W) (scope : WorkScope) (work : W) (old new : Live W S) → slice_get old.items at ≡ Some item → Spawns at item scope work old new → StaysInStep source old new
  spawn_stays at item scope work old new there p =
      let now : Item W = record item { next = item.next + 1 } in
      let child : Item W = child_of item old.next_owner scope work in
      rw p.now (λ root was slot here live test. put_stays old at item now there refl refl root was slot here live test ∙ sym (pushed (set old.items at now) child root test refl))

  follow_stays : {E : Type 0} (works : Works W C E) (out : Output W) (at : ℕ) (item : Item W) (old new : Live W S) (answer : Visited) → LiveFits source old → slice_get old.items at ≡ Some item → Follows works source out at item old new answer → StaysInStep source old new
  follow_stays works output.Done at item old new answer fits there h = retire_stays at item old new answer fits there h
  follow_stays works output.Continue at item old new answer fits there h = rw h.0 (stays_same old)
  follow_stays works (output.NeedsIO batch) at item old new answer fits there h =
      let p = h.1 in
      let there' : slice_get h.0.items at ≡ Some (published item batch) = rw (ap (λ (l : Live W S). l.items) p.now) (get_set old.items at item (published item batch) there) in
      stays_on old h.0 new (publish_stays at item batch old h.0 there p) (settle_stays (works.state_is item.work) at (published item batch) h.0 new answer (publish_fits source at item batch old h.0 fits there p) there' h.2)
  follow_stays works (output.Child scope work) at item old new answer fits there h = spawn_stays at item scope work old new there h.0
  follow_stays works (output.Batch array) at item old new answer fits there h = rw h.1 (stays_same old)

  pub visit_stays : {E : Type 0} (works : Works W C E) (shown : State) (at : ℕ) (item : Item W) (old new : Live W S) (answer : Visited) → LiveFits source old → slice_get old.items at ≡ Some item → Visits works source shown at item old new answer → StaysInStep source old new
  visit_stays works state.Done at item old new answer fits there h = settle_stays state.Done at item old new answer fits there h
  visit_stays works state.Waiting at item old new answer fits there h = settle_stays state.Waiting at item old new answer fits there h
  visit_stays works state.NeedsCompute at item old new answer fits there h =
      let f = each_at (ItemFits source old.slots old.next_owner) old.items at item fits.each there in
      let now : Item W = computed item h.1 in
      let one : ItemFits source old.slots old.next_owner now = record { slot = f.slot; there = f.there; live = f.live; kept = f.kept; own = f.own; distinct = f.distinct; owner = f.owner; next = f.next; parked = f.parked } in
      stays_on old (put at now old) new (put_stays old at item now there refl refl)
      (follow_stays works h.0 at now (put at now old) new answer (item_set source old at item now fits there refl one) (get_set old.items at item now there) h.3)
