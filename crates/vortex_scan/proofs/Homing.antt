-- What the rounds of a driver's run come to, from its begin to its end: in the words of the root and of the source.
use Rattle.std.proofs.Common.{◌≡◌, ℕ, zero, suc, ◌+◌, ◌-◌, ◌^◌, ◌≤◌, List, [], ◌∷◌, ◌++◌, refl, sym, ◌∙◌, ap, subst, Bool, true, false, cond, Some, arith, inl, inr, ⊎_elim, length}
use Rattle.std.specs.Prelude.{slice_get, count_by, sum_by}
use Rattle.std.proofs.Math.ListN.{set}
use Rattle.std.proofs.lemmas.Bool.{cases_order}
use Rattle.std.proofs.lemmas.List.Sums.{sum_by-cons}
use Rattle.vortex_buffer.specs.Counts.{Rose}
use Rattle.vortex_io.specs.Source.{Content, IsHonest}
use Rattle.vortex_io.specs.declared.source.IoSource.{Ghosts}
use Rattle.vortex_scan_types.specs.declared.batch.Batch.{Batch}
use Rattle.vortex_scan_types.specs.declared.place.RootId.{RootId}
use Rattle.vortex_scan.specs.declared.errors.Progress.TheVariants as progress
use Rattle.vortex_scan.specs.declared.errors.RunError.{RunError}
use Rattle.vortex_scan.specs.declared.errors.RunError.TheVariants as error
use Rattle.vortex_scan.specs.declared.item.Item.{Item}
use Rattle.vortex_scan.specs.declared.item.Slot.{Slot}
use Rattle.vortex_scan.specs.declared.worker.Worker.{Ghosts as Works}
use Rattle.vortex_scan.specs.Bag.{AreHonest, Owing, owes}
use Rattle.vortex_scan.specs.Driving.{Driving, FailsAsRoot, FaultsByCause, GivesOwed, KeepsRun, LacksMemoryAlone, LiesAlone, Returns, StopsInOrder, StopsRun, begun, no_rows}
use Rattle.vortex_scan.specs.Fits.{LiveFits}
use Rattle.vortex_scan.specs.InOrder.{IsHonestAt, IsOrderly, IsOrderlyRoot, as_fetches, work_left}
use Rattle.vortex_scan.specs.InStep.{IsInStep, kept_of}
use Rattle.vortex_scan.specs.RunState.{RunState, is_of_root, live_with}
use Rattle.vortex_scan.specs.Sources.{Clears, ClearsEach, Keeps, KeepsEach}
use Rattle.vortex_scan.specs.Steps.{root_item}
use Rattle.vortex_scan.specs.Whole.{TellsRoots}
use Rattle.vortex_scan.proofs.Bagged.{honest_early}
use Rattle.vortex_scan.proofs.Kept.{keeps_on}
use Rattle.vortex_scan.proofs.Tallies.{none_sum}

-- A count that rose, or stands at its last number, did so by a later time.
rose_later : (a b d : ℕ) → a ≤ b → b ≤ d → Rose a b → Rose a d
rose_later a b d first then rose =
    ⊎_elim (λ less. inl (omega (arith, less, then)))
    (λ last. ⊎_elim (λ e. inr (sym e ∙ last)) (λ apart. inl (⊎_elim (λ up. omega (arith, first, up)) (λ down. absurd (omega (arith, then, down))) apart)) (cases_order b d)) rose

-- A run with one slot.

one_at : {A : Type 0} (x y : A) (i : ℕ) → slice_get (x ∷ []) i ≡ Some y → (i ≡ 0) × (x ≡ y)
one_at x y zero e = (refl, cc)
one_at x y (suc i) e = absurd (cc)

kept_none : (b : Bool) → ◌≡◌ {A = ℕ} (cond b 0 0) 0
kept_none true = refl
kept_none false = refl

-- the slot that a run of one root has later, and the source that is then cleared
pub record Home {S C : Type 0} (source : Ghosts S C) (io : S) (slots : List (Slot S)) (after : S) : Type 0 where
  pub slot : Slot S
  pub now : slots ≡ slot ∷ []
  pub keeps : Keeps source io slot.source
  pub clears : Clears source slot.source after

module _ {S C : Type 0} (source : Ghosts S C) where
  pub home : (io : S) (slots : List (Slot S)) (after : S) → KeepsEach source (record { source = io; live = true } ∷ []) slots → ClearsEach source slots (after ∷ []) → Home source io slots after
  home io [] after k c = absurd k
  home io (s ∷ []) after k c = record { slot = s; now = refl; keeps = k.0.keeps; clears = c.0 }
  home io (s ∷ t ∷ ts) after k c = absurd k.1

  pub returned : (io : S) (slots : List (Slot S)) (after : S) → Home source io slots after → Returns source io after
  returned io slots after h = record { keeps = keeps_on source io h.slot.source after h.keeps h.clears.keeps; none = h.clears.accounts }

  -- the slot at a root's number, as the run begins and later
  begun_at : (io : S) (before : Slot S) (root : ℕ) → slice_get (record { source = io; live = true } ∷ []) root ≡ Some before → (root ≡ 0) × (io ≡ before.source)
  begun_at io before root e = let o = one_at (record { source = io; live = true }) before root e in (o.0, ap (λ (s : Slot S). s.source) o.1)

  later_at : (io : S) (slots : List (Slot S)) (after : S) (found : Slot S) (root : ℕ) → (h : Home source io slots after) → slice_get slots root ≡ Some found → h.slot ≡ found
  later_at io slots after found root h e = (one_at h.slot found root (sym (ap (λ list. slice_get list root) h.now) ∙ e)).1

-- one source that is left

last_one : {A : Type 0} (xs : List A) (y z : A) → z ∷ [] ≡ xs ++ y ∷ [] → z ∷ [] ≡ y ∷ []
last_one [] y z e = e
last_one (x ∷ []) y z e = absurd (cc)
last_one (x ∷ w ∷ ws) y z e = absurd (cc)

pub cleared_long : {S C : Type 0} (source : Ghosts S C) (slots : List (Slot S)) (left : List S) → ClearsEach source slots left → length left ≡ length slots
cleared_long source [] [] c = refl
cleared_long source [] (l ∷ ls) c = absurd c
cleared_long source (s ∷ ss) [] c = absurd c
cleared_long source (s ∷ ss) (l ∷ ls) c = ap suc (cleared_long source ss ls c.1)

pub one_left : {S C : Type 0} (source : Ghosts S C) (slots : List (Slot S)) (left xs : List S) (y : S) → length slots ≡ 1 → ClearsEach source slots left → left ≡ xs ++ y ∷ [] → ClearsEach source slots (y ∷ [])
one_left source [] left xs y one c e = absurd (cc)
one_left source (s ∷ []) [] xs y one c e = absurd c
one_left source (s ∷ []) (l ∷ []) xs y one c e = subst (λ list. ClearsEach source (s ∷ []) list) (last_one xs y l e) c
one_left source (s ∷ []) (l ∷ m ∷ ms) xs y one c e = absurd c.1
one_left source (s ∷ r ∷ rs) left xs y one c e = absurd (omega (arith, one))

module _ {W S C E : Type 0} (works : Works W C E) (source : Ghosts S C) (root : W) (driver : Driving S) where
  abbrev first : RunState W S
  first = begun root driver

  -- how the run begins

  pub begun_fits : LiveFits source first.live
  begun_fits = record {
    each = (
      record { slot = record { source = driver.source; live = true }; there = refl; live = refl; kept = tt; own = tt; distinct = refl; owner = omega arith; next = omega arith; parked = λ e. absurd (cc) },
      tt,
    );
    rising = (tt, tt);
  }

  begun_in_step : source.outstanding driver.source ≡ [] → (asker : RootId) → IsInStep source first.live asker
  begun_in_step idle asker slot there live test =
      let at = begun_at source driver.source slot asker.0 there in
      let item = root_item 0 0 no_rows root in
      ap (count_by test) (ap source.outstanding (sym at.1) ∙ idle) ∙ sym (none_sum (kept_of asker test) (item ∷ []) (kept_none (is_of_root asker item), tt))

  begun_orderly : IsOrderlyRoot works root → IsOrderly works first.live
  begun_orderly o = (record { orderly = o.orderly; asked = sym (ap (as_fetches (record { 0 = 0 })) o.asked); acts = λ ready. o.acts }, tt)

  begun_work : work_left works first.live.items ≡ works.work root
  begun_work = let one = sum_by-cons (λ (item : Item W). works.work item.work) (root_item 0 0 no_rows root) [] in omega (arith, one)

  module _ (tells : Type 0) (last : RunState W S) (after : S) (h : Home source driver.source last.live.slots after) where
    honest_between : (before found : S) → driver.source ≡ before → h.slot.source ≡ found → IsHonest (source.lies driver.source) (source.lies after) → IsHonest (source.lies before) (source.lies found)
    honest_between before found e f honest =
        let part = honest_early (source.lies driver.source) (source.lies h.slot.source) (source.lies after) h.keeps.lies h.clears.keeps.lies honest in
        subst (λ s. IsHonest (source.lies s) (source.lies found)) e (subst (λ s. IsHonest (source.lies driver.source) (source.lies s)) f part)

    rose_between : (count : S → ℕ) (before found : S) → driver.source ≡ before → h.slot.source ≡ found → count driver.source ≤ count h.slot.source → count h.slot.source ≤ count after
        → Rose (count before) (count found) → Rose (count driver.source) (count after)
    rose_between count before found e f early then rose =
        rose_later (count driver.source) (count h.slot.source) (count after) early then
        (subst (λ s. Rose (count driver.source) (count s)) (sym f) (subst (λ s. Rose (count s) (count found)) (sym e) rose))

    later_source : (found : Slot S) (asker : ℕ) → slice_get last.live.slots asker ≡ Some found → h.slot.source ≡ found.source
    later_source found asker e = ap (λ (s : Slot S). s.source) (later_at source driver.source last.live.slots after found asker h e)

    -- the batches are what the root owed
    pub gives_owed : (owed : Owing W C) (given : List Batch) → tells → KeepsRun works source owed tells given first last → last.live.items ≡ [] → GivesOwed source (owed no_rows root) given driver.source after
    gives_owed owed given t k none content told honest test =
        let contents : ℕ → Content C = λ asker. content in
        let are : AreHonest source contents first.live.slots last.live.slots = λ asker before found there now live.
        let at = begun_at source driver.source before asker there in
        (ap source.content (sym at.1) ∙ told, honest_between before.source found.source at.1 (later_source found asker now) honest) in
        let whole = k.bag t contents are [] test in
        let left = ap (sum_by (owes owed contents test)) none in
        let one = sum_by-cons (owes owed contents test) (root_item 0 0 no_rows root) [] in
        omega (arith, whole, left, one)

    -- each refusal has its cause
    pub faults_by : (why : RunError E) → StopsRun works source tells why first last → FaultsByCause source why driver.source after
    faults_by why s asker e =
        let f = s.cause asker e in
        let at = begun_at source driver.source f.before asker.0 f.there in
        rose_between source.faults f.before.source f.after.source at.1 (later_source f.after asker.0 f.now) h.keeps.faults h.clears.keeps.faults f.fault

    pub lies_alone : source.outstanding driver.source ≡ [] → (why : RunError E) → StopsRun works source tells why first last → LiesAlone source why driver.source after
    lies_alone idle why s asker owner request e =
        let f = s.unexpected asker owner request e (begun_in_step idle asker) in
        let at = begun_at source driver.source f.before asker.0 f.there in
        rose_between source.lies f.before.source f.after.source at.1 (later_source f.after asker.0 f.now) h.keeps.lies h.clears.keeps.lies f.lied

    pub stops_in_order : (why : RunError E) → StopsRun works source tells why first last → IsOrderlyRoot works root → StopsInOrder why driver.limit (works.work root)
    stops_in_order why s o =
        let f = s.disorder (begun_orderly o) in
        let work = begun_work in
        record {
          empty_batch = f.empty_batch;
          empty_io = f.empty_io;
          republished = f.republished;
          waits_for_nothing = f.waits_for_nothing;
          step_limit = λ e. let less = f.step_limit e in omega (arith, less, work);
          ids_exhausted = λ e. let less = f.ids_exhausted e in omega (arith, less, work);
        }

    pub fails_as_root : tells → (why : RunError E) → StopsRun works source tells why first last → FailsAsRoot works source root why driver.source after
    fails_as_root t why s asker failure content e o told honest =
        let b = s.blames asker failure e in
        let at = begun_at source driver.source b.0 asker.0 b.1 in
        let there : IsHonestAt source asker content first.live.slots last.live.slots = record {
          before = b.0;
          there = b.1;
          told = ap source.content (sym at.1) ∙ told;
          after = h.slot;
          now = ap (λ list. slice_get list asker.0) h.now ∙ ap (λ i. slice_get (h.slot ∷ []) i) at.0;
          honest = honest_between b.0.source h.slot.source at.1 refl honest;
        } in
        let p = s.permits t asker failure content e (begun_orderly o) there in
        let is = (one_at (root_item 0 0 no_rows root) p.item p.at p.there).1 in
        subst (λ (item : Item W). works.permits item.work content failure) (sym is) p.permits

    -- a root that nothing hinders
    pub lacks_memory : tells → source.outstanding driver.source ≡ [] → driver.limit ≤ 2 ^ 64 - 1 → (is_memory : E → Bool) (why : RunError E) → StopsRun works source tells why first last → LacksMemoryAlone works source is_memory root driver.limit why driver.source after
    lacks_memory t idle most is_memory error.RunFailed s content u = absurd (s.own.run_failed refl)
    lacks_memory t idle most is_memory (error.Source asker) s content u = absurd (u.sound (faults_by (error.Source asker) s asker refl))
    lacks_memory t idle most is_memory (error.Protocol asker owner request) s content u = absurd (u.honest (lies_alone idle (error.Protocol asker owner request) s asker owner request refl))
    lacks_memory t idle most is_memory error.EmptyBatch s content u = absurd ((stops_in_order error.EmptyBatch s u.orderly).empty_batch refl)
    lacks_memory t idle most is_memory error.EmptyIo s content u = absurd ((stops_in_order error.EmptyIo s u.orderly).empty_io refl)
    lacks_memory t idle most is_memory error.Republished s content u = absurd ((stops_in_order error.Republished s u.orderly).republished refl)
    lacks_memory t idle most is_memory error.WaitsForNothing s content u = absurd ((stops_in_order error.WaitsForNothing s u.orderly).waits_for_nothing refl)
    lacks_memory t idle most is_memory (error.Planner asker failure) s content u =
        inr (asker, failure, refl, u.suits failure (fails_as_root t (error.Planner asker failure) s asker failure content refl u.orderly u.told u.honest))
    lacks_memory t idle most is_memory error.StepLimit s content u = let less = (stops_in_order error.StepLimit s u.orderly).step_limit refl in let enough = u.enough in absurd (omega (arith, less, enough))
    lacks_memory t idle most is_memory error.IdsExhausted s content u = let less = (stops_in_order error.IdsExhausted s u.orderly).ids_exhausted refl in let enough = u.enough in absurd (omega (arith, less, enough, most))
    lacks_memory t idle most is_memory error.NoLiveRoot s content u = absurd (s.own.no_live_root refl)
    lacks_memory t idle most is_memory error.OutOfMemory s content u = inl refl

-- Where the root is done, nothing is live.

over_by : {W S C : Type 0} (source : Ghosts S C) (s n : Slot S) (items : List (Item W)) (owners : ℕ) (root : RootId) → LiveFits source (live_with items (n ∷ []) owners) → slice_get (s.live ∷ []) root.0 ≡ Some true → n.live ∷ [] ≡ set (s.live ∷ []) root.0 false
    → items ≡ []
over_by source s n [] owners root fits was now = refl
over_by {S = S} source s n (item ∷ items) owners root fits was now =
    let at = (one_at s.live true root.0 was).0 in
    let ended : n.live ∷ [] ≡ false ∷ [] = now ∙ ap (λ i. set (s.live ∷ []) i false) at in
    let f = fits.each.0 in
    let same = (one_at n f.slot item.root.0 f.there).1 in
    let live = ap (λ (slot : Slot S). slot.live) same ∙ f.live in
    absurd (cc)

pub done_over : {W S C : Type 0} (source : Ghosts S C) (olds news : List (Slot S)) (items items' : List (Item W)) (owners owners' : ℕ) (root : RootId) → length olds ≡ 1 → KeepsEach source olds news → LiveFits source (live_with items' news owners')
    → TellsRoots (progress.RootDone root) (live_with items olds owners) (live_with items' news owners') → items' ≡ []
done_over source [] news items items' owners owners' root one k fits t = absurd (cc)
done_over source (s ∷ []) [] items items' owners owners' root one k fits t = absurd k
done_over source (s ∷ []) (n ∷ []) items items' owners owners' root one k fits t = over_by source s n items' owners' root fits t.0 t.2
done_over source (s ∷ []) (n ∷ m ∷ ms) items items' owners owners' root one k fits t = absurd k.1
done_over source (s ∷ r ∷ rs) news items items' owners owners' root one k fits t = absurd (omega (arith, one))
