-- Seats over whole calls.
use Rattle.std.proofs.Common.{◌≡◌, ℕ, ◌+◌, List, [], ◌∷◌, ◌++◌, refl, sym, ◌∙◌, ap, subst, Bool, true, false, cond, eqb, not, Option, None, Some, Ok, arith, ◌⊎◌, ⊎_elim, append-nil}
use Rattle.std.specs.Prelude.{slice_get, count_by}
use Rattle.std.specs.List.{AllByRecursion}
use Rattle.std.proofs.Math.ListN.{set}
use Rattle.std.proofs.lemmas.List.{append_cancel_left}
use Rattle.vortex_array.specs.Batch.{BatchParts}
use Rattle.vortex_io.specs.Source.{Agrees, Completes, Content, IsHonest, TakesNone, TakesOne, grown, has_target, is_named, is_of_kind}
use Rattle.vortex_io.specs.declared.payload.Payload.{Ghosts as Meanings}
use Rattle.vortex_io.specs.declared.request.Completion.{Completion}
use Rattle.vortex_io.specs.declared.request.Fetch.{Fetch}
use Rattle.vortex_io.specs.declared.request.IoRequest.{IoRequest}
use Rattle.vortex_io.specs.declared.request.IoResult.{IoResult}
use Rattle.vortex_io.specs.declared.request.IoTarget.{IoTarget}
use Rattle.vortex_io.specs.declared.request.JournalEntry.{JournalEntry}
use Rattle.vortex_io.specs.declared.request.JournalEntry.TheVariants.{Waited}
use Rattle.vortex_io.specs.declared.source.IoSource.{Ghosts}
use Rattle.vortex_scan_types.specs.declared.batch.Batch.{Batch}
use Rattle.vortex_scan_types.specs.declared.place.RootId.{RootId}
use Rattle.vortex_scan.specs.declared.errors.Progress.{Progress}
use Rattle.vortex_scan.specs.declared.errors.Progress.TheVariants as progress
use Rattle.vortex_scan.specs.declared.errors.Visited.{Visited}
use Rattle.vortex_scan.specs.declared.item.Item.{Item}
use Rattle.vortex_scan.specs.declared.item.Slot.{Slot}
use Rattle.vortex_scan.specs.declared.state.Output.TheVariants as output
use Rattle.vortex_scan.specs.declared.worker.Worker.{Ghosts as Works}
use Rattle.vortex_scan.specs.Asking.{AsksOnce}
use Rattle.vortex_scan.specs.Bag.{batches_of}
use Rattle.vortex_scan.specs.Fetching.{is_answer}
use Rattle.vortex_scan.specs.Fits.{ItemFits, LiveFits}
use Rattle.vortex_scan.specs.Going.{Advances}
use Rattle.vortex_scan.specs.Keys.{IsLeastReady}
use Rattle.vortex_scan.specs.Naming.{AskAsNamed, IsNamed, ItemIsNamed}
use Rattle.vortex_scan.specs.Owed.{NamesTargets}
use Rattle.vortex_scan.specs.Plans.{DeliversAsTold}
use Rattle.vortex_scan.specs.RunState.{Live, RunState, live_with}
use Rattle.vortex_scan.specs.Seats.{Adds, ArePlanned, IsBrought, IsTold, KeepsFresh, KeepsSeats, Seating, SpendsSeats, SurelyStands, TakesSeat, fetched_in, seats, targets_of}
use Rattle.vortex_scan.specs.Sources.{KeepsEach}
use Rattle.vortex_scan.specs.Steps.{Asks, Delivers, Visits, WaitsFor}
use Rattle.vortex_scan.proofs.Asked.{asks_fits}
use Rattle.vortex_scan.proofs.Bagged.{both, taken_names}
use Rattle.vortex_scan.proofs.Chains.{Carried, carry_advance, carry_once}
use Rattle.vortex_scan.proofs.Fitting.{left_fits}
use Rattle.vortex_scan.proofs.Journals.{ask_asks, wait_asks, waited_at}
use Rattle.vortex_scan.proofs.Named.{asks_named, visit_named}
use Rattle.vortex_scan.proofs.Passing.{Passes, passes_same}
use Rattle.vortex_scan.proofs.Permitted.{at_early, at_late}
use Rattle.vortex_scan.proofs.Places.{each_at, each_behind, get_set}
use Rattle.vortex_scan.proofs.Planned.{asks_planned, visit_planned}
use Rattle.vortex_scan.proofs.Planning.{WorkPlans}
use Rattle.vortex_scan.proofs.Seated.{Passed, delivers_passes, lacks, passed_by, passed_on, passed_same, visit_passed}
use Rattle.vortex_scan.proofs.Stepping.{taken_named}
use Rattle.vortex_scan.proofs.Tallies.{count_cons, one_if}
use Rattle.vortex_scan.proofs.Visiting.{visit_fits}

-- What is told of a call is told of its parts.
module _ {S C : Type 0} (tells : Type 0) (source : Ghosts S C) (root : RootId) where
  pub told_early : (told : Option (Content C)) (a b d : List (Slot S)) → KeepsEach source a b → KeepsEach source b d → IsTold tells source a d root told → IsTold tells source a b root told
  told_early None a b d k l t = tt
  told_early (Some content) a b d k l t = (t.0, at_early source root content a b d k l t.1)

  pub told_late : (told : Option (Content C)) (a b d : List (Slot S)) → KeepsEach source a b → IsTold tells source a d root told → IsTold tells source b d root told
  told_late None a b d k t = tt
  told_late (Some content) a b d k t = (t.0, at_late source root content a b d k t.1)

fair_same : (a a' b b' : ℕ) → a ≡ a' → b ≡ b' → IsHonest a b → IsHonest a' b'
fair_same a a' b b' e f h = subst (λ z. IsHonest a' z) f (subst (λ z. IsHonest z b) e h)

as_named : {C V : Type 0} (means : C → V) (content : Content C) (named : Option IoTarget) (target : IoTarget) (outcome : IoResult C) → named ≡ Some target → Agrees means content target outcome → DeliversAsTold means (Some content) named outcome
as_named means content named target outcome e agrees = subst (λ z. DeliversAsTold means (Some content) z outcome) (sym e) agrees

module _ {W S C E : Type 0} (works : Works W C E) (source : Ghosts S C) (payload : Meanings C) (tells : Type 0) (root : RootId) where
  -- what a source gives is as it is told
  as_told : (told : Option (Content C)) (asker : RootId) (completion : Completion C) (old : Live W S) (items' : List (Item W)) (slot : Slot S) (after : S) → LiveFits source old → (tells → IsNamed works.names source old) → slice_get old.slots asker.0 ≡ Some slot
      → Completes payload.means (source.content slot.source) (source.outstanding slot.source) (source.outstanding after) (source.lies slot.source) (source.lies after) completion
      → IsTold tells source old.slots (set old.slots asker.0 (record slot { source = after })) root told → (d : Delivers works asker completion old.items items') → asker ≡ root
      → DeliversAsTold payload.means told (works.names d.item.work completion.request) completion.result
  as_told None asker completion old items' slot after fits named there completes t d same = tt
  as_told (Some content) asker completion old items' slot after fits named there completes t d same =
      let honest = t.1 in
      let f = each_at (ItemFits source old.slots old.next_owner) old.items d.at d.item fits.each d.there in
      let whose = (left_fits completion d.item.asked d.left d.hands.entry d.item.owner d.hands.taken f.own f.distinct).3 in
      let n = each_at (ItemIsNamed works.names source old.slots) old.items d.at d.item (named t.0).each d.there in
      let outstanding = each_at (λ (s : Slot S). AskAsNamed works.names d.item (source.outstanding s.source)) old.slots asker.0 slot n.outstanding there in
      let here : slice_get old.slots asker.0 ≡ Some honest.before = subst (λ (r : RootId). slice_get old.slots r.0 ≡ Some honest.before) (sym same) honest.there in
      let is : slot ≡ honest.before = cc in
      let got : slice_get (set old.slots asker.0 (record slot { source = after })) asker.0 ≡ Some honest.after = subst (λ (r : RootId). slice_get (set old.slots asker.0 (record slot { source = after })) r.0 ≡ Some honest.after) (sym same) honest.now in
      let set' = get_set old.slots asker.0 slot (record slot { source = after }) there in
      let is' : (let s : Slot S = record slot { source = after } in s) ≡ honest.after = cc in
      let told' : source.content slot.source ≡ Some content = ap (λ (s : Slot S). source.content s.source) is ∙ honest.told in
      let lies = ap (λ (s : Slot S). source.lies s.source) (sym is) in
      let lies' : source.lies honest.after.source ≡ source.lies after = sym (ap (λ (s : Slot S). source.lies s.source) is') in
      let fair = fair_same (source.lies honest.before.source) (source.lies slot.source) (source.lies honest.after.source) (source.lies after) lies lies' honest.honest in
      ⊎_elim (λ (one : TakesOne payload.means (source.content slot.source) (source.outstanding slot.source) (source.outstanding after) (source.lies slot.source) (source.lies after) completion).
      as_named payload.means content (works.names d.item.work completion.request) one.entry.target completion.result
      (taken_names works d.item completion (source.outstanding slot.source) (source.outstanding after) one.entry one.taken whose outstanding) ((one.answers fair).agrees content told'))
      (λ (none : TakesNone (source.outstanding slot.source) (source.outstanding after) (source.lies slot.source) (source.lies after) completion). absurd (fair none.counted)) completes

  -- what is brought from elsewhere is as it is told
  as_brought : (told : Option (Content C)) (asker : RootId) (completion : Completion C) (old : Live W S) (items' : List (Item W)) → LiveFits source old → (tells → IsNamed works.names source old)
      → IsBrought tells payload.means asker completion old.items root told → (d : Delivers works asker completion old.items items') → asker ≡ root
      → DeliversAsTold payload.means told (works.names d.item.work completion.request) completion.result
  as_brought None asker completion old items' fits named b d same = tt
  as_brought (Some content) asker completion old items' fits named b d same =
      let f = each_at (ItemFits source old.slots old.next_owner) old.items d.at d.item fits.each d.there in
      let whose = (left_fits completion d.item.asked d.left d.hands.entry d.item.owner d.hands.taken f.own f.distinct).3 in
      let n = each_at (ItemIsNamed works.names source old.slots) old.items d.at d.item (named b.0).each d.there in
      let t = d.hands.taken in
      let carried = each_at (λ (item : Item W). item.root ≡ asker → AllByRecursion (λ (fetch : Fetch). is_answer completion fetch ≡ true → Agrees payload.means content fetch.target completion.result) item.asked) old.items d.at d.item (b.1 (sym same)) d.there d.of_root in
      let all : AllByRecursion (λ (fetch : Fetch). is_answer completion fetch ≡ true → Agrees payload.means content fetch.target completion.result) (t.before ++ d.hands.entry ∷ t.behind) = rw t.stood at carried in
      let one = (each_behind (λ (fetch : Fetch). is_answer completion fetch ≡ true → Agrees payload.means content fetch.target completion.result) t.before (d.hands.entry ∷ t.behind) all).0 in
      let is_it : is_answer completion d.hands.entry ≡ true = both (is_named completion.owner completion.request d.hands.entry) (is_of_kind d.hands.entry.target completion.result)
      (taken_named completion.owner completion.request d.item.asked d.left d.hands.entry t) d.hands.kind in
      as_named payload.means content (works.names d.item.work completion.request) d.hands.entry.target completion.result
      (taken_names works d.item completion d.item.asked d.left d.hands.entry t whose n.asked) (one is_it)

waited_nothing : (asker root : RootId) → fetched_in (cond (eqb asker.0 root.0) (Waited ∷ []) []) ≡ []
waited_nothing asker root = elim (eqb asker.0 root.0) as (λ b. fetched_in (cond b (Waited ∷ []) []) ≡ []) [ true ↦ refl | false ↦ refl ]

-- What each publication says of the names of its targets.
abbrev pub Names : {W C E : Type 0} → Works W C E → Type 0
Names {W} works = (old : W) (batch : List IoRequest) (new : W) → works.computes old (Ok (output.NeedsIO batch)) new → NamesTargets (works.names old) batch

module _ {W S C E : Type 0} (works : Works W C E) (source : Ghosts S C) (payload : Meanings C) (seating : Seating W C) (gives_such : BatchParts → Bool) (publishes : W → Type 0)
    (laws : WorkPlans payload.means works seating gives_such publishes) (tells : Type 0) (names : tells → Names works) where
  -- what is held
  abbrev pub Seats' : Live W S → Type 0
  Seats' live = LiveFits source live × (tells → IsNamed works.names source live) × ArePlanned works.state_is publishes live.items

  module _ (root : RootId) (told : Option (Content C)) where
    abbrev Moves : List Batch → Live W S → Live W S → Type 0
    Moves batches old new = Passed source seating gives_such root told batches old new

    abbrev pub Keeps' : List Batch → ℕ → Live W S → ℕ → Live W S → Type 0
    Keeps' batches made old made' new = IsTold tells source old.slots new.slots root told → Moves batches old new

    asks_held : (asker : RootId) (answer : Option (Completion C)) (old new : Live W S) → Seats' old → Asks works source payload asker answer old new → Seats' new
    asks_held asker answer old new h a = (
      asks_fits works source payload asker answer old new h.0 a,
      (λ t. asks_named works source payload asker answer old new (h.1 t) a),
      asks_planned payload.means works source seating gives_such publishes laws payload asker answer old new h.2 a,
    )

    asks_passed : (asker : RootId) (answer : Option (Completion C)) (old new : Live W S) → Seats' old → Asks works source payload asker answer old new → IsTold tells source old.slots new.slots root told → Moves [] old new
    asks_passed asker None old new h a t =
        passed_by source seating gives_such root told [] old new [] [] (ask_asks works source payload asker None old new root a) refl
        (subst (λ (items : List (Item W)). Passes (seats seating root told old.items) [] (seats seating root told items)) (sym a.delivers) (passes_same (seats seating root told old.items))) tt
    asks_passed asker (Some completion) old new h a t =
        let t' = subst (λ (slots : List (Slot S)). IsTold tells source old.slots slots root told) (ap (λ (l : Live W S). l.slots) a.now) t in
        passed_by source seating gives_such root told [] old new [] [] (ask_asks works source payload asker (Some completion) old new root a) refl
        (delivers_passes works source payload.means seating gives_such publishes laws root told asker completion old.items new.items h.2 a.delivers
        (as_told works source payload tells root told asker completion old new.items a.slot a.after h.0 h.1 a.there a.polls.accounts t' a.delivers)) tt

    visits_held : (at : ℕ) (item : Item W) (old new : Live W S) (came : Visited) → Seats' old → IsLeastReady old.items at item → Visits works source (works.state_is item.work) at item old new came → Seats' new
    visits_held at item old new came h least v = (
      visit_fits source works (works.state_is item.work) at item old new came h.0 least.there v,
      (λ t. visit_named works source (names t) (works.state_is item.work) at item old new came h.0 least.there (h.1 t) v),
      visit_planned payload.means works source seating gives_such publishes laws (works.state_is item.work) at item old new came refl least.ready least.there h.2 v,
    )

    pub seating_on : Carried works source payload Seats' Keeps'
    seating_on = record {
      same = λ made live t. passed_same source seating gives_such root told live;
      on = λ batches m n o a b d k l first then t.
          passed_on source seating gives_such root told batches a b d k l (first (told_early tells source root told a.slots b.slots d.slots k l t)) (then (told_late tells source root told a.slots b.slots d.slots k t));
      asks = λ asker answer made old new h a. (asks_held asker answer old new h a, asks_passed asker answer old new h a);
      visits = λ made at item old new came h least v. (
        visits_held at item old new came h least v,
        λ t. visit_passed works source payload.means seating gives_such publishes laws root told (works.state_is item.work) at item old new came refl least.there v,
      );
    }

    -- over whole calls
    pub advance_passed : (old new : RunState W S) (answer : Progress) → Seats' old.live → Advances works source payload old new answer → Seats' new.live × (IsTold tells source old.live.slots new.live.slots root told → Moves (batches_of answer) old.live new.live)
    advance_passed old new answer h a = carry_advance works source payload Seats' Keeps' seating_on old new answer h a

    pub once_passed : (roots : ℕ) (old new : Live W S) (came : Bool) → Seats' old → AsksOnce works source payload roots old new came → Seats' new × (IsTold tells source old.slots new.slots root told → Moves [] old new)
    once_passed roots old new came h a = carry_once works source payload Seats' Keeps' seating_on roots 0 old new came h a

    pub wait_passed : (asker : RootId) (old new : Live W S) → Seats' old → WaitsFor works source payload asker old new → IsTold tells source old.slots new.slots root told → Moves [] old new
    wait_passed asker old new h a t =
        let t' = subst (λ (slots : List (Slot S)). IsTold tells source old.slots slots root told) (ap (λ (l : Live W S). l.slots) a.now) t in
        passed_by source seating gives_such root told [] old new (waited_at works source payload asker root) [] (wait_asks works source payload asker old new root a) (waited_nothing asker root)
        (delivers_passes works source payload.means seating gives_such publishes laws root told asker a.completion old.items new.items h.2 a.delivers
        (as_told works source payload tells root told asker a.completion old new.items a.slot a.after h.0 h.1 a.there a.waits.accounts t' a.delivers)) tt

    pub complete_passes : (asker : RootId) (completion : Completion C) (old : Live W S) (items' : List (Item W)) → Seats' old → Delivers works asker completion old.items items' → IsBrought tells payload.means asker completion old.items root told
        → Passes (seats seating root told old.items) [] (seats seating root told items')
    complete_passes asker completion old items' h d b =
        delivers_passes works source payload.means seating gives_such publishes laws root told asker completion old.items items' h.2 d (as_brought works source payload tells root told asker completion old items' h.0 h.1 b d)

-- What calls keep, from what passed.

-- what is added is what was noted
pub noted_is : {S C : Type 0} (source : Ghosts S C) (root : RootId) (added noted : List JournalEntry) (old new : List (Slot S)) → ((before after : Slot S) → slice_get old root.0 ≡ Some before → slice_get new root.0 ≡ Some after → source.journal after.source ≡ grown (source.journal before.source) noted)
    → Adds source root added old new → added ≡ noted
noted_is source root added noted old new journal a =
    let grew = journal a.before a.after a.there a.now in
    let two : Some (a.journal ++ added) ≡ Some (a.journal ++ noted) = sym a.grew ∙ grew ∙ ap (λ t. grown t noted) a.told in
    let same : a.journal ++ added ≡ a.journal ++ noted = cc in
    append_cancel_left a.journal added noted same

module _ {W S C : Type 0} (source : Ghosts S C) (seating : Seating W C) (gives_such : BatchParts → Bool) (over : RootId → Option (Content C) → Type 0) (batches : List Batch) (old new : Live W S)
    (passed : (root : RootId) (told : Option (Content C)) → over root told → Passed source seating gives_such root told batches old new) where
  pub keeps_seats : KeepsSeats over seating old new
  keeps_seats root told o = (passed root told o).passes.from

  pub spends_seats : SpendsSeats over source seating old new
  spends_seats root told added o a =
      let p = passed root told o in
      rw (noted_is source root added p.noted old.slots new.slots p.journal a) p.passes.spent

  pub keeps_fresh : KeepsFresh over source seating old new
  keeps_fresh root told added o a =
      let p = passed root told o in
      rw (noted_is source root added p.noted old.slots new.slots p.journal a) p.passes.fresh

-- a delivery from elsewhere, which leaves the sources as they are
module _ {W S C : Type 0} (source : Ghosts S C) (seating : Seating W C) (over : RootId → Option (Content C) → Type 0) (items items' : List (Item W)) (slots : List (Slot S)) (owners : ℕ)
    (passes : (root : RootId) (told : Option (Content C)) → over root told → Passes (seats seating root told items) [] (seats seating root told items')) where
  nothing_added : (root : RootId) (added : List JournalEntry) → Adds source root added slots slots → added ≡ []
  nothing_added root added a = noted_is source root added [] slots slots (λ before after there now. let same : after ≡ before = cc in rw same (grown_nothing (source.journal before.source))) a
    where
      grown_nothing : (journal : Option (List JournalEntry)) → journal ≡ grown journal []
      grown_nothing None = refl
      grown_nothing (Some journal) = ap (λ z. Some z) (sym (append-nil journal))

  pub brings_seats : KeepsSeats over seating (live_with items slots owners) (live_with items' slots owners)
  brings_seats root told o = (passes root told o).from

  pub brings_none : SpendsSeats over source seating (live_with items slots owners) (live_with items' slots owners)
  brings_none root told added o a = rw (nothing_added root added a) (passes root told o).spent

  pub brings_fresh : KeepsFresh over source seating (live_with items slots owners) (live_with items' slots owners)
  brings_fresh root told added o a = rw (nothing_added root added a) (passes root told o).fresh

module _ {W S C : Type 0} (tells : Type 0) (source : Ghosts S C) (seating : Seating W C) (gives_such : BatchParts → Bool) (old new : Live W S) where
  pub takes_seats : (answer : Progress) → ((root : RootId) (told : Option (Content C)) → IsTold tells source old.slots new.slots root told → Passed source seating gives_such root told (batches_of answer) old new)
      → AllByRecursion (TakesSeat (IsTold tells source old.slots new.slots) seating gives_such old) (batches_of answer)
  takes_seats (progress.Batch batch) passed = (record { seat = λ told o. ((passed batch.root told o).gives.0).0 refl; such = ((passed batch.root None tt).gives.0).1 }, tt)
  takes_seats (progress.RootDone root) passed = tt
  takes_seats progress.Waiting passed = tt
  takes_seats progress.Idle passed = tt

pub none_lacking : {C : Type 0} (content : Content C) (targets : List IoTarget) → AllByRecursion (λ target. has_target content target ≡ true) targets → count_by (lacks content) targets ≡ 0
none_lacking content [] a = refl
none_lacking content (x ∷ xs) a =
    let h = count_cons (lacks content) x xs in
    let t = none_lacking content xs a.1 in
    let no : one_if (lacks content x) ≡ 0 = ap (λ b. one_if (not b)) a.0 in
    omega (arith, h, t, no)

pub surely_stands : {W S C : Type 0} (source : Ghosts S C) (seating : Seating W C) (gives_such : BatchParts → Bool) (batches : List Batch) (old new : Live W S) → ((root : RootId) → Passed source seating gives_such root None batches old new)
    → SurelyStands source seating old new.slots
surely_stands source seating gives_such batches old new passed root before after content there now sure is all =
    (passed root).stands before after content there now sure is (none_lacking content (targets_of (seats seating root None old.items)) all)
