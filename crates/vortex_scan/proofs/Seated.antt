-- Seats, step by step and over whole calls.
use Rattle.std.proofs.Common.{◌≡◌, ◌≢◌, ℕ, zero, suc, ◌+◌, List, [], ◌∷◌, ◌++◌, refl, sym, ◌∙◌, ap, subst, Bool, true, false, cond, eqb, not, ◌&&◌, Option, None, Some, Ok, arith, filter, map, append-nil, flat_map}
use Rattle.std.specs.Prelude.{slice_get, count_by}
use Rattle.std.specs.List.{AllByRecursion, list_any, remove}
use Rattle.std.proofs.Math.ListN.{set}
use Rattle.std.proofs.lemmas.Bool.{eqb-true}
use Rattle.std.proofs.lemmas.List.Concat.{flat_map-append}
use Rattle.vortex_array.specs.Batch.{BatchParts}
use Rattle.vortex_io.specs.Source.{Content, grown, has_target, is_fetch, is_outside, submissions}
use Rattle.vortex_io.specs.declared.ids.IoOwnerId.{IoOwnerId}
use Rattle.vortex_io.specs.declared.request.Completion.{Completion}
use Rattle.vortex_io.specs.declared.request.IoRequest.{IoRequest}
use Rattle.vortex_io.specs.declared.request.IoTarget.{IoTarget}
use Rattle.vortex_io.specs.declared.request.JournalEntry.{JournalEntry}
use Rattle.vortex_io.specs.declared.source.IoSource.{Ghosts}
use Rattle.vortex_scan_types.specs.declared.batch.Batch.{Batch}
use Rattle.vortex_scan_types.specs.declared.place.RootId.{RootId}
use Rattle.vortex_scan.specs.declared.errors.Visited.{Visited}
use Rattle.vortex_scan.specs.declared.errors.Visited.TheVariants as visited
use Rattle.vortex_scan.specs.declared.item.Item.{Item}
use Rattle.vortex_scan.specs.declared.item.Slot.{Slot}
use Rattle.vortex_scan.specs.declared.state.Output.{Output}
use Rattle.vortex_scan.specs.declared.state.Output.TheVariants as output
use Rattle.vortex_scan.specs.declared.state.State.{State}
use Rattle.vortex_scan.specs.declared.state.State.TheVariants as state
use Rattle.vortex_scan.specs.declared.worker.Worker.{Ghosts as Works}
use Rattle.vortex_scan.specs.Plans.{DeliversAsTold, fetched}
use Rattle.vortex_scan.specs.RunState.{Live, has_root, is_of_root, put}
use Rattle.vortex_scan.specs.Seats.{ArePlanned, IsLess, IsOfSeat, ItemIsPlanned, Seat, Seating, SomeByRecursion, entry_targets, fetched_in, seats, seats_at, targets_of}
use Rattle.vortex_scan.specs.Sources.{KeepsEach}
use Rattle.vortex_scan.specs.Steps.{Delivers, Follows, Settles, Visits, child_of, computed, handed, published}
use Rattle.vortex_scan.proofs.Chains.{came_batches}
use Rattle.vortex_scan.proofs.Journals.{AskedAt, follow_asks, noted_at, settle_asks}
use Rattle.vortex_scan.proofs.Keeping.{slot_after, slots_at}
use Rattle.vortex_scan.proofs.Kept.{grown_twice}
use Rattle.vortex_scan.proofs.Passing.{Passes, passes_on, passes_removed, passes_same, passes_set, passes_split, some_before, some_behind, some_of, some_weaker}
use Rattle.vortex_scan.proofs.Places.{each_at, each_weaker, get_set, remove_set, set_set}
use Rattle.vortex_scan.proofs.Planned.{some_there}
use Rattle.vortex_scan.proofs.Planning.{AreOld, OutputPasses, WorkPlans}
use Rattle.vortex_scan.proofs.Rooted.{eqb_same}
use Rattle.vortex_scan.proofs.Tallies.{count_cons, one_if}

-- What is fetched, as it is noted.

-- whether a content lacks a target
abbrev pub lacks : {C : Type 0} → Content C → IoTarget → Bool
lacks content target = not (has_target content target)

fetched_more : (request : IoRequest) (batch : List IoRequest) → fetched (request ∷ []) ++ fetched batch ≡ fetched (request ∷ batch)
fetched_more request batch =
    elim (is_fetch request) as (λ b. map (λ (r : IoRequest). r.target) (cond b (request ∷ []) []) ++ fetched batch ≡ map (λ (r : IoRequest). r.target) (cond b (request ∷ filter is_fetch batch) (filter is_fetch batch)))
    [ true ↦ refl | false ↦ refl ]

pub fetched_noted : (owner : IoOwnerId) (batch : List IoRequest) → fetched_in (submissions owner batch) ≡ fetched batch
fetched_noted owner [] = refl
fetched_noted owner (request ∷ batch) = ap (λ rest. fetched (request ∷ []) ++ rest) (fetched_noted owner batch) ∙ fetched_more request batch

none_lacks : {C : Type 0} (content : Content C) (request : IoRequest) (batch : List IoRequest) → count_by (lacks content) (fetched (request ∷ batch)) ≡ 0 → (is_outside content request ≡ false) × (count_by (lacks content) (fetched batch) ≡ 0)
none_lacks content request batch e =
    elim (is_fetch request) as (λ b. count_by (lacks content) (map (λ (r : IoRequest). r.target) (cond b (request ∷ filter is_fetch batch) (filter is_fetch batch))) ≡ 0 → ((b && lacks content request.target) ≡ false) × (count_by (lacks content) (fetched batch) ≡ 0)) [
      | true ↦ λ none.
          let h = count_cons (lacks content) request.target (fetched batch) in
          let zero' : one_if (lacks content request.target) ≡ 0 = omega (arith, h, none) in
          (is_none (lacks content request.target) zero', omega (arith, h, none))
      | false ↦ λ none. (refl, none)
    ] e
  where
    is_none : (b : Bool) → one_if b ≡ 0 → b ≡ false
    is_none true z = absurd (cc)
    is_none false z = refl

pub none_outside : {C : Type 0} (content : Content C) (batch : List IoRequest) → count_by (lacks content) (fetched batch) ≡ 0 → list_any (is_outside content) batch ≡ false
none_outside content [] e = refl
none_outside content (request ∷ batch) e =
    let h = none_lacks content request batch e in
    let rest = none_outside content batch h.1 in
    rw (h.0, rest) refl

-- What passed of a root's seats, over a content or over none: what its source noted, and what became of the seats.
pub record Passed {W S C : Type 0} (source : Ghosts S C) (seating : Seating W C) (gives_such : BatchParts → Bool) (root : RootId) (told : Option (Content C)) (batches : List Batch) (old new : Live W S) : Type 0 where
  pub noted : List JournalEntry
  pub journal : (before after : Slot S) → slice_get old.slots root.0 ≡ Some before → slice_get new.slots root.0 ≡ Some after → source.journal after.source ≡ grown (source.journal before.source) noted
  pub passes : Passes (seats seating root told old.items) (fetched_in noted) (seats seating root told new.items)
  pub stands : (before after : Slot S) (content : Content C) → slice_get old.slots root.0 ≡ Some before → slice_get new.slots root.0 ≡ Some after → source.sure before.source ≡ true → source.content before.source ≡ Some content
      → count_by (lacks content) (targets_of (seats seating root told old.items)) ≡ 0 → source.faults after.source ≡ source.faults before.source
  pub gives : AllByRecursion (λ (batch : Batch). (batch.root ≡ root → SomeByRecursion (IsOfSeat batch) (seats seating root told old.items)) × (gives_such batch.array ≡ true)) batches

module _ {W S C : Type 0} (source : Ghosts S C) (seating : Seating W C) (gives_such : BatchParts → Bool) (root : RootId) (told : Option (Content C)) where
  -- what was asked of the source, and what became of the seats
  pub passed_by : (batches : List Batch) (old new : Live W S) (noted : List JournalEntry) (batch : List IoRequest) → AskedAt source root noted batch old.slots new.slots → fetched_in noted ≡ fetched batch
      → Passes (seats seating root told old.items) (fetched batch) (seats seating root told new.items)
      → AllByRecursion (λ (batch : Batch). (batch.root ≡ root → SomeByRecursion (IsOfSeat batch) (seats seating root told old.items)) × (gives_such batch.array ≡ true)) batches → Passed source seating gives_such root told batches old new
  passed_by batches old new noted batch asked same passes gives = record {
    noted = noted;
    journal = λ before after there now. (asked before after there now).journal;
    passes = subst (λ f. Passes (seats seating root told old.items) f (seats seating root told new.items)) (sym same) passes;
    stands = λ before after content there now sure is none.
        let h = passes.spent (lacks content) in
        (asked before after there now).stands content sure is (none_outside content batch (omega (arith, h, none)));
    gives = gives;
  }

  pub passed_same : (live : Live W S) → Passed source seating gives_such root told [] live live
  passed_same live = record {
    noted = [];
    journal = λ before after there now. let same : after ≡ before = cc in rw same (keeps_none before.source);
    passes = passes_same (seats seating root told live.items);
    stands = λ before after content there now sure is none. let same : after ≡ before = cc in ap (λ (s : Slot S). source.faults s.source) same;
    gives = tt;
  }
    where
      keeps_none : (it : S) → source.journal it ≡ grown (source.journal it) []
      keeps_none it = grown_nothing (source.journal it)
        where
          grown_nothing : (journal : Option (List JournalEntry)) → journal ≡ grown journal []
          grown_nothing None = refl
          grown_nothing (Some journal) = ap (λ z. Some z) (sym (append-nil journal))

  pub passed_on : (batches : List Batch) (a b d : Live W S) → KeepsEach source a.slots b.slots → KeepsEach source b.slots d.slots → Passed source seating gives_such root told [] a b → Passed source seating gives_such root told batches b d
      → Passed source seating gives_such root told batches a d
  passed_on batches a b d k l first then = record {
    noted = first.noted ++ then.noted;
    journal = λ before after there now.
        let mid = slot_after source a.slots b.slots root.0 before k there in
        then.journal mid.0 after mid.1 now ∙ ap (λ t. grown t then.noted) (first.journal before mid.0 there mid.1) ∙ grown_twice (source.journal before.source) first.noted then.noted;
    passes = subst (λ f. Passes (seats seating root told a.items) f (seats seating root told d.items)) (sym (flat_map-append entry_targets first.noted then.noted))
        (passes_on (seats seating root told a.items) (seats seating root told b.items) (seats seating root told d.items) (fetched_in first.noted) (fetched_in then.noted) first.passes then.passes);
    stands = λ before after content there now sure is none.
        let mid = slot_after source a.slots b.slots root.0 before k there in
        let one = slots_at source a.slots b.slots root.0 before mid.0 k there mid.1 in
        let h = first.passes.spent (lacks content) in
        then.stands mid.0 after content mid.1 now (one.keeps.sure ∙ sure) (one.keeps.content ∙ is) (omega (arith, h, none)) ∙ first.stands before mid.0 content there mid.1 sure is none;
    gives = each_weaker (λ (batch : Batch). (batch.root ≡ root → SomeByRecursion (IsOfSeat batch) (seats seating root told b.items)) × (gives_such batch.array ≡ true))
        (λ (batch : Batch). (batch.root ≡ root → SomeByRecursion (IsOfSeat batch) (seats seating root told a.items)) × (gives_such batch.array ≡ true)) batches
        (λ batch h. (
          (λ of.
              let s = some_of (IsOfSeat batch) (λ seat. SomeByRecursion (λ was. IsLess was seat) (seats seating root told a.items)) (seats seating root told b.items) first.passes.from (h.0 of) in
              some_weaker (λ was. IsLess was s.0) (IsOfSeat batch) (seats seating root told a.items) (λ was less. (s.1.0 ∙ less.place, s.1.1 ∙ less.scope)) s.2),
          h.1,
        )) then.gives;
  }

-- A visit.

no_batches : (b : Bool) (root : RootId) → came_batches (cond b visited.Went (visited.RootDone root)) ≡ []
no_batches true root = refl
no_batches false root = refl

some_flat : {X : Type 0} (g : X → List Seat) (P : Seat → Type 0) (xs : List X) (i : ℕ) (x : X) → slice_get xs i ≡ Some x → SomeByRecursion P (g x) → SomeByRecursion P (flat_map g xs)
some_flat g P [] i x there s = absurd (cc)
some_flat g P (z ∷ zs) zero x there s = let same : x ≡ z = cc in some_before P (g z) (flat_map g zs) (subst (λ y. SomeByRecursion P (g y)) same s)
some_flat g P (z ∷ zs) (suc i) x there s = some_behind P (g z) (flat_map g zs) (some_flat g P zs i x there s)

-- where items are the root's, their seats pass so; where not, they have none
pub passes_at : (b : Bool) (xs ys : List Seat) (batch : List IoRequest) → Passes xs (fetched batch) ys → Passes (cond b xs []) (fetched (cond b batch [])) (cond b ys [])
passes_at true xs ys batch p = p
passes_at false xs ys batch p = passes_same []

passes_of : (b : Bool) (xs ys : List Seat) → (b ≡ true → Passes xs [] ys) → Passes (cond b xs []) [] (cond b ys [])
passes_of true xs ys p = p refl
passes_of false xs ys p = passes_same []

old_at : (b : Bool) (xs : List Seat) → AreOld xs → AreOld (cond b xs [])
old_at true xs a = a
old_at false xs a = tt

parts_at : (b : Bool) (xs ys zs : List Seat) → xs ≡ ys ++ zs → cond b xs [] ≡ cond b ys [] ++ cond b zs []
parts_at true xs ys zs e = e
parts_at false xs ys zs e = refl

fetched_at : (b : Bool) (owner : IoOwnerId) (batch : List IoRequest) → fetched_in (cond b (submissions owner batch) []) ≡ fetched (cond b batch [])
fetched_at true owner batch = fetched_noted owner batch
fetched_at false owner batch = refl

root_is : (item root : RootId) → eqb item.0 root.0 ≡ true → item ≡ root
root_is item root e = let same : item.0 ≡ root.0 = eqb-true _ _ e in (λ i. record { 0 = same i })

module _ {W S C E V : Type 0} (works : Works W C E) (source : Ghosts S C) (means : C → V) (seating : Seating W C) (gives_such : BatchParts → Bool) (publishes : W → Type 0) (laws : WorkPlans means works seating gives_such publishes)
    (root : RootId) (told : Option (Content C)) where
  abbrev g : Item W → List Seat
  g item = seats_at seating root told item

  abbrev Moves : List Batch → Live W S → Live W S → Type 0
  Moves batches old new = Passed source seating gives_such root told batches old new

  abbrev Given : List (Item W) → List Batch → Type 0
  Given items batches = AllByRecursion (λ (batch : Batch). (batch.root ≡ root → SomeByRecursion (IsOfSeat batch) (seats seating root told items)) × (gives_such batch.array ≡ true)) batches

  given_none : (items : List (Item W)) (batches : List Batch) → batches ≡ [] → Given items batches
  given_none items batches none = rw none tt

  settle_none : (shown : State) (at : ℕ) (item : Item W) (old new : Live W S) (answer : Visited) → Settles source shown at item old new answer → came_batches answer ≡ []
  settle_none state.Done at item old new answer s = ap came_batches s.answers ∙ no_batches (has_root item.root (remove old.items at)) item.root
  settle_none state.NeedsCompute at item old new answer s = ap came_batches s.1
  settle_none state.Waiting at item old new answer s = ap came_batches s.2

  settle_passes : (shown : State) (at : ℕ) (item : Item W) (old new : Live W S) (answer : Visited) → works.state_is item.work ≡ shown → slice_get old.items at ≡ Some item → Settles source shown at item old new answer
      → Passes (flat_map g old.items) [] (flat_map g new.items)
  settle_passes state.Done at item old new answer shows there s =
      let none = old_at (is_of_root root item) (seating told item.path item.next item.scope item.work) (laws.acts told item.path item.next item.scope item.work (λ e. absurd (cc))) in
      rw s.now (passes_removed g old.items at item there none)
  settle_passes state.NeedsCompute at item old new answer shows there s = rw s.0 (passes_same (flat_map g old.items))
  settle_passes state.Waiting at item old new answer shows there s = rw s.1 (passes_set g old.items at item (record item { ready = false }) [] there (passes_same (g item)))

  settle_passed : (shown : State) (at : ℕ) (item : Item W) (old new : Live W S) (answer : Visited) → works.state_is item.work ≡ shown → slice_get old.items at ≡ Some item → Settles source shown at item old new answer
      → Moves (came_batches answer) old new
  settle_passed shown at item old new answer shows there s =
      passed_by source seating gives_such root told (came_batches answer) old new [] [] (settle_asks source shown at item old new answer root s) refl (settle_passes shown at item old new answer shows there s)
      (given_none old.items (came_batches answer) (settle_none shown at item old new answer s))

  follow_passed : (out : Output W) (at : ℕ) (item : Item W) (work : W) (old new : Live W S) (answer : Visited) → slice_get old.items at ≡ Some item
      → OutputPasses {E = E} seating gives_such told item.path item.next item.scope item.work (Ok out) work → Follows works source out at (computed item work) (put at (computed item work) old) new answer → Moves (came_batches answer) old new
  follow_passed output.Done at item work old new answer there o h =
      let now : Item W = computed item work in
      let none = old_at (is_of_root root item) (seating told item.path item.next item.scope item.work) o in
      let items : new.items ≡ remove old.items at = ap (λ (l : Live W S). l.items) h.now ∙ remove_set old.items at now in
      passed_by source seating gives_such root told (came_batches answer) old new [] [] (follow_asks source works output.Done at now (put at now old) new answer root h) refl
      (subst (λ (list : List (Item W)). Passes (flat_map g old.items) [] (flat_map g list)) (sym items) (passes_removed g old.items at item there none))
      (given_none old.items (came_batches answer) (ap came_batches h.answers ∙ no_batches (has_root now.root (remove (set old.items at now) at)) now.root))
  follow_passed output.Continue at item work old new answer there o h =
      let now : Item W = computed item work in
      passed_by source seating gives_such root told (came_batches answer) old new [] [] (follow_asks source works output.Continue at now (put at now old) new answer root h) refl
      (subst (λ (l : Live W S). Passes (flat_map g old.items) [] (flat_map g l.items)) (sym h.0)
      (passes_set g old.items at item now [] there (passes_of (is_of_root root item) (seating told item.path item.next item.scope item.work) (seating told item.path item.next item.scope work) (λ of. o))))
      (given_none old.items (came_batches answer) (ap came_batches h.1))
  follow_passed (output.NeedsIO batch) at item work old new answer there o h =
      let now : Item W = computed item work in
      let out : Item W = published now batch in
      let p = h.1 in
      let f = fetched (cond (is_of_root root item) batch []) in
      let items : h.0.items ≡ set old.items at out = ap (λ (l : Live W S). l.items) p.now ∙ set_set old.items at now out in
      let there' : slice_get h.0.items at ≡ Some out = rw items (get_set old.items at item out there) in
      let first : Passes (flat_map g old.items) f (flat_map g h.0.items) =
      subst (λ (list : List (Item W)). Passes (flat_map g old.items) f (flat_map g list)) (sym items)
      (passes_set g old.items at item out f there (passes_at (is_of_root root item) (seating told item.path item.next item.scope item.work) (seating told item.path item.next item.scope work) batch o)) in
      let then = settle_passes (works.state_is work) at out h.0 new answer refl there' h.2 in
      passed_by source seating gives_such root told (came_batches answer) old new (noted_at source root now (output.NeedsIO batch)) (cond (is_of_root root item) batch [])
      (follow_asks source works (output.NeedsIO batch) at now (put at now old) new answer root h) (fetched_at (is_of_root root item) item.owner batch)
      (subst (λ q. Passes (flat_map g old.items) q (flat_map g new.items)) (append-nil f) (passes_on (flat_map g old.items) (flat_map g h.0.items) (flat_map g new.items) f [] first then))
      (given_none old.items (came_batches answer) (settle_none (works.state_is work) at out h.0 new answer h.2))
  follow_passed (output.Child scope child) at item work old new answer there o h =
      let now : Item W = computed item work in
      let last : Item W = record now { next = item.next + 1 } in
      let p = h.0 in
      let one : Item W = child_of now old.next_owner scope child in
      let items : new.items ≡ set old.items at last ++ one ∷ [] = ap (λ (l : Live W S). l.items) p.now ∙ ap (λ list. list ++ one ∷ []) (set_set old.items at now last) in
      passed_by source seating gives_such root told (came_batches answer) old new [] [] (follow_asks source works (output.Child scope child) at now (put at now old) new answer root h) refl
      (subst (λ (list : List (Item W)). Passes (flat_map g old.items) [] (flat_map g list)) (sym items)
      (passes_split g old.items at item last one there
      (parts_at (is_of_root root item) (seating told item.path item.next item.scope item.work) (seating told (item.path ++ item.next ∷ []) 0 scope child) (seating told item.path (item.next + 1) item.scope work) o)))
      (given_none old.items (came_batches answer) (ap came_batches h.1))
  follow_passed (output.Batch array) at item work old new answer there o h =
      let now : Item W = computed item work in
      let batch : Batch = record { root = item.root; scope = item.scope; place = item.path; array = array } in
      let mine : batch.root ≡ root → SomeByRecursion (IsOfSeat batch) (seats seating root told old.items) = λ of.
      let yes : is_of_root root item ≡ true = rw of (eqb_same root.0) in
      some_flat g (IsOfSeat batch) old.items at item there (rw yes o.1) in
      passed_by source seating gives_such root told (came_batches answer) old new [] [] (follow_asks source works (output.Batch array) at now (put at now old) new answer root h) refl
      (subst (λ (l : Live W S). Passes (flat_map g old.items) [] (flat_map g l.items)) (sym h.1)
      (passes_set g old.items at item now [] there (passes_of (is_of_root root item) (seating told item.path item.next item.scope item.work) (seating told item.path item.next item.scope work) (λ of. o.0))))
      (subst (λ came. Given old.items (came_batches came)) (sym h.2) ((mine, o.2), tt))

  pub visit_passed : (shown : State) (at : ℕ) (item : Item W) (old new : Live W S) (answer : Visited) → works.state_is item.work ≡ shown → slice_get old.items at ≡ Some item → Visits works source shown at item old new answer
      → Moves (came_batches answer) old new
  visit_passed state.Done at item old new answer shows there h = settle_passed state.Done at item old new answer shows there h
  visit_passed state.Waiting at item old new answer shows there h = settle_passed state.Waiting at item old new answer shows there h
  visit_passed state.NeedsCompute at item old new answer shows there h =
      follow_passed h.0 at item h.1 old new answer there (laws.passes told item.path item.next item.scope item.work (Ok h.0) h.1 h.2.computes) h.3

  -- a delivery, where what comes to the root is as it is told
  pub delivers_passes : (asker : RootId) (completion : Completion C) (items items' : List (Item W)) → ArePlanned works.state_is publishes items → (d : Delivers works asker completion items items')
      → (asker ≡ root → DeliversAsTold means told (works.names d.item.work completion.request) completion.result) → Passes (flat_map g items) [] (flat_map g items')
  delivers_passes asker completion items items' planned d as_told =
      let mine = each_at (ItemIsPlanned works.state_is publishes) items d.at d.item planned d.there in
      let t = d.hands.taken in
      let some : d.item.asked ≢ [] = λ none. some_there t.before d.hands.entry t.behind (sym t.stood ∙ none) in
      subst (λ (list : List (Item W)). Passes (flat_map g items) [] (flat_map g list)) (sym d.now)
      (passes_set g items d.at d.item (handed works d.item d.left d.work) [] d.there
      (passes_of (is_of_root root d.item) (seating told d.item.path d.item.next d.item.scope d.item.work) (seating told d.item.path d.item.next d.item.scope d.work)
      (λ of. laws.delivers told d.item.path d.item.next d.item.scope d.item.work completion.request completion.result d.work (mine.asked some) d.hands.takes (as_told (sym d.of_root ∙ root_is d.item.root root of)))))
