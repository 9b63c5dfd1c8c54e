-- Seats and journals, from one call to a later one.
use Rattle.std.proofs.Common.{◌≡◌, ◌∙◌, sym, ap, subst, refl, Bool, true, false, List, [], ◌∷◌, ◌++◌, inl, inr, ⊎_elim}
use Rattle.std.specs.Prelude.{None, Some}
use Rattle.std.specs.List.{AllByRecursion, list_any}
use Rattle.vortex_array.specs.Batch.{BatchParts}
use Rattle.vortex_io.specs.Source.{has_target}
use Rattle.vortex_io.specs.declared.request.IoTarget.{IoTarget}
use Rattle.vortex_io.specs.declared.request.JournalEntry.{JournalEntry}
use Rattle.vortex_io.specs.declared.request.JournalEntry.TheVariants.{Submitted, Waited}
use Rattle.vortex_io.specs.declared.source.IoSource.{Ghosts}
use Rattle.vortex_scan.specs.RunState.{Live}
use Rattle.vortex_scan.specs.Plans.{IsSpent}
use Rattle.vortex_scan.specs.Seats.{Adds, IsFetched, IsLess, IsOfSeat, Seat, Seating, SomeByRecursion, SurelyStands, entry_targets, fetched_in, is_wait, seats, targets_of}
use Rattle.vortex_scan.specs.Sources.{KeepsEach}
use Rattle.vortex_scan.specs.declared.item.Slot.{Slot}
use Rattle.vortex_scan_types.specs.declared.batch.Batch.{Batch}
use Rattle.vortex_scan_types.specs.declared.place.RootId.{RootId}
use Rattle.vortex_scan.proofs.Driven.{append_twice}
use Rattle.vortex_scan.proofs.Keeping.{slot_after, slots_at}
use Rattle.vortex_scan.proofs.Noting.{same_adds_nothing}
use Rattle.vortex_scan.proofs.Passing.{from_on, less_on, less_same, more_fetched, more_has, some_before, some_behind, some_of, some_weaker, spent_on, spent_same, stay_less}
use Rattle.vortex_table_scan.specs.Journals.{before_wait}
use Rattle.vortex_table_scan.specs.Rounds.{IsEarly, KeepsPlaces, LeavesPlaces}

-- Lists.

pub each_more : {X : Type 0} (P Q : X → Type 0) (xs : List X) → ((x : X) → P x → Q x) → AllByRecursion P xs → AllByRecursion Q xs
each_more P Q [] f all = tt
each_more P Q (x ∷ xs) f all = (f x all.0, each_more P Q xs f all.1)

pub each_join : {X : Type 0} (P : X → Type 0) (xs ys : List X) → AllByRecursion P xs → AllByRecursion P ys → AllByRecursion P (xs ++ ys)
each_join P [] ys p q = q
each_join P (x ∷ xs) ys p q = (p.0, each_join P xs ys p.1 q)

-- what is appended to a list is known from both
rest_same : {X : Type 0} (xs ys zs : List X) → xs ++ ys ≡ xs ++ zs → ys ≡ zs
rest_same [] ys zs e = e
rest_same (x ∷ xs) ys zs e = rest_same xs ys zs (let tails = e in cc)

-- Journals.

fetched_join : (f h : List JournalEntry) → fetched_in (f ++ h) ≡ fetched_in f ++ fetched_in h
fetched_join [] h = refl
fetched_join (entry ∷ f) h = ap (λ rest. entry_targets entry ++ rest) (fetched_join f h) ∙ sym (append_twice (entry_targets entry) (fetched_in f) (fetched_in h))

-- without a wait all entries stand before the first
pub no_wait : (f : List JournalEntry) → list_any is_wait f ≡ false → before_wait f ≡ f
no_wait [] e = refl
no_wait (Submitted owner request ∷ f) e = ap (λ rest. Submitted owner request ∷ rest) (no_wait f e)
no_wait (Waited ∷ f) e = absurd (cc)

-- and those of a later call before its own first stand before it
later_wait : (f h : List JournalEntry) → list_any is_wait f ≡ false → before_wait (f ++ h) ≡ f ++ before_wait h
later_wait [] h e = refl
later_wait (Submitted owner request ∷ f) h e = ap (λ rest. Submitted owner request ∷ rest) (later_wait f h e)
later_wait (Waited ∷ f) h e = absurd (cc)

any_join : (f h : List JournalEntry) → list_any is_wait f ≡ false → list_any is_wait (f ++ h) ≡ list_any is_wait h
any_join [] h e = refl
any_join (Submitted owner request ∷ f) h e = any_join f h e
any_join (Waited ∷ f) h e = absurd (cc)

-- what was fetched before the first wait was so whatever is added later
kept_wait : (f h : List JournalEntry) → (more : List IoTarget) × (fetched_in (before_wait (f ++ h)) ≡ fetched_in (before_wait f) ++ more)
kept_wait [] h = (fetched_in (before_wait h), refl)
kept_wait (Submitted owner request ∷ f) h =
    let rest = kept_wait f h in
    (rest.0, ap (λ list. entry_targets (Submitted owner request) ++ list) rest.1 ∙ sym (append_twice (entry_targets (Submitted owner request)) (fetched_in (before_wait f)) rest.0))
kept_wait (Waited ∷ f) h = ([], refl)

fetched_before : (targets fetches others : List IoTarget) → IsFetched targets fetches → IsFetched targets (fetches ++ others)
fetched_before targets fetches others f = some_weaker (λ x. SomeByRecursion (λ fetch. fetch ≡ x) fetches) (λ x. SomeByRecursion (λ fetch. fetch ≡ x) (fetches ++ others)) targets (λ x h. some_before (λ fetch. fetch ≡ x) fetches others h) f

fetched_behind : (targets fetches others : List IoTarget) → IsFetched targets others → IsFetched targets (fetches ++ others)
fetched_behind targets fetches others f = some_weaker (λ x. SomeByRecursion (λ fetch. fetch ≡ x) others) (λ x. SomeByRecursion (λ fetch. fetch ≡ x) (fetches ++ others)) targets (λ x h. some_behind (λ fetch. fetch ≡ x) fetches others h) f

-- what is added over two calls is what each adds
pub record AddsBoth {S C : Type 0} (source : Ghosts S C) (root : RootId) (added : List JournalEntry) (a b d : List (Slot S)) : Type 0 where
  pub first : List JournalEntry
  pub then : List JournalEntry
  pub both : added ≡ first ++ then
  pub adds_first : Adds source root first a b
  pub adds_then : Adds source root then b d

pub adds_both : {S C : Type 0} (source : Ghosts S C) (root : RootId) (added : List JournalEntry) (a b d : List (Slot S)) → KeepsEach source a b → KeepsEach source b d → Adds source root added a d → AddsBoth source root added a b d
adds_both source root added a b d k l x =
    let mid = slot_after source a b root.0 x.before k x.there in
    let one = slots_at source a b root.0 x.before mid.0 k x.there mid.1 in
    let two = slots_at source b d root.0 mid.0 x.after l mid.1 x.now in
    let f = one.keeps.added in
    let h = two.keeps.added in
    let at_mid : source.journal mid.0.source ≡ Some (x.journal ++ f) = let j = one.keeps.journal in let t = x.told in rw t at j in
    let at_end : source.journal x.after.source ≡ Some ((x.journal ++ f) ++ h) = let j = two.keeps.journal in rw at_mid at j in
    let grew = x.grew in
    let same : x.journal ++ (f ++ h) ≡ x.journal ++ added = sym (append_twice x.journal f h) ∙ (cc) in
    record {
      first = f;
      then = h;
      both = sym (rest_same x.journal (f ++ h) added same);
      adds_first = record { before = x.before; there = x.there; journal = x.journal; told = x.told; after = mid.0; now = mid.1; grew = at_mid };
      adds_then = record { before = mid.0; there = mid.1; journal = x.journal ++ f; told = at_mid; after = x.after; now = x.now; grew = at_end };
    }

-- Seats.

each_split : {X : Type 0} (P : X → Type 0) (xs ys : List X) → AllByRecursion P (xs ++ ys) → AllByRecursion P xs × AllByRecursion P ys
each_split P [] ys all = (tt, all)
each_split P (x ∷ xs) ys all = let rest = each_split P xs ys all.1 in ((all.0, rest.0), rest.1)

-- what holds of all targets holds of fewer
fewer_each : (P : IoTarget → Type 0) (more fewer : List IoTarget) → IsSpent more [] fewer → AllByRecursion P more → AllByRecursion P fewer
fewer_each P more fewer spent all = walk fewer (λ target some. some)
  where
    walk : (part : List IoTarget) → ((target : IoTarget) → SomeByRecursion (λ it. it ≡ target) part → SomeByRecursion (λ it. it ≡ target) fewer) → AllByRecursion P part
    walk [] among = tt
    walk (target ∷ part) among =
        let found = some_of (λ it. it ≡ target) P more all (more_has more fewer target spent (among target (inl refl))) in
        (subst P found.1 found.2, walk part (λ other some. among other (inr some)))

-- and what holds of all targets of seats, of those of each later one
later_each : (P : IoTarget → Type 0) (b : List Seat) (seat : Seat) → SomeByRecursion (λ was. IsLess was seat) b → AllByRecursion P (targets_of b) → AllByRecursion P seat.targets
later_each P [] seat some all = absurd some
later_each P (was ∷ b) seat some all =
    let parts = each_split P was.targets (targets_of b) all in
    ⊎_elim (λ (less : IsLess was seat). fewer_each P was.targets seat.targets less.targets parts.0) (λ rest. later_each P b seat rest parts.1) some

kept_each : (P : IoTarget → Type 0) (b d : List Seat) → AllByRecursion (λ seat. SomeByRecursion (λ was. IsLess was seat) b) d → AllByRecursion P (targets_of b) → AllByRecursion P (targets_of d)
kept_each P b [] kept all = tt
kept_each P b (seat ∷ d) kept all = each_join P seat.targets (targets_of d) (later_each P b seat kept.0 all) (kept_each P b d kept.1 all)

early_same : (list : List Seat) → AllByRecursion (λ seat. SomeByRecursion (λ was. IsLess was seat) list) list → AllByRecursion (IsEarly list []) list
early_same list all = walk list (λ seat some. some)
  where
    walk : (part : List Seat) → ((seat : Seat) → SomeByRecursion (λ it. it ≡ seat) part → SomeByRecursion (λ it. it ≡ seat) list) → AllByRecursion (IsEarly list []) part
    walk [] among = tt
    walk (seat ∷ part) among = (
      (λ fresh. inl (refl, some_weaker (λ it. it ≡ seat) (λ it. IsLess seat it × (it.fresh ≡ true)) list (λ it e. rw e (less_same seat, fresh)) (among seat (inl refl)))),
      walk part (λ other some. among other (inr some)),
    )

early_then : (b d : List Seat) (f h : List JournalEntry) (seat : Seat) → AllByRecursion (IsEarly d h) b → IsEarly b f seat → IsEarly d (f ++ h) seat
early_then b d f h seat all was fresh =
    ⊎_elim
    (λ stays.
    let found = some_of (λ later. IsLess seat later × (later.fresh ≡ true)) (IsEarly d h) b all stays.1 in
    let less : IsLess seat found.0 = found.1.0 in
    ⊎_elim
    (λ still. inl (
      any_join f h stays.0 ∙ still.0,
      some_weaker (λ later. IsLess found.0 later × (later.fresh ≡ true)) (λ later. IsLess seat later × (later.fresh ≡ true)) d (λ later l. (less_on seat found.0 later less l.0, l.1)) still.1,
    ))
    (λ fetched. inr (
    let where_ : fetched_in (before_wait (f ++ h)) ≡ fetched_in f ++ fetched_in (before_wait h) = ap fetched_in (later_wait f h stays.0) ∙ fetched_join f (before_wait h) in
    subst (λ list. IsFetched seat.over_none list) (sym where_)
    (fetched_behind seat.over_none (fetched_in f) (fetched_in (before_wait h)) (more_fetched seat.over_none found.0.over_none (fetched_in (before_wait h)) less.over_none fetched))))
    (found.2 found.1.1))
    (λ fetched. inr (
    let more = kept_wait f h in
    subst (λ list. IsFetched seat.over_none list) (sym more.1) (fetched_before seat.over_none (fetched_in (before_wait f)) more.0 fetched)))
    (was fresh)

module _ {W S C : Type 0} (source : Ghosts S C) (seating : Seating W C) (gives_such : BatchParts → Bool) where
  same_surely : (live : Live W S) → SurelyStands source seating live live.slots
  same_surely live root before after content there now sure is all = let same : after ≡ before = (cc) in ap (λ (slot : Slot S). source.faults slot.source) same

  -- a source that stands in a call, and in a later one
  surely_then : (a b d : Live W S) → KeepsEach source a.slots b.slots → ((root : RootId) → AllByRecursion (λ seat. SomeByRecursion (λ was. IsLess was seat) (seats seating root None a.items)) (seats seating root None b.items))
      → SurelyStands source seating a b.slots → SurelyStands source seating b d.slots → SurelyStands source seating a d.slots
  surely_then a b d k kept one two root before after content there now sure is all =
      let mid = slot_after source a.slots b.slots root.0 before k there in
      let keeps = slots_at source a.slots b.slots root.0 before mid.0 k there mid.1 in
      two root mid.0 after content mid.1 now (keeps.keeps.sure ∙ sure) (keeps.keeps.content ∙ is)
      (kept_each (λ target. has_target content target ≡ true) (seats seating root None a.items) (seats seating root None b.items) (kept root) all)
      ∙ one root before mid.0 content there mid.1 sure is all

  pub places_none : (live : Live W S) → KeepsPlaces source seating gives_such [] live live
  places_none live = record {
    kept = λ root. stay_less (seats seating root None live.items);
    placed = tt;
    spent = λ root added a.
        let none = same_adds_nothing source live.slots root added a in
        subst (λ list. IsSpent (targets_of (seats seating root None live.items)) (fetched_in list) (targets_of (seats seating root None live.items))) (sym none) (spent_same (targets_of (seats seating root None live.items)));
    early = λ root added a.
        let none = same_adds_nothing source live.slots root added a in
        subst (λ list. AllByRecursion (IsEarly (seats seating root None live.items) list) (seats seating root None live.items)) (sym none) (early_same (seats seating root None live.items) (stay_less (seats seating root None live.items)));
    sure = same_surely live;
  }

  -- a batch has a seat of an earlier run
  earlier_seat : (a b : Live W S) (batch : Batch) → ((root : RootId) → AllByRecursion (λ seat. SomeByRecursion (λ was. IsLess was seat) (seats seating root None a.items)) (seats seating root None b.items))
      → SomeByRecursion (IsOfSeat batch) (seats seating batch.root None b.items) → SomeByRecursion (IsOfSeat batch) (seats seating batch.root None a.items)
  earlier_seat a b batch kept some =
      let found = some_of (IsOfSeat batch) (λ seat. SomeByRecursion (λ was. IsLess was seat) (seats seating batch.root None a.items)) (seats seating batch.root None b.items) (kept batch.root) some in
      some_weaker (λ was. IsLess was found.0) (IsOfSeat batch) (seats seating batch.root None a.items) (λ was less. (found.1.0 ∙ less.place, found.1.1 ∙ less.scope)) found.2

  pub places_then : (first then : List Batch) (a b d : Live W S) → KeepsEach source a.slots b.slots → KeepsEach source b.slots d.slots → KeepsPlaces source seating gives_such first a b → KeepsPlaces source seating gives_such then b d
      → KeepsPlaces source seating gives_such (first ++ then) a d
  places_then first then a b d ka kb k l = record {
    kept = λ root. from_on (seats seating root None a.items) (seats seating root None b.items) (seats seating root None d.items) (k.kept root) (l.kept root);
    placed = each_join (λ (batch : Batch). SomeByRecursion (IsOfSeat batch) (seats seating batch.root None a.items) × (gives_such batch.array ≡ true)) first then k.placed
        (each_more (λ (batch : Batch). SomeByRecursion (IsOfSeat batch) (seats seating batch.root None b.items) × (gives_such batch.array ≡ true)) (λ (batch : Batch). SomeByRecursion (IsOfSeat batch) (seats seating batch.root None a.items) × (gives_such batch.array ≡ true)) then
        (λ batch p. (earlier_seat a b batch k.kept p.0, p.1)) l.placed);
    spent = λ root added adds.
        let both = adds_both source root added a.slots b.slots d.slots ka kb adds in
        let one = k.spent root both.first both.adds_first in
        let two = l.spent root both.then both.adds_then in
        let e : fetched_in added ≡ fetched_in both.first ++ fetched_in both.then = ap fetched_in both.both ∙ fetched_join both.first both.then in
        subst (λ list. IsSpent (targets_of (seats seating root None a.items)) list (targets_of (seats seating root None d.items))) (sym e)
        (spent_on (targets_of (seats seating root None a.items)) (targets_of (seats seating root None b.items)) (targets_of (seats seating root None d.items)) (fetched_in both.first) (fetched_in both.then) one two);
    early = λ root added adds.
        let both = adds_both source root added a.slots b.slots d.slots ka kb adds in
        subst (λ list. AllByRecursion (IsEarly (seats seating root None d.items) list) (seats seating root None a.items)) (sym both.both)
        (each_more (IsEarly (seats seating root None b.items) both.first) (IsEarly (seats seating root None d.items) (both.first ++ both.then)) (seats seating root None a.items)
        (λ seat was. early_then (seats seating root None b.items) (seats seating root None d.items) both.first both.then seat (l.early root both.then both.adds_then) was) (k.early root both.first both.adds_first));
    sure = surely_then a b d ka k.kept k.sure l.sure;
  }

  -- a fresh seat that is fetched for in a later refused call, or was already
  early_left : (b : List Seat) (f h : List JournalEntry) (seat : Seat) → list_any is_wait (f ++ h) ≡ true
      → (list_any is_wait h ≡ true → AllByRecursion (λ later. later.fresh ≡ true → IsFetched later.over_none (fetched_in (before_wait h))) b) → IsEarly b f seat → seat.fresh ≡ true
      → IsFetched seat.over_none (fetched_in (before_wait (f ++ h)))
  early_left b f h seat waits left was fresh =
      ⊎_elim
      (λ stays.
      let here : list_any is_wait h ≡ true = sym (any_join f h stays.0) ∙ waits in
      let found = some_of (λ later. IsLess seat later × (later.fresh ≡ true)) (λ later. later.fresh ≡ true → IsFetched later.over_none (fetched_in (before_wait h))) b (left here) stays.1 in
      let where_ : fetched_in (before_wait (f ++ h)) ≡ fetched_in f ++ fetched_in (before_wait h) = ap fetched_in (later_wait f h stays.0) ∙ fetched_join f (before_wait h) in
      subst (λ list. IsFetched seat.over_none list) (sym where_)
      (fetched_behind seat.over_none (fetched_in f) (fetched_in (before_wait h)) (more_fetched seat.over_none found.0.over_none (fetched_in (before_wait h)) found.1.0.over_none (found.2 found.1.1))))
      (λ fetched.
      let more = kept_wait f h in
      subst (λ list. IsFetched seat.over_none list) (sym more.1) (fetched_before seat.over_none (fetched_in (before_wait f)) more.0 fetched))
      (was fresh)

  pub leaves_then : (first : List Batch) (a b d : Live W S) → KeepsEach source a.slots b.slots → KeepsEach source b.slots d.slots → KeepsPlaces source seating gives_such first a b → LeavesPlaces source seating b d
      → LeavesPlaces source seating a d
  leaves_then first a b d ka kb k l = record {
    spent = λ root added adds.
        let both = adds_both source root added a.slots b.slots d.slots ka kb adds in
        let e : fetched_in added ≡ fetched_in both.first ++ fetched_in both.then = ap fetched_in both.both ∙ fetched_join both.first both.then in
        subst (λ list. IsSpent (targets_of (seats seating root None a.items)) list []) (sym e)
        (spent_on (targets_of (seats seating root None a.items)) (targets_of (seats seating root None b.items)) [] (fetched_in both.first) (fetched_in both.then) (k.spent root both.first both.adds_first) (l.spent root both.then both.adds_then));
    early = λ root added adds waits.
        let both = adds_both source root added a.slots b.slots d.slots ka kb adds in
        let e = both.both in
        let waits' : list_any is_wait (both.first ++ both.then) ≡ true = ap (λ list. list_any is_wait list) (sym e) ∙ waits in
        subst (λ list. AllByRecursion (λ seat. seat.fresh ≡ true → IsFetched seat.over_none (fetched_in (before_wait list))) (seats seating root None a.items)) (sym e)
        (each_more (IsEarly (seats seating root None b.items) both.first) (λ seat. seat.fresh ≡ true → IsFetched seat.over_none (fetched_in (before_wait (both.first ++ both.then)))) (seats seating root None a.items)
        (λ seat was. early_left (seats seating root None b.items) both.first both.then seat waits' (l.early root both.then both.adds_then) was) (k.early root both.first both.adds_first));
    sure = surely_then a b d ka k.kept k.sure l.sure;
  }

  append_none : {X : Type 0} (xs : List X) → xs ++ [] ≡ xs
  append_none [] = refl
  append_none (x ∷ xs) = ap (λ rest. x ∷ rest) (append_none xs)

  -- a call that gives nothing
  pub places_more : (first : List Batch) (a b d : Live W S) → KeepsEach source a.slots b.slots → KeepsEach source b.slots d.slots → KeepsPlaces source seating gives_such first a b → KeepsPlaces source seating gives_such [] b d
      → KeepsPlaces source seating gives_such first a d
  places_more first a b d ka kb k l = subst (λ list. KeepsPlaces source seating gives_such list a d) (append_none first) (places_then first [] a b d ka kb k l)
