-- Seats and journals over one call of a run.
use Rattle.std.proofs.Common.{◌≡◌, sym, ap, subst, refl, Bool, true, false, List, [], arith, inl, inr, ⊎_elim}
use Rattle.std.specs.Prelude.{◌==◌, ℕ, Option, None, count_by}
use Rattle.std.specs.List.{AllByRecursion}
use Rattle.vortex_array.specs.Batch.{BatchParts}
use Rattle.vortex_io.specs.Source.{Content}
use Rattle.vortex_io.specs.declared.request.JournalEntry.{JournalEntry}
use Rattle.vortex_io.specs.declared.source.IoSource.{Ghosts}
use Rattle.vortex_scan.specs.Plans.{IsSpent}
use Rattle.vortex_scan.specs.RunState.{Live}
use Rattle.vortex_scan.specs.Seats.{Adds, AddsNoWait, FaultsNoSure, IsFetched, IsOfSeat, KeepsFresh, KeepsSeats, NoneFresh, Seat, Seating, SomeByRecursion, SpendsAtMost, SpendsSeats, StaysFresh, SurelyStands, TakesSeat, WaitsOnce, fetched_in, seats, targets_of}
use Rattle.vortex_scan_types.specs.declared.batch.Batch.{Batch}
use Rattle.vortex_scan_types.specs.declared.place.RootId.{RootId}
use Rattle.vortex_table_scan.specs.Journals.{before_wait}
use Rattle.vortex_table_scan.specs.Rounds.{IsEarly, KeepsPlaces, LeavesPlaces}
use Rattle.vortex_table_scan.proofs.Placing.{each_more, no_wait}

not_same : (i k : ℕ) → (i == k) ≡ false → i ≡ k → ⊥
not_same i k e same = grind (arith, e, same)

same_number : (i k : ℕ) → (i == k) ≡ true → i ≡ k
same_number i k e = grind (arith, e)

same_root : (one other : RootId) → one.0 ≡ other.0 → one ≡ other
same_root one other e = ap (λ (n : ℕ). record { 0 = n }) e

module _ {W S C : Type 0} (over : RootId → Option (Content C) → Type 0) (always : (root : RootId) → over root None) (source : Ghosts S C) (seating : Seating W C) (gives_such : BatchParts → Bool) where
  -- of a call that waits for nothing
  pub called_places : (given : List Batch) (old new : Live W S) → KeepsSeats over seating old new → AllByRecursion (TakesSeat over seating gives_such old) given → SpendsSeats over source seating old new
      → KeepsFresh over source seating old new → AddsNoWait source old.slots new.slots → SurelyStands source seating old new.slots → KeepsPlaces source seating gives_such given old new
  called_places given old new keeps takes spends fresh waits stands = record {
    kept = λ root. keeps root None (always root);
    placed = each_more (TakesSeat over seating gives_such old) (λ (batch : Batch). SomeByRecursion (IsOfSeat batch) (seats seating batch.root None old.items) × (gives_such batch.array ≡ true)) given
        (λ batch t. (t.seat None (always batch.root), t.such)) takes;
    spent = λ root added a. spends root None added (always root) a;
    early = λ root added a.
        let none = waits root added a in
        each_more (StaysFresh (seats seating root None new.items) (fetched_in added)) (IsEarly (seats seating root None new.items) added) (seats seating root None old.items)
        (λ seat stays is. ⊎_elim (λ still. inl (none, still)) (λ fetched. inr (subst (λ list. IsFetched seat.over_none (fetched_in list)) (sym (no_wait added none)) fetched)) (stays is)) (fresh root None added (always root) a);
    sure = stands;
  }

  -- of a call that waits, where no seat is fresh
  pub waiting_places : (old new : Live W S) → KeepsSeats over seating old new → SpendsSeats over source seating old new → NoneFresh seating old.items → FaultsNoSure source old.slots new.slots → KeepsPlaces source seating gives_such [] old new
  waiting_places old new keeps spends none stands = record {
    kept = λ root. keeps root None (always root);
    placed = tt;
    spent = λ root added a. spends root None added (always root) a;
    early = λ root added a. each_more (λ (seat : Seat). seat.fresh ≡ false) (IsEarly (seats seating root None new.items) added) (seats seating root None old.items) (λ seat no is. absurd (cc)) (none root None);
    sure = λ root before after content there now sure is all. stands root before after content there now sure is;
  }

  -- of a refused call that waits for nothing
  pub refused_places : (old new : Live W S) → SpendsAtMost over source seating old new → AddsNoWait source old.slots new.slots → SurelyStands source seating old new.slots → LeavesPlaces source seating old new
  refused_places old new spends waits stands = record {
    spent = λ root added a. spends root None added (always root) a;
    early = λ root added a is. absurd (let none = waits root added a in cc);
    sure = stands;
  }

  nothing_spent : (list : List Seat) (added : List JournalEntry) → fetched_in added ≡ [] → IsSpent (targets_of list) (fetched_in added) []
  nothing_spent list added none test = rw none (omega arith)

  -- of a refused wait, where no seat is fresh
  pub waiting_leaves : (old new : Live W S) → WaitsOnce source old.slots new.slots → NoneFresh seating old.items → FaultsNoSure source old.slots new.slots → LeavesPlaces source seating old new
  waiting_leaves old new once none stands = record {
    spent = λ root added a. nothing_spent (seats seating root None old.items) added (by root added a (root.0 == once.root.0) refl);
    early = λ root added a is. each_more (λ (seat : Seat). seat.fresh ≡ false) (λ seat. seat.fresh ≡ true → IsFetched seat.over_none (fetched_in (before_wait added))) (seats seating root None old.items) (λ seat no fresh. absurd (cc)) (none root None);
    sure = λ root before after content there now sure is all. stands root before after content there now sure is;
  }
    where
      by : (root : RootId) (added : List JournalEntry) → Adds source root added old.slots new.slots → (b : Bool) → (root.0 == once.root.0) ≡ b → fetched_in added ≡ []
      by root added a true e =
          let same = same_root root once.root (same_number root.0 once.root.0 e) in
          ⊎_elim (λ nothing. ap fetched_in nothing) (λ one. ap fetched_in one) (once.once added (subst (λ r. Adds source r added old.slots new.slots) same a))
      by root added a false e = ap fetched_in (once.others root added (λ same. absurd (not_same root.0 once.root.0 e (ap (λ (r : RootId). r.0) same))) a)

-- what calls keep, a refused call leaves
module _ {W S C : Type 0} (source : Ghosts S C) (seating : Seating W C) (gives_such : BatchParts → Bool) where
  -- each fresh seat was fetched for before a wait
  pub kept_leaves : (given : List Batch) (old new : Live W S) → KeepsPlaces source seating gives_such given old new → LeavesPlaces source seating old new
  kept_leaves given old new k = record {
    spent = λ root added a test.
        let all = k.spent root added a test in
        let none : count_by test [] ≡ 0 = refl in
        omega (arith, all, none);
    early = λ root added a is. each_more (IsEarly (seats seating root None new.items) added) (λ seat. seat.fresh ≡ true → IsFetched seat.over_none (fetched_in (before_wait added))) (seats seating root None old.items)
        (λ seat was fresh. ⊎_elim (λ stays. absurd (let none = stays.0 in cc)) (λ fetched. fetched) (was fresh)) (k.early root added a);
    sure = k.sure;
  }
