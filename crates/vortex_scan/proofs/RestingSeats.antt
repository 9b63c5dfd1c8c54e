-- Seats of a run that waits, of a root that joins, and of one that is cancelled.
use Rattle.std.proofs.Common.{◌≡◌, ℕ, ◌+◌, ◌⊎◌, ⊎_elim, inl, inr, sym, subst, List, [], ◌∷◌, ◌++◌, refl, ◌∙◌, ap, Bool, true, false, cond, not, Option, None, Some, flat_map, append-nil}
use Rattle.std.specs.Prelude.{count_by}
use Rattle.std.specs.List.{AllByRecursion}
use Rattle.std.proofs.lemmas.List.Concat.{flat_map-append}
use Rattle.vortex_array.specs.Batch.{BatchParts}
use Rattle.vortex_io.specs.declared.payload.Payload.{Ghosts as Meanings}
use Rattle.vortex_io.specs.declared.source.IoSource.{Ghosts}
use Rattle.vortex_scan_types.specs.declared.batch.WorkScope.{WorkScope}
use Rattle.vortex_scan_types.specs.declared.place.RootId.{RootId}
use Rattle.vortex_scan.specs.declared.errors.Progress.{Progress}
use Rattle.vortex_scan.specs.declared.errors.Progress.TheVariants as progress
use Rattle.vortex_scan.specs.declared.item.Item.{Item}
use Rattle.vortex_scan.specs.declared.item.Slot.{Slot}
use Rattle.vortex_scan.specs.declared.state.State.TheVariants as state
use Rattle.vortex_scan.specs.declared.worker.Worker.{Ghosts as Works}
use Rattle.vortex_scan.specs.Going.{Advances}
use Rattle.vortex_scan.specs.RunState.{Live, NothingReady, RunState, is_of_root, live_with}
use Rattle.vortex_scan.specs.Seats.{AddsSeats, ArePlanned, IsLess, KeepsFresh, KeepsSeats, NoneFresh, Seat, Seating, SomeByRecursion, StaysFresh, fetched_in, seats, seats_at}
use Rattle.vortex_scan.specs.Steps.{CancelsLive, root_item}
use Rattle.vortex_scan.proofs.Passing.{from_filtered, some_before, stay_fresh, stay_less}
use Rattle.vortex_scan.proofs.Places.{each_append, each_weaker}
use Rattle.vortex_scan.proofs.Planning.{AreOld, WorkPlans}
use Rattle.vortex_scan.proofs.Tallies.{count_join}
use Rattle.vortex_scan.proofs.Turning.{waiting_of}
use Rattle.vortex_scan.proofs.WholeSeats.{Names, Seats', advance_passed}

-- where nothing is ready, no seat is fresh: what is parked waits, and what waits is not fresh
pub none_fresh : {W C E V : Type 0} (means : C → V) (works : Works W C E) (seating : Seating W C) (gives_such : BatchParts → Bool) (publishes : W → Type 0) → WorkPlans means works seating gives_such publishes → (items : List (Item W))
    → ArePlanned works.state_is publishes items → NothingReady items → NoneFresh seating items
none_fresh means works seating gives_such publishes laws [] planned ready root told = tt
none_fresh {W} means works seating gives_such publishes laws (item ∷ items) planned ready root told =
    let waits : works.state_is item.work ≡ state.Waiting = planned.0.parked ready.0 in
    let old = laws.acts told item.path item.next item.scope item.work (λ e. absurd (cc)) in
    each_append (λ (seat : Seat). seat.fresh ≡ false) (seats_at seating root told item) (flat_map (seats_at seating root told) items)
    (elim (is_of_root root item) as (λ b. AreOld (cond b (seating told item.path item.next item.scope item.work) [])) [ true ↦ old | false ↦ tt ])
    (none_fresh means works seating gives_such publishes laws items planned.1 ready.1 root told)

-- so no seat is fresh where a run waits
pub waiting_none_fresh : {W S C E : Type 0} (works : Works W C E) (source : Ghosts S C) (payload : Meanings C) (seating : Seating W C) (gives_such : BatchParts → Bool) (publishes : W → Type 0)
    (laws : WorkPlans payload.means works seating gives_such publishes) (tells : Type 0) (names : tells → Names works) (old new : RunState W S) (answer : Progress) → Seats' works source payload seating gives_such publishes laws tells names old.live
    → Advances works source payload old new answer → answer ≡ progress.Waiting → NoneFresh seating new.live.items
waiting_none_fresh works source payload seating gives_such publishes laws tells names old new answer held a e =
    let did = advance_passed works source payload seating gives_such publishes laws tells names (record { 0 = 0 }) None old new answer held a in
    let w = waiting_of works source payload old new answer a e in
    none_fresh payload.means works seating gives_such publishes laws new.live.items did.0.2 w.0

-- a root that joins
pub admit_seats : {W S C : Type 0} (seating : Seating W C) (items : List (Item W)) (slots slots' : List (Slot S)) (owners owners' root : ℕ) (scope : WorkScope) (work : W)
    → AddsSeats seating (record { 0 = root }) scope work (live_with items slots owners) (live_with (items ++ root_item root owners scope work ∷ []) slots' owners')
admit_seats seating items slots slots' owners owners' joins scope work root told test =
    let one = root_item joins owners scope work in
    ap (count_by test) (flat_map-append (seats_at seating root told) items (one ∷ []) ∙ ap (λ s. flat_map (seats_at seating root told) items ++ s) (append-nil (seats_at seating root told one)))
    ∙ count_join test (flat_map (seats_at seating root told) items) (seats_at seating root told one)

-- whose seats leave the others as they are
pub admit_fresh : {W S C : Type 0} (source : Ghosts S C) (seating : Seating W C) (items : List (Item W)) (item : Item W) (slots slots' : List (Slot S)) (owners owners' : ℕ)
    → KeepsFresh (λ _ _. Unit {0}) source seating (live_with items slots owners) (live_with (items ++ item ∷ []) slots' owners')
admit_fresh source seating items item slots slots' owners owners' root told added o a =
    let old = seats seating root told items in
    let more = flat_map (seats_at seating root told) (item ∷ []) in
    let f = fetched_in added in
    subst (λ new. AllByRecursion (StaysFresh new f) old) (sym (flat_map-append (seats_at seating root told) items (item ∷ [])))
    (each_weaker (StaysFresh old f) (StaysFresh (old ++ more) f) old
    (λ seat stays is. ⊎_elim (λ still. inl (some_before (λ now. IsLess seat now × (now.fresh ≡ true)) old more still)) (λ fetched. inr fetched) (stays is)) (stay_fresh old f))

-- a root that is cancelled
pub cancel_seats : {W S C : Type 0} (source : Ghosts S C) (seating : Seating W C) (gone : RootId) (found : Option (Slot S)) (old new : Live W S) → CancelsLive source gone found old new → KeepsSeats (λ _ _. Unit {0}) seating old new
cancel_seats source seating gone None old new c root told o = rw c (stay_less (seats seating root told old.items))
cancel_seats {W} {S} {C} source seating gone (Some slot) old new c root told o =
    elim slot.live as (λ b. slot.live ≡ b → AllByRecursion (λ seat. SomeByRecursion (λ was. IsLess was seat) (seats seating root told old.items)) (seats seating root told new.items)) [
      | true ↦ λ e. rw (ap (λ (l : Live W S). l.items) (c.0 e).now) (from_filtered (seats_at seating root told) (λ item. not (is_of_root gone item)) old.items)
      | false ↦ λ e. rw (c.1 e) (stay_less (seats seating root told old.items))
    ] refl
