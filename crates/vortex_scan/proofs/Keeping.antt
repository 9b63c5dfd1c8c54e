-- Every step keeps every source.
use Rattle.std.proofs.Common.{◌≡◌, ℕ, zero, suc, List, [], ◌∷◌, refl, ap, subst, sym, Bool, true, false, ◌&&◌, Option, None, Some, length}
use Rattle.std.specs.Prelude.{slice_get}
use Rattle.std.specs.List.{remove}
use Rattle.vortex_io.specs.declared.payload.Payload.{Ghosts as Meanings}
use Rattle.vortex_io.specs.declared.request.Completion.{Completion}
use Rattle.vortex_io.specs.declared.source.IoSource.{Ghosts}
use Rattle.vortex_scan.specs.declared.errors.Progress.{Progress}
use Rattle.vortex_scan.specs.declared.errors.Progress.TheVariants as progress
use Rattle.vortex_scan.specs.declared.errors.Visited.{Visited}
use Rattle.vortex_scan.specs.declared.errors.Visited.TheVariants as visited
use Rattle.vortex_scan.specs.declared.item.Item.{Item}
use Rattle.vortex_scan.specs.declared.item.Slot.{Slot}
use Rattle.vortex_scan_types.specs.declared.place.RootId.{RootId}
use Rattle.vortex_scan.specs.declared.state.Output.{Output}
use Rattle.vortex_scan.specs.declared.state.Output.TheVariants as output
use Rattle.vortex_scan.specs.declared.state.State.{State}
use Rattle.vortex_scan.specs.declared.state.State.TheVariants as state
use Rattle.vortex_scan.specs.declared.worker.Worker.{Ghosts as Works}
use Rattle.vortex_scan.specs.Asking.{AsksLive, AsksOnce, is_live, root_at}
use Rattle.vortex_scan.specs.Going.{AsksAll, AsksIfDue, AsksOut, Ends, Gives, GoesOn, Turns}
use Rattle.vortex_scan.specs.RunState.{Live, RunState, has_root, put}
use Rattle.vortex_scan.specs.Sources.{KeepsEach, KeepsSlot}
use Rattle.vortex_scan.specs.Steps.{Asks, Follows, Retires, Settles, Visits, computed, published}
use Rattle.vortex_scan.proofs.Kept.{each_called, each_on, each_same, each_with, slot_left}

module _ {W S C : Type 0} (source : Ghosts S C) where
  pub retires_keeps : (at : ℕ) (item : Item W) (old new : Live W S) (answer : Visited) → Retires source at item old new answer → KeepsEach source old.slots new.slots
  retires_keeps at item old new answer r =
      let slot' : Slot S = record { source = r.after; live = has_root item.root (remove old.items at) && r.slot.live } in
      rw r.now (each_with source old.slots item.root.0 r.slot slot' r.there (slot_left source item.owner (has_root item.root (remove old.items at)) r.slot slot' r.released r.releases r.clears refl))

  pub settles_keeps : (shown : State) (at : ℕ) (item : Item W) (old new : Live W S) (answer : Visited) → Settles source shown at item old new answer → KeepsEach source old.slots new.slots
  settles_keeps state.Done at item old new answer s = retires_keeps at item old new answer s
  settles_keeps state.NeedsCompute at item old new answer s = rw s.0 (each_same source old.slots)
  settles_keeps state.Waiting at item old new answer s = rw s.1 (each_same source old.slots)

  pub follows_keeps : {E : Type 0} (works : Works W C E) (out : Output W) (at : ℕ) (item : Item W) (old new : Live W S) (answer : Visited) → Follows works source out at item old new answer → KeepsEach source old.slots new.slots
  follows_keeps works output.Done at item old new answer h = retires_keeps at item old new answer h
  follows_keeps works output.Continue at item old new answer h = rw h.0 (each_same source old.slots)
  follows_keeps works (output.NeedsIO batch) at item old new answer h =
      let p = h.1 in
      let first : KeepsEach source old.slots h.0.slots = rw p.now (each_called source old.slots item.root.0 p.slot p.after p.there p.submits.keeps) in
      each_on source old.slots h.0.slots new.slots first (settles_keeps (works.state_is item.work) at (published item batch) h.0 new answer h.2)
  follows_keeps works (output.Child scope work) at item old new answer h = let p = h.0 in rw p.now (each_same source old.slots)
  follows_keeps works (output.Batch array) at item old new answer h = rw h.1 (each_same source old.slots)

  pub visits_keeps : {E : Type 0} (works : Works W C E) (shown : State) (at : ℕ) (item : Item W) (old new : Live W S) (answer : Visited) → Visits works source shown at item old new answer → KeepsEach source old.slots new.slots
  visits_keeps works state.Done at item old new answer h = settles_keeps state.Done at item old new answer h
  visits_keeps works state.Waiting at item old new answer h = settles_keeps state.Waiting at item old new answer h
  visits_keeps works state.NeedsCompute at item old new answer h = follows_keeps works h.0 at (computed item h.1) (put at (computed item h.1) old) new answer h.3

module _ {W S C E : Type 0} (works : Works W C E) (source : Ghosts S C) (payload : Meanings C) where
  pub asks_keeps : (root : RootId) (answer : Option (Completion C)) (old new : Live W S) → Asks works source payload root answer old new → KeepsEach source old.slots new.slots
  asks_keeps root answer old new a =
      let e = ap (λ (l : Live W S). l.slots) a.now in
      subst (λ (slots : List (Slot S)). KeepsEach source old.slots slots) (sym e) (each_called source old.slots root.0 a.slot a.after a.there a.polls.keeps)

  pub gives_keeps : (root times : ℕ) (old new : Live W S) → Gives works source payload root times old new → KeepsEach source old.slots new.slots
  gives_keeps root zero old new g = rw g (each_same source old.slots)
  gives_keeps root (suc times) old new g = each_on source old.slots g.0.slots new.slots (gives_keeps root times old g.0 g.2) (asks_keeps (root_at root) (Some g.1) g.0 new g.3)

  pub asks_out_keeps : (root : ℕ) (live : Bool) (old new : Live W S) → AsksOut works source payload root live old new → KeepsEach source old.slots new.slots
  asks_out_keeps root true old new a = each_on source old.slots a.1.slots new.slots (gives_keeps root a.0 old a.1 a.2) (asks_keeps (root_at root) None a.1 new a.3)
  asks_out_keeps root false old new a = rw a (each_same source old.slots)

  pub asks_all_keeps : (roots : ℕ) (old new : Live W S) → AsksAll works source payload roots old new → KeepsEach source old.slots new.slots
  asks_all_keeps zero old new a = rw a (each_same source old.slots)
  asks_all_keeps (suc root) old new a =
      each_on source old.slots a.0.slots new.slots (asks_all_keeps root old a.0 a.1) (asks_out_keeps root (is_live (slice_get a.0.slots root)) a.0 new a.2)

  pub asks_live_keeps : (root : ℕ) (live : Bool) (old new : Live W S) (came : Bool) → AsksLive works source payload root live old new came → KeepsEach source old.slots new.slots
  asks_live_keeps root true old new came a = asks_keeps (root_at root) a.0 old new a.1
  asks_live_keeps root false old new came a = rw a.0 (each_same source old.slots)

  pub asks_once_keeps : (roots : ℕ) (old new : Live W S) (came : Bool) → AsksOnce works source payload roots old new came → KeepsEach source old.slots new.slots
  asks_once_keeps zero old new came a = rw a.0 (each_same source old.slots)
  asks_once_keeps (suc root) old new came a =
      each_on source old.slots a.0.slots new.slots (asks_once_keeps root old a.0 a.1 a.3) (asks_live_keeps root (is_live (slice_get a.0.slots root)) a.0 new a.2 a.4)

  pub asks_due_keeps : (asked : Bool) (old new : RunState W S) → AsksIfDue works source payload asked old new → KeepsEach source old.live.slots new.live.slots
  asks_due_keeps true old new a = asks_all_keeps (length old.live.slots) old.live new.live a.1.asks
  asks_due_keeps false old new a = rw a.0 (each_same source old.live.slots)

  pub turns_keeps : (old new : RunState W S) (came : Visited) → Turns works source payload old new came → KeepsEach source old.live.slots new.live.slots
  turns_keeps old new came t =
      let v = t.visits in
      each_on source old.live.slots t.between.live.slots new.live.slots (asks_due_keeps t.asked old t.between t.asks) (visits_keeps source works (works.state_is v.item.work) v.at v.item t.between.live new.live came v.visits)

  pub goes_keeps : (turns : ℕ) (old new : RunState W S) → GoesOn works source payload turns old new → KeepsEach source old.live.slots new.live.slots
  goes_keeps zero old new g = rw g (each_same source old.live.slots)
  goes_keeps (suc turns) old new g = each_on source old.live.slots g.0.live.slots new.live.slots (goes_keeps turns old g.0 g.1) (turns_keeps g.0 new visited.Went g.2)

  pub ends_keeps : (old new : RunState W S) (answer : Progress) → Ends works source payload old new answer → KeepsEach source old.live.slots new.live.slots
  ends_keeps old new (progress.Batch batch) t = turns_keeps old new (visited.Batch batch) t
  ends_keeps old new (progress.RootDone root) t = turns_keeps old new (visited.RootDone root) t
  ends_keeps old new progress.Waiting t = asks_due_keeps true old new t.0
  ends_keeps old new progress.Idle t = asks_due_keeps true old new t.0

-- the slots of one place, before and after
module _ {S C : Type 0} (source : Ghosts S C) where
  pub slots_at : (old new : List (Slot S)) (root : ℕ) (before after : Slot S) → KeepsEach source old new → slice_get old root ≡ Some before → slice_get new root ≡ Some after → KeepsSlot source before after
  slots_at [] new root before after k there now = absurd (cc)
  slots_at (s ∷ ss) [] root before after k there now = absurd k
  slots_at (s ∷ ss) (n ∷ ns) zero before after k there now = let one : s ≡ before = cc in let two : n ≡ after = cc in rw (one, two) at k.0
  slots_at (s ∷ ss) (n ∷ ns) (suc root) before after k there now = slots_at ss ns root before after k.1 there now

  pub slot_after : (old new : List (Slot S)) (root : ℕ) (before : Slot S) → KeepsEach source old new → slice_get old root ≡ Some before → (after : Slot S) × (slice_get new root ≡ Some after)
  slot_after [] new root before k there = absurd (cc)
  slot_after (s ∷ ss) [] root before k there = absurd k
  slot_after (s ∷ ss) (n ∷ ns) zero before k there = (n, refl)
  slot_after (s ∷ ss) (n ∷ ns) (suc root) before k there = slot_after ss ns root before k.1 there

  pub slot_before : (old new : List (Slot S)) (root : ℕ) (after : Slot S) → KeepsEach source old new → slice_get new root ≡ Some after → (before : Slot S) × (slice_get old root ≡ Some before)
  slot_before [] [] root after k now = absurd (cc)
  slot_before [] (n ∷ ns) root after k now = absurd k
  slot_before (s ∷ ss) [] root after k now = absurd k
  slot_before (s ∷ ss) (n ∷ ns) zero after k now = (s, refl)
  slot_before (s ∷ ss) (n ∷ ns) (suc root) after k now = slot_before ss ns root after k.1 now
