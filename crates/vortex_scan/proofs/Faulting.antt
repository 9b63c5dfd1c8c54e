-- A refusal over a source has its cause in the call.
use Rattle.std.proofs.Common.{◌≡◌, ℕ, refl, true, Some, Result, Ok, Err, ⊎_elim}
use Rattle.std.specs.Prelude.{List, slice_get}
use Rattle.vortex_io.specs.declared.payload.Payload.{Ghosts as Meanings}
use Rattle.vortex_io.specs.declared.request.Completion.{Completion}
use Rattle.vortex_io.specs.declared.request.IoRequest.{IoRequest}
use Rattle.vortex_io.specs.declared.source.IoSource.{Ghosts}
use Rattle.vortex_scan.specs.declared.errors.RunError.{RunError}
use Rattle.vortex_scan.specs.declared.errors.RunError.TheVariants as error
use Rattle.vortex_scan.specs.declared.item.Item.{Item}
use Rattle.vortex_scan.specs.declared.item.Slot.{Slot}
use Rattle.vortex_scan_types.specs.declared.place.RootId.{RootId}
use Rattle.vortex_scan.specs.declared.state.Output.{Output}
use Rattle.vortex_scan.specs.declared.state.Output.TheVariants as output
use Rattle.vortex_scan.specs.declared.state.State.{State}
use Rattle.vortex_scan.specs.declared.state.State.TheVariants as state
use Rattle.vortex_scan.specs.declared.worker.Worker.{Ghosts as Works}
use Rattle.vortex_scan.specs.Asking.{AskingFails, root_at}
use Rattle.vortex_scan.specs.Fails.{AskFails, DeliverFails, FollowFails, PollMisses, PublishFails, SubmitFaults, VisitFails, WaitFails, WaitMisses}
use Rattle.vortex_scan.specs.Fits.{ItemFits, LiveFits}
use Rattle.vortex_scan.specs.Going.{AdvanceFails, AskingFailsThen, AskingOutFails, AsksOutFails, TurnFails, TurnFailsThen, VisitLeastFails, VisitingFails}
use Rattle.vortex_scan.specs.RunState.{Live, RunState, put}
use Rattle.vortex_scan.specs.Sources.{KeepsEach}
use Rattle.vortex_scan.specs.Steps.{computed}
use Rattle.vortex_scan.specs.Whole.{FailedAt, FailsByCause}
use Rattle.vortex_scan.proofs.Keeping.{asks_all_keeps, asks_due_keeps, asks_once_keeps, gives_keeps, goes_keeps, slot_before, slots_at}
use Rattle.vortex_scan.proofs.Places.{each_at, get_set}
use Rattle.vortex_scan.proofs.Quieting.{rose_in_whole}
use Rattle.vortex_scan.proofs.Rooted.{goes_same}
use Rattle.vortex_scan.proofs.Turning.{asks_due_fits}

module _ {S C : Type 0} (source : Ghosts S C) where
  failed_on : (root : RootId) (a b d : List (Slot S)) → KeepsEach source a b → FailedAt source root b d → FailedAt source root a d
  failed_on root a b d k f =
      let was = slot_before source a b root.0 f.before k f.there in
      let kept = slots_at source a b root.0 was.0 f.before k was.1 f.there in
      record {
        before = was.0;
        there = was.1;
        live = kept.ends f.live;
        after = f.after;
        now = f.now;
        fault = rose_in_whole (source.faults was.0.source) (source.faults f.before.source) (source.faults f.after.source) kept.keeps.faults f.fault;
      }

  pub causes_on : {E : Type 0} (why : RunError E) (a b d : List (Slot S)) → KeepsEach source a b → FailsByCause source why b d → FailsByCause source why a d
  causes_on why a b d k f root e = failed_on root a b d k (f root e)

module _ {W S C : Type 0} (source : Ghosts S C) where
  submit_cause : (item : Item W) (batch : List IoRequest) (old new : Live W S) → ((slot : Slot S) → slice_get old.slots item.root.0 ≡ Some slot → slot.live ≡ true) → SubmitFaults source item batch old new → FailedAt source item.root old.slots new.slots
  submit_cause item batch old new live f = record {
    before = f.slot;
    there = f.there;
    live = live f.slot f.there;
    after = record f.slot { source = f.after };
    now = rw f.now (get_set old.slots item.root.0 f.slot (record f.slot { source = f.after }) f.there);
    fault = f.submits.fault refl;
  }

  publish_cause : {E : Type 0} (works : Works W C E) (batch : List IoRequest) (item : Item W) (old new : Live W S) (why : RunError E) → ((slot : Slot S) → slice_get old.slots item.root.0 ≡ Some slot → slot.live ≡ true)
      → PublishFails works source batch item old new why → FailsByCause source why old.slots new.slots
  publish_cause works batch item old new why live f root e =
      ⊎_elim (λ none. absurd (let h = none.0 in cc))
      (λ g. ⊎_elim (λ twice. absurd (let h = twice.0 in cc))
      (λ k. ⊎_elim (λ faults. let h = faults.0 in let same : item.root ≡ root = cc in rw same at (submit_cause item batch old new live faults.1))
      (λ waits. absurd (let h = waits.0 in cc)) k) g) f

  follow_cause : {E : Type 0} (works : Works W C E) (answer : Result (Output W) E) (item : Item W) (old new : Live W S) (why : RunError E) → ((slot : Slot S) → slice_get old.slots item.root.0 ≡ Some slot → slot.live ≡ true)
      → FollowFails works source answer item old new why → FailsByCause source why old.slots new.slots
  follow_cause works (Err failure) item old new why live f root e = absurd (cc)
  follow_cause works (Ok output.Done) item old new why live f root e = absurd f
  follow_cause works (Ok output.Continue) item old new why live f root e = absurd f
  follow_cause works (Ok (output.NeedsIO batch)) item old new why live f root e = ⊎_elim (λ memory. absurd (cc)) (λ g. publish_cause works batch item old new why live g root e) f
  follow_cause works (Ok (output.Child scope work)) item old new why live f root e = ⊎_elim (λ memory. absurd (cc)) (λ ids. absurd (let h = ids.0 in cc)) f
  follow_cause works (Ok (output.Batch array)) item old new why live f root e = ⊎_elim (λ memory. absurd (cc)) (λ empty. absurd (let h = empty.0 in cc)) f

  visit_cause : {E : Type 0} (works : Works W C E) (shown : State) (at : ℕ) (item : Item W) (old new : Live W S) (why : RunError E) → ((slot : Slot S) → slice_get old.slots item.root.0 ≡ Some slot → slot.live ≡ true)
      → VisitFails works source shown at item old new why → FailsByCause source why old.slots new.slots
  visit_cause works state.Done at item old new why live f root e = absurd f
  visit_cause works state.Waiting at item old new why live f root e = absurd (let h = f.0 in cc)
  visit_cause works state.NeedsCompute at item old new why live f root e = follow_cause works f.0 (computed item f.1) (put at (computed item f.1) old) new why live f.3 root e

module _ {W S C E : Type 0} (works : Works W C E) (source : Ghosts S C) (payload : Meanings C) where
  deliver_cause : (root other : RootId) (completion : Completion C) (items : List (Item W)) (why : RunError E) → DeliverFails works root completion items why → why ≡ error.Source other → ⊥
  deliver_cause root other completion items why f e = ⊎_elim (λ p. let h = p.0 in cc) (λ w. let h = w.0 in cc) f

  ask_cause : (root : RootId) (old new : Live W S) (why : RunError E) → AskFails works source payload root old new why → FailsByCause source why old.slots new.slots
  ask_cause root old new why f other e =
      ⊎_elim (λ memory. absurd (let h = memory.0 in cc))
      (λ g. ⊎_elim (λ faults.
      let h = faults.0 in
      let same : root ≡ other = cc in
      let p = faults.1 in
      rw same at (let failed : FailedAt source root old.slots new.slots = record {
        before = p.slot;
        there = p.there;
        live = p.live;
        after = record p.slot { source = p.after };
        now = rw p.now (get_set old.slots root.0 p.slot (record p.slot { source = p.after }) p.there);
        fault = p.polls.fault refl;
      } in failed))
      (λ (m : PollMisses works source payload root old new why). absurd (deliver_cause root other m.completion old.items why m.fails e)) g) f

  pub wait_cause : (root : RootId) (old new : Live W S) (why : RunError E) → WaitFails works source payload root old new why → FailsByCause source why old.slots new.slots
  wait_cause root old new why f other e =
      ⊎_elim (λ memory. absurd (let h = memory.0 in cc))
      (λ g. ⊎_elim (λ faults.
      let h = faults.0 in
      let same : root ≡ other = cc in
      let p = faults.1 in
      rw same at (let failed : FailedAt source root old.slots new.slots = record {
        before = p.slot;
        there = p.there;
        live = p.live;
        after = record p.slot { source = p.after };
        now = rw p.now (get_set old.slots root.0 p.slot (record p.slot { source = p.after }) p.there);
        fault = p.waits.fault refl;
      } in failed))
      (λ (m : WaitMisses works source payload root old new why). absurd (deliver_cause root other m.completion old.items why m.fails e)) g) f

  pub asking_cause : (old new : Live W S) (why : RunError E) → AskingFails works source payload old new why → FailsByCause source why old.slots new.slots
  asking_cause old new why f = causes_on source why old.slots f.between.slots new.slots (asks_once_keeps works source payload f.number old f.between f.came f.asked) (ask_cause (root_at f.number) f.between new why f.fails)

  out_cause : (root : ℕ) (old new : Live W S) (why : RunError E) → AsksOutFails works source payload root old new why → FailsByCause source why old.slots new.slots
  out_cause root old new why f = causes_on source why old.slots f.between.slots new.slots (gives_keeps works source payload root f.times old f.between f.gives) (ask_cause (root_at root) f.between new why f.fails)

  all_cause : (old new : Live W S) (why : RunError E) → AskingOutFails works source payload old new why → FailsByCause source why old.slots new.slots
  all_cause old new why f = causes_on source why old.slots f.between.slots new.slots (asks_all_keeps works source payload f.root old f.between f.before) (out_cause f.root f.between new why f.fails)

  visiting_cause : (old new : RunState W S) (why : RunError E) → LiveFits source old.live → VisitingFails works source old new why → FailsByCause source why old.live.slots new.live.slots
  visiting_cause old new why fits f root e =
      ⊎_elim (λ l. absurd (let h = l.0 in cc))
      (λ (v : VisitLeastFails works source old new why).
      let it = each_at (ItemFits source old.live.slots old.live.next_owner) old.live.items v.at v.item fits.each v.least.there in
      visit_cause source works (works.state_is v.item.work) v.at v.item old.live new.live why (λ slot there. let h = it.there in let same : it.slot ≡ slot = cc in rw same at it.live) v.fails root e) f

  turn_cause : (old new : RunState W S) (why : RunError E) → LiveFits source old.live → TurnFails works source payload old new why → FailsByCause source why old.live.slots new.live.slots
  turn_cause old new why fits f =
      ⊎_elim (λ (a : AskingFailsThen works source payload old new why). all_cause old.live new.live why a.fails)
      (λ (t : TurnFailsThen works source payload old new why).
      causes_on source why old.live.slots t.between.live.slots new.live.slots (asks_due_keeps works source payload t.asked old t.between t.asks)
      (visiting_cause t.between new why (asks_due_fits works source payload t.asked old t.between fits t.asks) t.fails)) f

  pub advance_cause : (old new : RunState W S) (why : RunError E) → LiveFits source old.live → AdvanceFails works source payload old new why → FailsByCause source why old.live.slots new.live.slots
  advance_cause old new why fits a =
      let before = goes_same works source payload a.turns old a.between fits a.goes in
      causes_on source why old.live.slots a.between.live.slots new.live.slots (goes_keeps works source payload a.turns old a.between a.goes) (turn_cause a.between new why before.1 a.fails)
