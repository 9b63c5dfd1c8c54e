-- What a call that goes on leaves of a run: it makes visits within the limit, or only asks.
use Rattle.std.proofs.Common.{◌≡◌, ℕ, zero, suc, ◌<◌, ◌≤◌, List, refl, ◌∙◌, ap, Bool, true, false, Option, None, Some, Result, Ok, Err, arith, inl, inr, ◌⊎◌, ⊎_elim, length}
use Rattle.std.specs.Prelude.{slice_get}
use Rattle.vortex_io.specs.declared.ids.IoOwnerId.{IoOwnerId}
use Rattle.vortex_io.specs.declared.ids.IoRequestId.{IoRequestId}
use Rattle.vortex_io.specs.declared.payload.Payload.{Ghosts as Meanings}
use Rattle.vortex_io.specs.declared.request.Completion.{Completion}
use Rattle.vortex_io.specs.declared.request.IoRequest.{IoRequest}
use Rattle.vortex_io.specs.declared.source.IoSource.{Ghosts}
use Rattle.vortex_scan.specs.declared.errors.Progress.{Progress}
use Rattle.vortex_scan.specs.declared.errors.Progress.TheVariants as progress
use Rattle.vortex_scan.specs.declared.errors.RunError.{RunError}
use Rattle.vortex_scan.specs.declared.errors.RunError.TheVariants as error
use Rattle.vortex_scan.specs.declared.errors.Visited.{Visited}
use Rattle.vortex_scan.specs.declared.errors.Visited.TheVariants as visited
use Rattle.vortex_scan.specs.declared.item.Item.{Item}
use Rattle.vortex_scan.specs.declared.item.Slot.{Slot}
use Rattle.vortex_scan.specs.declared.state.Output.{Output}
use Rattle.vortex_scan.specs.declared.state.Output.TheVariants as output
use Rattle.vortex_scan.specs.declared.state.State.{State}
use Rattle.vortex_scan.specs.declared.state.State.TheVariants as state
use Rattle.vortex_scan.specs.declared.worker.Worker.{Ghosts as Works}
use Rattle.vortex_scan_types.specs.declared.batch.Batch.{Batch}
use Rattle.vortex_scan_types.specs.declared.place.RootId.{RootId}
use Rattle.vortex_scan.specs.Asking.{is_live, root_at}
use Rattle.vortex_scan.specs.Driving.{IsNoFault, VisitsMore}
use Rattle.vortex_scan.specs.Fails.{AskFails, DeliverFails, FollowFails, PollMisses, PublishFails, VisitFails, WaitFails, WaitMisses}
use Rattle.vortex_scan.specs.Fits.{ItemFits, LiveFits}
use Rattle.vortex_scan.specs.Going.{AdvanceFails, Advances, AsksAll, AsksIfDue, AsksOut, Ends, Gives, GoesOn, Turns}
use Rattle.vortex_scan.specs.RunState.{Live, RunState, put}
use Rattle.vortex_scan.specs.Steps.{Asks, WaitsFor, computed, handed}
use Rattle.vortex_scan.specs.Visits.{asked_count}
use Rattle.vortex_scan.proofs.Asked.{asks_fits}
use Rattle.vortex_scan.proofs.AskedOut.{asked_fewer, count_set, one_fewer}
use Rattle.vortex_scan.proofs.Chains.{Carried, advance_breaks}
use Rattle.vortex_scan.proofs.Keeping.{slot_before}
use Rattle.vortex_scan.proofs.Places.{each_at}
use Rattle.vortex_scan.proofs.Turning.{ends_fits, turn_counts, turn_fits}
use Rattle.vortex_scan.proofs.Visiting.{visit_fits}

module _ {W S C E : Type 0} (works : Works W C E) (source : Ghosts S C) (payload : Meanings C) where
  -- Asking delivers, so no more is outstanding.

  asks_less : (root : RootId) (answer : Option (Completion C)) (old new : Live W S) → Asks works source payload root answer old new → asked_count new.items ≤ asked_count old.items
  asks_less root None old new a = let same = ap (λ items. asked_count items) a.delivers in omega (arith, same)
  asks_less root (Some completion) old new a = let less = asked_fewer works source payload root (Some completion) true old new a refl refl in omega (arith, less)

  gives_less : (root times : ℕ) (old new : Live W S) → Gives works source payload root times old new → asked_count new.items ≤ asked_count old.items
  gives_less root zero old new g = let same = ap (λ (l : Live W S). asked_count l.items) g in omega (arith, same)
  gives_less root (suc times) old new g =
      let first = gives_less root times old g.0 g.2 in
      let then = asks_less (root_at root) (Some g.1) g.0 new g.3 in
      omega (arith, first, then)

  out_less : (root : ℕ) (live : Bool) (old new : Live W S) → AsksOut works source payload root live old new → asked_count new.items ≤ asked_count old.items
  out_less root true old new a =
      let first = gives_less root a.0 old a.1 a.2 in
      let then = asks_less (root_at root) None a.1 new a.3 in
      omega (arith, first, then)
  out_less root false old new a = let same = ap (λ (l : Live W S). asked_count l.items) a in omega (arith, same)

  all_less : (roots : ℕ) (old new : Live W S) → AsksAll works source payload roots old new → asked_count new.items ≤ asked_count old.items
  all_less zero old new a = let same = ap (λ (l : Live W S). asked_count l.items) a in omega (arith, same)
  all_less (suc root) old new a =
      let first = all_less root old a.0 a.1 in
      let then = out_less root (is_live (slice_get a.0.slots root)) a.0 new a.2 in
      omega (arith, first, then)

  -- What a call leaves as it is.

  abbrev Same : RunState W S → RunState W S → Type 0
  Same old new = (new.limit ≡ old.limit) × (new.failed ≡ old.failed)

  due_same : (asked : Bool) (old new : RunState W S) → AsksIfDue works source payload asked old new → Same old new × (new.visits ≡ old.visits)
  due_same true old new a = ((ap (λ (r : RunState W S). r.limit) a.1.now, ap (λ (r : RunState W S). r.failed) a.1.now), ap (λ (r : RunState W S). r.visits) a.1.now)
  due_same false old new a = ((ap (λ (r : RunState W S). r.limit) a.0, ap (λ (r : RunState W S). r.failed) a.0), ap (λ (r : RunState W S). r.visits) a.0)

  turn_same : (old new : RunState W S) (came : Visited) → Turns works source payload old new came → Same old new
  turn_same old new came t =
      let first = (due_same t.asked old t.between t.asks).0 in
      (ap (λ (r : RunState W S). r.limit) t.visits.now ∙ first.0, ap (λ (r : RunState W S). r.failed) t.visits.now ∙ first.1)

  goes_same : (turns : ℕ) (old new : RunState W S) → GoesOn works source payload turns old new → Same old new
  goes_same zero old new g = (ap (λ (r : RunState W S). r.limit) g, ap (λ (r : RunState W S). r.failed) g)
  goes_same (suc turns) old new g =
      let first = goes_same turns old g.0 g.1 in
      let then = turn_same g.0 new visited.Went g.2 in
      (then.0 ∙ first.0, then.1 ∙ first.1)

  ends_same : (old new : RunState W S) (answer : Progress) → Ends works source payload old new answer → Same old new
  ends_same old new (progress.Batch batch) t = turn_same old new (visited.Batch batch) t
  ends_same old new (progress.RootDone root) t = turn_same old new (visited.RootDone root) t
  ends_same old new progress.Waiting t = (due_same true old new t.0).0
  ends_same old new progress.Idle t = (due_same true old new t.0).0

  pub advances_same : (old new : RunState W S) (answer : Progress) → Advances works source payload old new answer → Same old new
  advances_same old new answer a =
      let first = goes_same a.turns old a.between a.goes in
      let then = ends_same a.between new answer a.ends in
      (then.0 ∙ first.0, then.1 ∙ first.1)

  goes_fits : (turns : ℕ) (old new : RunState W S) → LiveFits source old.live → GoesOn works source payload turns old new → LiveFits source new.live
  goes_fits zero old new fits g = rw g fits
  goes_fits (suc turns) old new fits g = turn_fits works source payload g.0 new visited.Went (goes_fits turns old g.0 fits g.1) g.2

  pub advances_fits : (old new : RunState W S) (answer : Progress) → LiveFits source old.live → Advances works source payload old new answer → LiveFits source new.live
  advances_fits old new answer fits a = ends_fits works source payload a.between new answer (goes_fits a.turns old a.between fits a.goes) a.ends

  -- Visits within the limit, or none.

  turn_more : (old new : RunState W S) (came : Visited) → Turns works source payload old new came → VisitsMore old new
  turn_more old new came t = let c = turn_counts works source payload old new came t in (omega (arith, c.1), omega (arith, c.0, c.1, c.2))

  goes_more : (turns : ℕ) (old new : RunState W S) → GoesOn works source payload turns old new → (new ≡ old) ⊎ VisitsMore old new
  goes_more zero old new g = inl g
  goes_more (suc turns) old new g =
      let then = turn_more g.0 new visited.Went g.2 in
      ⊎_elim (λ same. inr (let visits = ap (λ (r : RunState W S). r.visits) same in (omega (arith, visits, then.0), then.1)))
      (λ first. inr (omega (arith, first.0, then.0), then.1)) (goes_more turns old g.0 g.1)

  abbrev Rests : RunState W S → RunState W S → Type 0
  Rests old new = (new.visits ≡ old.visits) × (asked_count new.live.items ≤ asked_count old.live.items)

  -- a call that ends in a visit made visits
  made_by : (old between new : RunState W S) → (between ≡ old) ⊎ VisitsMore old between → VisitsMore between new → VisitsMore old new
  made_by old between new first then =
      ⊎_elim (λ same. let visits = ap (λ (r : RunState W S). r.visits) same in (omega (arith, visits, then.0), then.1))
      (λ more. (omega (arith, more.0, then.0), then.1)) first

  pub batch_more : (old new : RunState W S) (batch : Batch) → Advances works source payload old new (progress.Batch batch) → VisitsMore old new
  batch_more old new batch a = made_by old a.between new (goes_more a.turns old a.between a.goes) (turn_more a.between new (visited.Batch batch) a.ends)

  -- nor one that ends with a root done
  pub done_more : (old new : RunState W S) (root : RootId) → Advances works source payload old new (progress.RootDone root) → VisitsMore old new
  done_more old new root a = made_by old a.between new (goes_more a.turns old a.between a.goes) (turn_more a.between new (visited.RootDone root) a.ends)

  -- one that ends where all items wait made visits, or only asked
  pub waiting_more : (old new : RunState W S) → Advances works source payload old new progress.Waiting → VisitsMore old new ⊎ Rests old new
  waiting_more old new a =
      let due = due_same true a.between new a.ends.0 in
      let visits = due.1 in
      let limits = due.0.0 in
      let less = all_less (length a.between.live.slots) a.between.live new.live a.ends.0.1.asks in
      ⊎_elim (λ same.
      let visits' = ap (λ (r : RunState W S). r.visits) same in
      let asked = ap (λ (r : RunState W S). asked_count r.live.items) same in
      inr (omega (arith, visits, visits'), omega (arith, less, asked)))
      (λ more. inl (let most = more.1 in (omega (arith, visits, more.0), omega (arith, visits, limits, most)))) (goes_more a.turns old a.between a.goes)

  -- what is waited for is delivered
  pub waits_fewer : (root : RootId) (old new : Live W S) → WaitsFor works source payload root old new → asked_count new.items < asked_count old.items
  waits_fewer root old new w =
      let d = w.delivers in
      let fewer = one_fewer w.completion.owner w.completion.request d.item.asked d.left d.hands.entry d.hands.taken in
      let less = count_set old.items d.at d.item (handed works d.item d.left d.work) d.there fewer in
      rw d.now (omega (arith, less))

-- Refusals that no step of a run has.

module _ {E : Type 0} (why : RunError E) where
  abbrev NoFaultOf : RunError E → Type 0
  NoFaultOf which = why ≡ which → IsNoFault why

  pub memory_no_fault : NoFaultOf error.OutOfMemory
  memory_no_fault is = record { run_failed = λ e. absurd (cc); no_live_root = λ e. absurd (cc) }

  source_no_fault : (root : RootId) → NoFaultOf (error.Source root)
  source_no_fault root is = record { run_failed = λ e. absurd (cc); no_live_root = λ e. absurd (cc) }

  protocol_no_fault : (root : RootId) (owner : IoOwnerId) (request : IoRequestId) → NoFaultOf (error.Protocol root owner request)
  protocol_no_fault root owner request is = record { run_failed = λ e. absurd (cc); no_live_root = λ e. absurd (cc) }

  planner_no_fault : (root : RootId) (failure : E) → NoFaultOf (error.Planner root failure)
  planner_no_fault root failure is = record { run_failed = λ e. absurd (cc); no_live_root = λ e. absurd (cc) }

  batch_no_fault : NoFaultOf error.EmptyBatch
  batch_no_fault is = record { run_failed = λ e. absurd (cc); no_live_root = λ e. absurd (cc) }

  io_no_fault : NoFaultOf error.EmptyIo
  io_no_fault is = record { run_failed = λ e. absurd (cc); no_live_root = λ e. absurd (cc) }

  republished_no_fault : NoFaultOf error.Republished
  republished_no_fault is = record { run_failed = λ e. absurd (cc); no_live_root = λ e. absurd (cc) }

  waits_no_fault : NoFaultOf error.WaitsForNothing
  waits_no_fault is = record { run_failed = λ e. absurd (cc); no_live_root = λ e. absurd (cc) }

  limit_no_fault : NoFaultOf error.StepLimit
  limit_no_fault is = record { run_failed = λ e. absurd (cc); no_live_root = λ e. absurd (cc) }

  ids_no_fault : NoFaultOf error.IdsExhausted
  ids_no_fault is = record { run_failed = λ e. absurd (cc); no_live_root = λ e. absurd (cc) }

-- Of a step that fails: the refusal is no fault, and where a planner or a morsel failed, it is of the item's root.

-- a refusal that blames no planner and no morsel
abbrev BlamesNone : {E : Type 0} → RunError E → Type 0
BlamesNone {E} why = IsNoFault why × ((asker : RootId) (failure : E) → why ≡ error.Planner asker failure → ⊥)

-- a refusal that blames one of this root, if any
abbrev Blames : {E : Type 0} → RunError E → RootId → Type 0
Blames {E} why root = IsNoFault why × ((asker : RootId) (failure : E) → why ≡ error.Planner asker failure → asker ≡ root)

weaker : {E : Type 0} (why : RunError E) (root : RootId) → BlamesNone why → Blames why root
weaker why root b = (b.0, λ asker failure e. absurd (b.1 asker failure e))

module _ {W S C E : Type 0} (works : Works W C E) (source : Ghosts S C) (payload : Meanings C) where
  delivering_blames : (root : RootId) (completion : Completion C) (items : List (Item W)) (why : RunError E) → DeliverFails works root completion items why → BlamesNone why
  delivering_blames root completion items why f =
      ⊎_elim (λ p. (protocol_no_fault why root completion.owner completion.request p.0, λ asker failure e. let is = p.0 in cc))
      (λ v. (waits_no_fault why v.0, λ asker failure e. let is = v.0 in cc)) f

  asking_blames : (root : RootId) (old new : Live W S) (why : RunError E) → AskFails works source payload root old new why → BlamesNone why
  asking_blames root old new why f =
      ⊎_elim (λ o. (memory_no_fault why o.0, λ asker failure e. let is = o.0 in cc))
      (λ r. ⊎_elim (λ s. (source_no_fault why root s.0, λ asker failure e. let is = s.0 in cc))
      (λ (m : PollMisses works source payload root old new why). delivering_blames root m.completion old.items why m.fails) r) f

  pub waiting_blames : (root : RootId) (old new : Live W S) (why : RunError E) → WaitFails works source payload root old new why → BlamesNone why
  waiting_blames root old new why f =
      ⊎_elim (λ o. (memory_no_fault why o.0, λ asker failure e. let is = o.0 in cc))
      (λ r. ⊎_elim (λ s. (source_no_fault why root s.0, λ asker failure e. let is = s.0 in cc))
      (λ (m : WaitMisses works source payload root old new why). delivering_blames root m.completion old.items why m.fails) r) f

  publishing_blames : (batch : List IoRequest) (item : Item W) (old new : Live W S) (why : RunError E) → PublishFails works source batch item old new why → BlamesNone why
  publishing_blames batch item old new why f =
      ⊎_elim (λ a. (io_no_fault why a.0, λ asker failure e. let is = a.0 in cc))
      (λ r. ⊎_elim (λ a. (republished_no_fault why a.0, λ asker failure e. let is = a.0 in cc))
      (λ s. ⊎_elim (λ a. (source_no_fault why item.root a.0, λ asker failure e. let is = a.0 in cc))
      (λ a. (waits_no_fault why a.0, λ asker failure e. let is = a.0 in cc)) s) r) f

  following_blames : (answer : Result (Output W) E) (item : Item W) (old new : Live W S) (why : RunError E) → FollowFails works source answer item old new why → Blames why item.root
  following_blames (Err failure) item old new why f = (planner_no_fault why item.root failure f, λ asker other e. cc)
  following_blames (Ok output.Done) item old new why f = absurd f
  following_blames (Ok output.Continue) item old new why f = absurd f
  following_blames (Ok (output.NeedsIO batch)) item old new why f =
      ⊎_elim (λ m. weaker why item.root (memory_no_fault why m, λ asker failure e. cc)) (λ p. weaker why item.root (publishing_blames batch item old new why p)) f
  following_blames (Ok (output.Child scope work)) item old new why f =
      ⊎_elim (λ m. weaker why item.root (memory_no_fault why m, λ asker failure e. cc)) (λ i. weaker why item.root (ids_no_fault why i.0, λ asker failure e. let is = i.0 in cc)) f
  following_blames (Ok (output.Batch array)) item old new why f =
      ⊎_elim (λ m. weaker why item.root (memory_no_fault why m, λ asker failure e. cc)) (λ i. weaker why item.root (batch_no_fault why i.0, λ asker failure e. let is = i.0 in cc)) f

  visiting_blames : (shown : State) (at : ℕ) (item : Item W) (old new : Live W S) (why : RunError E) → VisitFails works source shown at item old new why → Blames why item.root
  visiting_blames state.Done at item old new why f = absurd f
  visiting_blames state.Waiting at item old new why f = weaker why item.root (waits_no_fault why f.0, λ asker failure e. let is = f.0 in cc)
  visiting_blames state.NeedsCompute at item old new why f = following_blames f.0 (computed item f.1) (put at (computed item f.1) old) new why f.3

  -- what fits, over any steps
  abbrev Fits' : Live W S → Type 0
  Fits' live = LiveFits source live

  abbrev Nothing' : List Batch → ℕ → Live W S → ℕ → Live W S → Type 0
  Nothing' batches made old made' new = Unit {0}

  fitting : Carried works source payload Fits' Nothing'
  fitting = record {
    same = λ made live. tt;
    on = λ batches m n o a b d k l first then. tt;
    asks = λ root answer made old new fits a. (asks_fits works source payload root answer old new fits a, tt);
    visits = λ made at item old new came fits least v. (visit_fits source works (works.state_is item.work) at item old new came fits least.there v, tt);
  }

  abbrev BlamesLive : RunError E → Live W S → Type 0
  BlamesLive why live = (root : RootId) (failure : E) → why ≡ error.Planner root failure → (slot : Slot S) × (slice_get live.slots root.0 ≡ Some slot)

  -- of a call that goes on to a step that fails
  pub advance_blames : (old new : RunState W S) (why : RunError E) → LiveFits source old.live → AdvanceFails works source payload old new why → IsNoFault why × BlamesLive why old.live
  advance_blames old new why fits f =
      let b = advance_breaks works source payload Fits' Nothing' fitting old new why fits f in
      ⊎_elim (λ a. let none = asking_blames a.0 b.between new.live why a.1 in (none.0, λ root failure e. absurd (none.1 root failure e)))
      (λ r. ⊎_elim (λ l. (limit_no_fault why l.0, λ root failure e. absurd (let is = l.0 in cc)))
      (λ v.
      let blames = visiting_blames (works.state_is v.1.work) v.0 v.1 b.between new.live why v.4 in (
        blames.0,
        λ root failure e.
            let f = each_at (ItemFits source b.between.slots b.between.next_owner) b.between.items v.0 v.1 b.held.each v.2.there in
            let here = ap (λ (asker : RootId). slice_get b.between.slots asker.0) (blames.1 root failure e) ∙ f.there in
            slot_before source old.live.slots b.between.slots root.0 f.slot b.sources here,
      )) r) b.breaks.way
