-- A completion that is not expected, from a root in step, is a lie.
use Rattle.std.proofs.Common.{◌≡◌, ℕ, ◌-◌, ◌^◌, ◌<◌, List, refl, ◌∙◌, ap, Bool, true, false, cond, ◌&&◌, Some, arith, Result, Ok, Err, inl, inr, ◌⊎◌, ⊎_elim}
use Rattle.std.specs.Prelude.{slice_get, eqb, ltb, count_by, sum_by}
use Rattle.std.specs.List.{list_any}
use Rattle.std.proofs.Math.ListN.{set}
use Rattle.std.proofs.lemmas.Bool.Decides.{nat_tests}
use Rattle.vortex_buffer.specs.Counts.{Rose}
use Rattle.vortex_io.specs.Source.{Completes, IsHonest, TakesNone, TakesOne, is_of_kind}
use Rattle.vortex_io.specs.declared.ids.IoOwnerId.{IoOwnerId}
use Rattle.vortex_io.specs.declared.ids.IoRequestId.{IoRequestId}
use Rattle.vortex_io.specs.declared.payload.Payload.{Ghosts as Meanings}
use Rattle.vortex_io.specs.declared.request.Completion.{Completion}
use Rattle.vortex_io.specs.declared.request.IoRequest.{IoRequest}
use Rattle.vortex_io.specs.declared.source.IoSource.{Ghosts}
use Rattle.vortex_scan.specs.declared.errors.RunError.{RunError}
use Rattle.vortex_scan.specs.declared.errors.RunError.TheVariants as error
use Rattle.vortex_scan.specs.declared.item.Item.{Item}
use Rattle.vortex_scan.specs.declared.item.Slot.{Slot}
use Rattle.vortex_scan_types.specs.declared.place.RootId.{RootId}
use Rattle.vortex_scan.specs.declared.state.Output.{Output}
use Rattle.vortex_scan.specs.declared.state.Output.TheVariants as output
use Rattle.vortex_scan.specs.declared.state.State.{State}
use Rattle.vortex_scan.specs.declared.state.State.TheVariants as state
use Rattle.vortex_scan.specs.declared.worker.Worker.{Ghosts as Works}
use Rattle.vortex_scan.specs.Asking.{AskingFails, root_at}
use Rattle.vortex_scan.specs.Fails.{AskFails, DeliverFails, FollowFails, PollMisses, PublishFails, VisitFails, WaitFails, WaitMisses}
use Rattle.vortex_scan.specs.Fetching.{is_answer}
use Rattle.vortex_scan.specs.Fits.{LiveFits}
use Rattle.vortex_scan.specs.Going.{AdvanceFails, AskingFailsThen, AskingOutFails, AsksOutFails, TurnFails, TurnFailsThen, VisitLeastFails, VisitingFails}
use Rattle.vortex_scan.specs.InStep.{IsInStep, LiedAt, LiesByCause, StaysInStep, kept_of}
use Rattle.vortex_scan.specs.RunState.{Live, RunState, is_of_root}
use Rattle.vortex_scan.specs.Sources.{KeepsEach}
use Rattle.vortex_scan.specs.Steps.{expects}
use Rattle.vortex_scan.proofs.Asked.{asks_all_fits}
use Rattle.vortex_scan.proofs.Tallies.{count_none, none_sum, one_if}
use Rattle.vortex_scan.proofs.Delivered.{asks_all_stays, asks_due_stays, asks_once_stays, gives_stays, goes_stays}
use Rattle.vortex_scan.proofs.Keeping.{asks_all_keeps, asks_due_keeps, asks_once_keeps, gives_keeps, goes_keeps, slot_before, slots_at}
use Rattle.vortex_scan.proofs.Places.{each_weaker, get_set, none_passes}
use Rattle.vortex_scan.proofs.Quieting.{rose_in_whole}
use Rattle.vortex_scan.proofs.Stepping.{taken_count, taken_named}

-- a count either rose or did not
rose_or_not : (before now : ℕ) → Rose before now ⊎ IsHonest before now
rose_or_not before now =
    elim (ltb before now) as (λ b. ltb before now ≡ b → Rose before now ⊎ IsHonest before now) [
      | true ↦ λ e. inl (inl (let less : before < now = grind (arith, nat_tests) in less))
      | false ↦ λ e.
          elim (eqb now (2 ^ 64 - 1)) as (λ b. eqb now (2 ^ 64 - 1) ≡ b → Rose before now ⊎ IsHonest before now) [
            | true ↦ λ f. inl (inr (let last : now ≡ 2 ^ 64 - 1 = grind (arith, nat_tests) in last))
            | false ↦ λ f. inr (λ rose. ⊎_elim (λ less. let t : ltb before now ≡ true = grind (arith, nat_tests) in cc) (λ last. let t : eqb now (2 ^ 64 - 1) ≡ true = grind (arith, nat_tests) in cc) rose)
          ] refl
    ] refl

and_none : (a b : Bool) → (a && b) ≡ false → a ≡ true → b ≡ false
and_none true b e f = e
and_none false b e f = absurd (cc)

unexpected : {W C : Type 0} (root : RootId) (completion : Completion C) (items : List (Item W)) → list_any (expects root completion) items ≡ false → sum_by (kept_of root (is_answer completion)) items ≡ 0
unexpected {W} root completion items none =
    none_sum (kept_of root (is_answer completion)) items
    (each_weaker (λ (item : Item W). expects root completion item ≡ false) (λ (item : Item W). kept_of root (is_answer completion) item ≡ 0) items
    (λ item e.
    elim (is_of_root root item) as (λ b. is_of_root root item ≡ b → cond b (count_by (is_answer completion) item.asked) 0 ≡ 0) [
      | true ↦ λ f. count_none (is_answer completion) item.asked (none_passes (is_answer completion) item.asked (and_none (is_of_root root item) (list_any (is_answer completion) item.asked) e f))
      | false ↦ λ f. refl
    ] refl)
    (none_passes (expects root completion) items none))

module _ {W S C V : Type 0} (source : Ghosts S C) (means : C → V) where
  -- what is not expected at a root in step was no honest completion
  must_lie : (root : RootId) (completion : Completion C) (live : Live W S) (slot : Slot S) (after : S) → slice_get live.slots root.0 ≡ Some slot → slot.live ≡ true
      → Completes means (source.content slot.source) (source.outstanding slot.source) (source.outstanding after) (source.lies slot.source) (source.lies after) completion
      → list_any (expects root completion) live.items ≡ false → IsInStep source live root → Rose (source.lies slot.source) (source.lies after)
  must_lie root completion live slot after there lives c none was =
      ⊎_elim (λ (one : TakesOne means (source.content slot.source) (source.outstanding slot.source) (source.outstanding after) (source.lies slot.source) (source.lies after) completion).
      ⊎_elim (λ rose. rose)
      (λ honest.
      let kind : is_of_kind one.entry.target completion.result ≡ true = (one.answers honest).kind in
      let named = taken_named completion.owner completion.request (source.outstanding slot.source) (source.outstanding after) one.entry one.taken in
      let passes : is_answer completion one.entry ≡ true = ap (λ b. b && is_of_kind one.entry.target completion.result) named ∙ kind in
      let counted = taken_count completion.owner completion.request (source.outstanding slot.source) (source.outstanding after) one.entry (is_answer completion) one.taken in
      let w = was slot there lives (is_answer completion) in
      let zero_sum = unexpected root completion live.items none in
      let one_more = ap one_if passes in
      absurd (omega (arith, counted, w, zero_sum, one_more)))
      (rose_or_not (source.lies slot.source) (source.lies after)))
      (λ (no_one : TakesNone (source.outstanding slot.source) (source.outstanding after) (source.lies slot.source) (source.lies after) completion). no_one.counted) c

module _ {S C : Type 0} (source : Ghosts S C) where
  lied_on : (root : RootId) (a b d : List (Slot S)) → KeepsEach source a b → LiedAt source root b d → LiedAt source root a d
  lied_on root a b d k f =
      let was = slot_before source a b root.0 f.before k f.there in
      let kept = slots_at source a b root.0 was.0 f.before k was.1 f.there in
      record {
        before = was.0;
        there = was.1;
        after = f.after;
        now = f.now;
        lied = rose_in_whole (source.lies was.0.source) (source.lies f.before.source) (source.lies f.after.source) kept.keeps.lies f.lied;
      }

  pub lies_on : {W E : Type 0} (why : RunError E) (a b : Live W S) (d : List (Slot S)) → KeepsEach source a.slots b.slots → StaysInStep source a b → LiesByCause source why b d → LiesByCause source why a d
  lies_on why a b d k s f root owner request e was = lied_on root a.slots b.slots d k (f root owner request e (s root was))

module _ {W S C : Type 0} (source : Ghosts S C) where
  publish_lies : {E : Type 0} (works : Works W C E) (batch : List IoRequest) (item : Item W) (old new : Live W S) (why : RunError E) (root : RootId) (owner : IoOwnerId) (request : IoRequestId) → why ≡ error.Protocol root owner request → PublishFails works source batch item old new why → ⊥
  publish_lies works batch item old new why root owner request e f =
      ⊎_elim (λ a. let h = a.0 in cc) (λ g. ⊎_elim (λ a. let h = a.0 in cc) (λ k. ⊎_elim (λ a. let h = a.0 in cc) (λ a. let h = a.0 in cc) k) g) f

  follow_lies : {E : Type 0} (works : Works W C E) (answer : Result (Output W) E) (item : Item W) (old new : Live W S) (why : RunError E) (root : RootId) (owner : IoOwnerId) (request : IoRequestId) → why ≡ error.Protocol root owner request → FollowFails works source answer item old new why → ⊥
  follow_lies works (Err failure) item old new why root owner request e f = cc
  follow_lies works (Ok output.Done) item old new why root owner request e f = f
  follow_lies works (Ok output.Continue) item old new why root owner request e f = f
  follow_lies works (Ok (output.NeedsIO batch)) item old new why root owner request e f = ⊎_elim (λ memory. cc) (λ g. publish_lies works batch item old new why root owner request e g) f
  follow_lies works (Ok (output.Child scope work)) item old new why root owner request e f = ⊎_elim (λ memory. cc) (λ a. let h = a.0 in cc) f
  follow_lies works (Ok (output.Batch array)) item old new why root owner request e f = ⊎_elim (λ memory. cc) (λ a. let h = a.0 in cc) f

  visit_lies : {E : Type 0} (works : Works W C E) (shown : State) (at : ℕ) (item : Item W) (old new : Live W S) (why : RunError E) (root : RootId) (owner : IoOwnerId) (request : IoRequestId) → why ≡ error.Protocol root owner request → VisitFails works source shown at item old new why → ⊥
  visit_lies works state.Done at item old new why root owner request e f = f
  visit_lies works state.Waiting at item old new why root owner request e f = let h = f.0 in cc
  visit_lies {E} works state.NeedsCompute at item old new why root owner request e f = follow_lies works f.0 (record item { work = f.1 }) (record old { items = set old.items at (record item { work = f.1 }) }) new why root owner request e f.3

module _ {W S C E : Type 0} (works : Works W C E) (source : Ghosts S C) (payload : Meanings C) where
  -- what came could not be delivered
  miss_lies : (root other : RootId) (owner : IoOwnerId) (request : IoRequestId) (completion : Completion C) (old : Live W S) (slots : List (Slot S)) (why : RunError E) (slot : Slot S) (after : S) → why ≡ error.Protocol other owner request → DeliverFails works root completion old.items why
      → slice_get old.slots root.0 ≡ Some slot → slot.live ≡ true → Completes payload.means (source.content slot.source) (source.outstanding slot.source) (source.outstanding after) (source.lies slot.source) (source.lies after) completion
      → slots ≡ set old.slots root.0 (record slot { source = after }) → IsInStep source old other → LiedAt source other old.slots slots
  miss_lies root other owner request completion old slots why slot after e f there lives c now was =
      ⊎_elim (λ p.
      let h = p.0 in
      let same : root ≡ other = cc in
      let mine : IsInStep source old root = rw same was in
      rw same at (let lied : LiedAt source root old.slots slots = record {
        before = slot;
        there = there;
        after = record slot { source = after };
        now = rw now (get_set old.slots root.0 slot (record slot { source = after }) there);
        lied = must_lie source payload.means root completion old slot after there lives c p.1 mine;
      } in lied))
      (λ w. absurd (let h = w.0 in cc)) f

  ask_lies : (root : RootId) (old new : Live W S) (why : RunError E) → AskFails works source payload root old new why → LiesByCause source why old new.slots
  ask_lies root old new why f other owner request e was =
      ⊎_elim (λ memory. absurd (let h = memory.0 in cc))
      (λ g. ⊎_elim (λ faults. absurd (let h = faults.0 in cc))
      (λ (m : PollMisses works source payload root old new why). miss_lies root other owner request m.completion old new.slots why m.slot m.after e m.fails m.there m.live m.polls.accounts m.now was) g) f

  pub wait_lies : (root : RootId) (old new : Live W S) (why : RunError E) → WaitFails works source payload root old new why → LiesByCause source why old new.slots
  wait_lies root old new why f other owner request e was =
      ⊎_elim (λ memory. absurd (let h = memory.0 in cc))
      (λ g. ⊎_elim (λ faults. absurd (let h = faults.0 in cc))
      (λ (m : WaitMisses works source payload root old new why). miss_lies root other owner request m.completion old new.slots why m.slot m.after e m.fails m.there m.live m.waits.accounts m.now was) g) f

  pub asking_lies : (old new : Live W S) (why : RunError E) → LiveFits source old → AskingFails works source payload old new why → LiesByCause source why old new.slots
  asking_lies old new why fits f =
      lies_on source why old f.between new.slots (asks_once_keeps works source payload f.number old f.between f.came f.asked) (asks_once_stays works source payload f.number old f.between f.came fits f.asked)
      (ask_lies (root_at f.number) f.between new why f.fails)

  out_lies : (root : ℕ) (old new : Live W S) (why : RunError E) → LiveFits source old → AsksOutFails works source payload root old new why → LiesByCause source why old new.slots
  out_lies root old new why fits f =
      lies_on source why old f.between new.slots (gives_keeps works source payload root f.times old f.between f.gives) (gives_stays works source payload root f.times old f.between fits f.gives) (ask_lies (root_at root) f.between new why f.fails)

  all_lies : (old new : Live W S) (why : RunError E) → LiveFits source old → AskingOutFails works source payload old new why → LiesByCause source why old new.slots
  all_lies old new why fits f =
      lies_on source why old f.between new.slots (asks_all_keeps works source payload f.root old f.between f.before) (asks_all_stays works source payload f.root old f.between fits f.before)
      (out_lies f.root f.between new why (asks_all_fits works source payload f.root old f.between fits f.before) f.fails)

  visiting_lies : (old new : RunState W S) (why : RunError E) → VisitingFails works source old new why → LiesByCause source why old.live new.live.slots
  visiting_lies old new why f root owner request e was =
      ⊎_elim (λ l. absurd (let h = l.0 in cc)) (λ (v : VisitLeastFails works source old new why). absurd (visit_lies source works (works.state_is v.item.work) v.at v.item old.live new.live why root owner request e v.fails)) f

  turn_lies : (old new : RunState W S) (why : RunError E) → LiveFits source old.live → TurnFails works source payload old new why → LiesByCause source why old.live new.live.slots
  turn_lies old new why fits f =
      ⊎_elim (λ (a : AskingFailsThen works source payload old new why). all_lies old.live new.live why fits a.fails)
      (λ (t : TurnFailsThen works source payload old new why).
      lies_on source why old.live t.between.live new.live.slots (asks_due_keeps works source payload t.asked old t.between t.asks) (asks_due_stays works source payload t.asked old t.between fits t.asks) (visiting_lies t.between new why t.fails)) f

  pub advance_lies : (old new : RunState W S) (why : RunError E) → LiveFits source old.live → AdvanceFails works source payload old new why → LiesByCause source why old.live new.live.slots
  advance_lies old new why fits a =
      let before = goes_stays works source payload a.turns old a.between fits a.goes in
      lies_on source why old.live a.between.live new.live.slots (goes_keeps works source payload a.turns old a.between a.goes) before.0 (turn_lies a.between new why before.1 a.fails)
