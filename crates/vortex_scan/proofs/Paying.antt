-- Visits are paid for by asking.
use Rattle.std.proofs.Common.{◌≡◌, ℕ, zero, suc, ◌+◌, ◌-◌, ◌*◌, ◌^◌, ◌<◌, ◌≤◌, refl, ◌∙◌, ap, Bool, true, false, Option, None, Some, arith, length, ⊎_elim}
use Rattle.std.specs.Prelude.{slice_get}
use Rattle.std.specs.Option.{option_map}
use Rattle.std.proofs.lemmas.Bool.Decides.{nat_tests}
use Rattle.vortex_io.specs.declared.payload.Payload.{Ghosts as Meanings}
use Rattle.vortex_io.specs.declared.source.IoSource.{Ghosts}
use Rattle.vortex_scan.specs.declared.errors.Progress.{Progress}
use Rattle.vortex_scan.specs.declared.errors.Progress.TheVariants as progress
use Rattle.vortex_scan.specs.declared.errors.RunError.{RunError}
use Rattle.vortex_scan.specs.declared.errors.Visited.{Visited}
use Rattle.vortex_scan.specs.declared.errors.Visited.TheVariants as visited
use Rattle.vortex_scan.specs.declared.item.Slot.{Slot}
use Rattle.vortex_scan.specs.declared.worker.Worker.{Ghosts as Works}
use Rattle.vortex_scan.specs.Fits.{visits_since}
use Rattle.vortex_scan.specs.Going.{AdvanceFails, Advances, AskingFailsThen, AsksIfDue, Ends, GoesOn, TurnFails, TurnFailsThen, Turns, VisitLeastFails, VisitingFails}
use Rattle.vortex_scan.specs.RunState.{RunState}
use Rattle.vortex_scan.specs.Sources.{KeepsEach}
use Rattle.vortex_scan.specs.Visits.{is_due}
use Rattle.vortex_scan.specs.Whole.{AsksEnough}
use Rattle.vortex_scan.proofs.Keeping.{asks_all_keeps, asks_due_keeps, ends_keeps, goes_keeps, slot_after, slots_at, turns_keeps, visits_keeps}
use Rattle.vortex_scan.proofs.Kept.{each_on, each_same}
use Rattle.vortex_scan.proofs.Quieting.{asks_all_are_quiet, rose_then}
use Rattle.vortex_scan.proofs.Turning.{since_more}

-- the same with sums alone
abbrev pub Paid : {W S C : Type 0} → Ghosts S C → RunState W S → RunState W S → Type 0
Paid {W} {S} source old new = (root : ℕ) (before after : Slot S) → slice_get old.live.slots root ≡ Some before → slice_get new.live.slots root ≡ Some after
    → after.live ≡ true → source.quiet after.source < 2 ^ 64 - 1
    → visits_since old.since + new.visits + 64 * source.quiet before.source ≤ visits_since new.since + old.visits + 64 * source.quiet after.source

since_again : (since : Option ℕ) → visits_since since < 64 → visits_since (option_map (λ visits. visits + 1) since) ≡ visits_since since + 1
since_again None h = absurd (omega (arith, h))
since_again (Some visits) h = refl

not_due : (since : Option ℕ) → is_due since ≡ false → visits_since since < 64
not_due None h = absurd (cc)
not_due (Some visits) h = grind (arith, nat_tests)

module _ {W S C : Type 0} (source : Ghosts S C) where
  paid_on : (a b d : RunState W S) → KeepsEach source a.live.slots b.live.slots → KeepsEach source b.live.slots d.live.slots → Paid source a b → Paid source b d → Paid source a d
  paid_on a b d k l p q root before after there now live below =
      let mid = slot_after source a.live.slots b.live.slots root before k there in
      let then = slots_at source b.live.slots d.live.slots root mid.0 after l mid.1 now in
      let more = then.keeps.quiet in
      let first = p root before mid.0 there mid.1 (then.ends live) (omega (arith, more, below)) in
      let second = q root mid.0 after mid.1 now live below in
      omega (arith, first, second)

  -- nothing was visited, and the sources were kept
  paid_same : (old new : RunState W S) → KeepsEach source old.live.slots new.live.slots → new.visits ≡ old.visits → new.since ≡ old.since → Paid source old new
  paid_same old new k visits since root before after there now live below =
      let kept = slots_at source old.live.slots new.live.slots root before after k there now in
      let more = kept.keeps.quiet in
      let s = ap visits_since since in
      omega (arith, more, s, visits)

  -- one visit counted, and the sources were kept
  paid_visit : (old new : RunState W S) → KeepsEach source old.live.slots new.live.slots → visits_since old.since < 64 → new.visits ≡ old.visits + 1 → new.since ≡ option_map (λ visits. visits + 1) old.since → Paid source old new
  paid_visit old new k short visits since root before after there now live below =
      let kept = slots_at source old.live.slots new.live.slots root before after k there now in
      let more = kept.keeps.quiet in
      let s = ap visits_since since ∙ since_again old.since short in
      omega (arith, more, s, visits)

  pub enough_same : (run : RunState W S) → AsksEnough source run run
  enough_same run root before after made found there now live below visits quiet = omega (arith, visits)

  pub enough : (old new : RunState W S) → Paid source old new → AsksEnough source old new
  enough old new p root before after made found there now live below visits quiet =
      let h = p root before after there now live below in
      omega (arith, h, visits, quiet)

module _ {W S C E : Type 0} (works : Works W C E) (source : Ghosts S C) (payload : Meanings C) where
  due_paid : (asked : Bool) (old new : RunState W S) → visits_since old.since ≤ 64 → AsksIfDue works source payload asked old new → Paid source old new × (visits_since new.since < 64)
  due_paid true old new short a =
      let n = a.1.now in
      let zero_since : visits_since new.since ≡ 0 = ap (λ (r : RunState W S). visits_since r.since) n in
      let visits : new.visits ≡ old.visits = ap (λ (r : RunState W S). r.visits) n in (
        λ root before after there now live below.
            let q = asks_all_are_quiet works source payload old.live new.live a.1.asks root before after there now live in
            let kept = slots_at source old.live.slots new.live.slots root before after (asks_all_keeps works source payload (length old.live.slots) old.live new.live a.1.asks) there now in
            let rose = rose_then (source.quiet before.source) (source.quiet after.source) (source.quiet after.source) q.0 (omega arith) below in
            omega (arith, rose, short, zero_since, visits),
        omega (arith, zero_since),
      )
  due_paid false old new short a =
      let since : new.since ≡ old.since = ap (λ (r : RunState W S). r.since) a.0 in
      let less = not_due old.since a.1 in
      let s = ap visits_since since in
      (paid_same source old new (asks_due_keeps works source payload false old new a) (ap (λ (r : RunState W S). r.visits) a.0) since, omega (arith, s, less))

  turn_paid : (old new : RunState W S) (came : Visited) → visits_since old.since ≤ 64 → Turns works source payload old new came → Paid source old new × (visits_since new.since ≤ 64)
  turn_paid old new came short t =
      let v = t.visits in
      let first = due_paid t.asked old t.between short t.asks in
      let since : new.since ≡ option_map (λ visits. visits + 1) t.between.since = ap (λ (r : RunState W S). r.since) v.now in
      let kept = visits_keeps source works (works.state_is v.item.work) v.at v.item t.between.live new.live came v.visits in
      let more = since_more t.between.since first.1 in
      let s = ap visits_since since in (
        paid_on source old t.between new (asks_due_keeps works source payload t.asked old t.between t.asks) kept first.0
            (paid_visit source t.between new kept first.1 (ap (λ (r : RunState W S). r.visits) v.now) since),
        omega (arith, s, more),
      )

  goes_paid : (turns : ℕ) (old new : RunState W S) → visits_since old.since ≤ 64 → GoesOn works source payload turns old new → Paid source old new × (visits_since new.since ≤ 64)
  goes_paid zero old new short g =
      let since : new.since ≡ old.since = ap (λ (r : RunState W S). r.since) g in
      let s = ap visits_since since in
      (paid_same source old new (goes_keeps works source payload zero old new g) (ap (λ (r : RunState W S). r.visits) g) since, omega (arith, s, short))
  goes_paid (suc turns) old new short g =
      let first = goes_paid turns old g.0 short g.1 in
      let last = turn_paid g.0 new visited.Went first.1 g.2 in
      (paid_on source old g.0 new (goes_keeps works source payload turns old g.0 g.1) (turns_keeps works source payload g.0 new visited.Went g.2) first.0 last.0, last.1)

  ends_paid : (old new : RunState W S) (answer : Progress) → visits_since old.since ≤ 64 → Ends works source payload old new answer → Paid source old new
  ends_paid old new (progress.Batch batch) short t = (turn_paid old new (visited.Batch batch) short t).0
  ends_paid old new (progress.RootDone root) short t = (turn_paid old new (visited.RootDone root) short t).0
  ends_paid old new progress.Waiting short t = (due_paid true old new short t.0).0
  ends_paid old new progress.Idle short t = (due_paid true old new short t.0).0

  pub advances_enough : (old new : RunState W S) (answer : Progress) → visits_since old.since ≤ 64 → Advances works source payload old new answer → AsksEnough source old new
  advances_enough old new answer short a =
      let first = goes_paid a.turns old a.between short a.goes in
      enough source old new (paid_on source old a.between new (goes_keeps works source payload a.turns old a.between a.goes) (ends_keeps works source payload a.between new answer a.ends) first.0 (ends_paid a.between new answer first.1 a.ends))

  visiting_paid : (old new : RunState W S) (why : RunError E) → visits_since old.since < 64 → VisitingFails works source old new why → Paid source old new × KeepsEach source old.live.slots new.live.slots
  visiting_paid old new why short f =
      ⊎_elim (λ l.
      let same = l.2 in
      let k : KeepsEach source old.live.slots new.live.slots = rw same (each_same source old.live.slots) in
      (paid_same source old new k (ap (λ (r : RunState W S). r.visits) same) (ap (λ (r : RunState W S). r.since) same), k))
      (λ (v : VisitLeastFails works source old new why). (paid_visit source old new v.sources short v.visits v.since, v.sources)) f

  then_paid : (old new : RunState W S) (why : RunError E) → visits_since old.since ≤ 64 → TurnFailsThen works source payload old new why → Paid source old new × KeepsEach source old.live.slots new.live.slots
  then_paid old new why short t =
      let first = due_paid t.asked old t.between short t.asks in
      let kept = asks_due_keeps works source payload t.asked old t.between t.asks in
      let last = visiting_paid t.between new why first.1 t.fails in
      (paid_on source old t.between new kept last.1 first.0 last.0, each_on source old.live.slots t.between.live.slots new.live.slots kept last.1)

  turn_fails_paid : (old new : RunState W S) (why : RunError E) → visits_since old.since ≤ 64 → TurnFails works source payload old new why → Paid source old new × KeepsEach source old.live.slots new.live.slots
  turn_fails_paid old new why short f =
      ⊎_elim (λ (a : AskingFailsThen works source payload old new why). (paid_same source old new a.sources a.visits a.since, a.sources)) (λ (t : TurnFailsThen works source payload old new why). then_paid old new why short t) f

  pub fails_enough : (old new : RunState W S) (why : RunError E) → visits_since old.since ≤ 64 → AdvanceFails works source payload old new why → AsksEnough source old new
  fails_enough old new why short a =
      let first = goes_paid a.turns old a.between short a.goes in
      let last = turn_fails_paid a.between new why first.1 a.fails in
      enough source old new (paid_on source old a.between new (goes_keeps works source payload a.turns old a.between a.goes) last.1 first.0 last.0)
