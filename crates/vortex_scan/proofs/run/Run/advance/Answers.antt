use Rattle.std.proofs.Common.{◌≡◌, ◌∙◌, refl, inr, ap, None, Ok}
use Rattle.vortex_scan.specs.declared.errors.Progress.TheVariants.{Idle}
use Rattle.vortex_scan.specs.Asking.{root_at}
use Rattle.vortex_scan.specs.Bag.{work_owed}
use Rattle.vortex_scan.specs.Going.{state_with}
use Rattle.vortex_scan.specs.RunState.{live_with}
use Rattle.vortex_scan.proofs.Bagged.{advance_bag, emptied}
use Rattle.vortex_scan.proofs.Delivered.{advances_stay}
use Rattle.vortex_scan.proofs.Expecting.{advance_lies}
use Rattle.vortex_scan.proofs.Faulting.{advance_cause}
use Rattle.vortex_scan.proofs.Idling.{fails_with_items, idle_exactly}
use Rattle.vortex_scan.proofs.Kept.{each_long, each_same}
use Rattle.vortex_scan.proofs.Owing.{publishes_by, work_owes}
use Rattle.vortex_scan.proofs.Paying.{advances_enough, enough_same, fails_enough}
use Rattle.vortex_scan.proofs.Quieting.{at_rest}
use Rattle.vortex_scan.proofs.Rooted.{advances_peopled, advances_tell}
use Rattle.vortex_scan.proofs.Turning.{waiting_asks, waiting_of}
use Rattle.vortex_scan.proofs.WholeOrder.{advance_gives, advance_orderly, failed_in_order}
use Rattle.vortex_scan.proofs.Ordering.{work_orderly}
use Rattle.vortex_scan.proofs.Refusing.{advance_in_order}
use Rattle.vortex_scan.proofs.Permitted.{advance_fails_permitted, advance_permits_less}
use Rattle.vortex_scan.proofs.FailedSeats.{advance_spends_at_most, failed_stands, same_spends_at_most}
use Rattle.vortex_scan.proofs.Noting.{advance_adds_no_wait, failed_adds_no_wait, same_adds_no_wait, same_faults_no_sure}
use Rattle.vortex_scan.proofs.Planning.{work_plans}
use Rattle.vortex_scan.proofs.RestingSeats.{waiting_none_fresh}
use Rattle.vortex_scan.proofs.WholeSeats.{advance_passed, keeps_fresh, keeps_seats, spends_seats, surely_stands, takes_seats}
use Rattle.vortex_scan.proofs.run.Run.advance.Goals as goal

pub returns-then-self-clause-sources : goal.returns-then-self-clause-sources
returns-then-self-clause-sources g c = each_same g.S.IoSource _

pub returns-then-self-clause-asking : goal.returns-then-self-clause-asking
returns-then-self-clause-asking g c =
    rw (← c.self.view_is) (enough_same g.S.IoSource (state_with c.self.inside.items.items c.self.inside.slots.items c.self.inside.next_owner c.self.inside.counts c.self.inside.next_root))

pub returns-then-self-clause-idle : goal.returns-then-self-clause-idle
returns-then-self-clause-idle g c = rw (← c.self.view_is) (λ e. absurd (cc), λ b. absurd (let t = c.if-self.true in let f = b.0 in cc))

pub returns-then-self-clause-cause : goal.returns-then-self-clause-cause
returns-then-self-clause-cause g c = λ root e. absurd (cc)

pub go_on-requires : goal.go_on-requires
go_on-requires g c = (c.self.invariant.fits c.if-self.false).live

pub invariant_of-self : goal.invariant_of-self
invariant_of-self g c =
    let inv = c.self.invariant in
    let long = each_long g.S.IoSource c.self.inside.slots.items c.go_on.new.slots.items c.go_on.ensures.sources in
    record {
      none = inv.none;
      enough = rw long inv.enough;
      fits = λ well.
          let f = inv.fits well in
          record {
            roots = long ∙ f.roots;
            live = c.in-Ok.ensures.fits;
            peopled = advances_peopled _ g.S.IoSource _ (state_with c.self.inside.items.items c.self.inside.slots.items c.self.inside.next_owner c.self.inside.counts c.self.inside.next_root)
                (state_with c.go_on.new.items.items c.go_on.new.slots.items c.go_on.new.next_owner c.go_on.new.counts c.self.inside.next_root) c.in-Ok.answer f.live (c.in-Ok.ensures.ok c.self.inside.next_root) f.peopled;
            since = c.in-Ok.ensures.since;
          };
      named = λ told well. (advance_bag _ g.S.IoSource _ _ (work_owes _ _ _ _ _ _ _ _ _ _ _ (g.met.P.Planner.owes told.0) (g.met.P.Morsel.Morsel.owes told.1)) (state_with c.self.inside.items.items c.self.inside.slots.items c.self.inside.next_owner c.self.inside.counts c.self.inside.next_root)
          (state_with c.go_on.new.items.items c.go_on.new.slots.items c.go_on.new.next_owner c.go_on.new.counts c.self.inside.next_root) c.in-Ok.answer (inv.fits well).live (inv.named told well) (c.in-Ok.ensures.ok c.self.inside.next_root)).0;
      planned = λ told well.
          let plans = told.0 in
          let morsels = told.1 in
          (advance_passed _ g.S.IoSource _ _ _ _ (work_plans _ _ _ _ _ _ _ _ _ _ _ _ _ (g.met.P.Planner.follows_plan plans) (g.met.P.Morsel.Morsel.follows_plan morsels)) (g.P.Planner.tells × g.P.Morsel.Morsel.tells) (λ t. publishes_by _ _ _ _ _ _ _ _ _ _ _ (g.met.P.Planner.owes t.0) (g.met.P.Morsel.Morsel.owes t.1)) (root_at 0) None (state_with c.self.inside.items.items c.self.inside.slots.items c.self.inside.next_owner c.self.inside.counts c.self.inside.next_root) (state_with c.go_on.new.items.items c.go_on.new.slots.items c.go_on.new.next_owner c.go_on.new.counts c.self.inside.next_root) c.in-Ok.answer
          ((inv.fits well).live, (λ t. inv.named t well), inv.planned told well) (c.in-Ok.ensures.ok c.self.inside.next_root)).0.2;
    }

pub invariant_of-self-in-Err : goal.invariant_of-self-in-Err
invariant_of-self-in-Err g c =
    let inv = c.self.invariant in
    let long = each_long g.S.IoSource c.self.inside.slots.items c.go_on.new.slots.items c.go_on.ensures.sources in
    record { none = inv.none; enough = rw long inv.enough; fits = λ well. absurd (cc); named = λ told well. absurd (cc); planned = λ told well. absurd (cc) }

pub returns-in-Ok-clause-ok : goal.returns-in-Ok-clause-ok
returns-in-Ok-clause-ok g c = rw (← c.self.view_is, c.if-self.false) (refl, c.in-Ok.ensures.ok c.self.inside.next_root)

pub returns-in-Ok-clause-waiting : goal.returns-in-Ok-clause-waiting
returns-in-Ok-clause-waiting g c = λ e.
    let w = waiting_of _ g.S.IoSource _ _ _ c.in-Ok.answer (c.in-Ok.ensures.ok c.self.inside.next_root) e in
    (c.if-self.false, waiting_asks g.S.IoSource (live_with c.go_on.new.items.items c.go_on.new.slots.items c.go_on.new.next_owner) c.in-Ok.ensures.fits w.0 w.1)

pub returns-in-Ok-clause-rests : goal.returns-in-Ok-clause-rests
returns-in-Ok-clause-rests g c = rw (← c.self.view_is) (λ e. at_rest _ g.S.IoSource _ _ _ c.in-Ok.answer c.in-Ok.ensures.fits (c.in-Ok.ensures.ok c.self.inside.next_root) e)

pub returns-in-Ok-clause-idle : goal.returns-in-Ok-clause-idle
returns-in-Ok-clause-idle g c =
    let f = c.self.invariant.fits c.if-self.false in
    let i = idle_exactly _ g.S.IoSource _ _ _ c.in-Ok.answer f.live (c.in-Ok.ensures.ok c.self.inside.next_root) in
    rw (← c.self.view_is) (λ e. (c.if-self.false, i.0 (let same : c.in-Ok.answer ≡ Idle = cc in same)), λ b. ap (λ answer. Ok answer) (i.1 b.1))

pub returns-in-Ok-clause-roots : goal.returns-in-Ok-clause-roots
returns-in-Ok-clause-roots g c = rw (← c.self.view_is) (advances_tell _ g.S.IoSource _ _ _ c.in-Ok.answer (c.self.invariant.fits c.if-self.false).live (c.in-Ok.ensures.ok c.self.inside.next_root))

pub returns-in-Ok-clause-asking : goal.returns-in-Ok-clause-asking
returns-in-Ok-clause-asking g c = rw (← c.self.view_is) (advances_enough _ g.S.IoSource _ _ _ c.in-Ok.answer (c.self.invariant.fits c.if-self.false).since (c.in-Ok.ensures.ok c.self.inside.next_root))

pub returns-in-Err-clause-err : goal.returns-in-Err-clause-err
returns-in-Err-clause-err g c = rw (← c.self.view_is, c.if-self.false) (inr (refl, refl, c.in-Err.ensures.err c.self.inside.next_root))

pub returns-in-Err-clause-idle : goal.returns-in-Err-clause-idle
returns-in-Err-clause-idle g c =
    let f = c.self.invariant.fits c.if-self.false in
    rw (← c.self.view_is) (λ e. absurd (cc), λ b. absurd (fails_with_items _ g.S.IoSource _ _ _ c.in-Err.error f.live f.peopled (c.in-Err.ensures.err c.self.inside.next_root) b.1))

pub returns-in-Err-clause-asking : goal.returns-in-Err-clause-asking
returns-in-Err-clause-asking g c = rw (← c.self.view_is) (fails_enough _ g.S.IoSource _ _ _ c.in-Err.error (c.self.invariant.fits c.if-self.false).since (c.in-Err.ensures.err c.self.inside.next_root))

pub returns-in-Err-clause-cause : goal.returns-in-Err-clause-cause
returns-in-Err-clause-cause g c = rw (← c.self.view_is) (advance_cause _ g.S.IoSource _ _ _ c.in-Err.error (c.self.invariant.fits c.if-self.false).live (c.in-Err.ensures.err c.self.inside.next_root))

pub returns-then-self-clause-unexpected : goal.returns-then-self-clause-unexpected
returns-then-self-clause-unexpected g c = λ root owner request e was. absurd (cc)

pub returns-in-Err-clause-unexpected : goal.returns-in-Err-clause-unexpected
returns-in-Err-clause-unexpected g c = rw (← c.self.view_is) (advance_lies _ g.S.IoSource _ _ _ c.in-Err.error (c.self.invariant.fits c.if-self.false).live (c.in-Err.ensures.err c.self.inside.next_root))

pub returns-in-Ok-clause-in_step : goal.returns-in-Ok-clause-in_step
returns-in-Ok-clause-in_step g c = rw (← c.self.view_is) (advances_stay _ g.S.IoSource _ _ _ c.in-Ok.answer (c.self.invariant.fits c.if-self.false).live (c.in-Ok.ensures.ok c.self.inside.next_root))

pub returns-in-Ok-clause-bag : goal.returns-in-Ok-clause-bag
returns-in-Ok-clause-bag g c = rw (← c.self.view_is) (λ planners morsels.
    (advance_bag _ g.S.IoSource _ _ (work_owes _ _ _ _ _ _ _ _ _ _ _ (g.met.P.Planner.owes planners) (g.met.P.Morsel.Morsel.owes morsels)) (state_with c.self.inside.items.items c.self.inside.slots.items c.self.inside.next_owner c.self.inside.counts c.self.inside.next_root)
    (state_with c.go_on.new.items.items c.go_on.new.slots.items c.go_on.new.next_owner c.go_on.new.counts c.self.inside.next_root) c.in-Ok.answer (c.self.invariant.fits c.if-self.false).live (c.self.invariant.named (planners, morsels) c.if-self.false) (c.in-Ok.ensures.ok c.self.inside.next_root)).1)

pub returns-in-Ok-clause-emptied : goal.returns-in-Ok-clause-emptied
returns-in-Ok-clause-emptied g c = emptied _ g.S.IoSource _ (work_owed g.P.Planner.owed g.P.Morsel.Morsel.owed) (state_with c.self.inside.items.items c.self.inside.slots.items c.self.inside.next_owner c.self.inside.counts c.self.inside.next_root)
    (state_with c.go_on.new.items.items c.go_on.new.slots.items c.go_on.new.next_owner c.go_on.new.counts c.self.inside.next_root) c.in-Ok.answer (c.in-Ok.ensures.ok c.self.inside.next_root)

pub returns-in-Ok-clause-orderly : goal.returns-in-Ok-clause-orderly
returns-in-Ok-clause-orderly g c = rw (← c.self.view_is) ((advance_orderly _ g.S.IoSource _ (work_orderly _ _ _ _ _ _ _ _ _ _ _ _ _ _ _ _ _ _ _ g.met.P.Planner.is_orderly g.met.P.Morsel.Morsel.is_orderly) (state_with c.self.inside.items.items c.self.inside.slots.items c.self.inside.next_owner c.self.inside.counts c.self.inside.next_root)
    (state_with c.go_on.new.items.items c.go_on.new.slots.items c.go_on.new.next_owner c.go_on.new.counts c.self.inside.next_root) c.in-Ok.answer (c.self.invariant.fits c.if-self.false).live (c.in-Ok.ensures.ok c.self.inside.next_root)).0)

pub returns-in-Ok-clause-work : goal.returns-in-Ok-clause-work
returns-in-Ok-clause-work g c = rw (← c.self.view_is) ((advance_orderly _ g.S.IoSource _ (work_orderly _ _ _ _ _ _ _ _ _ _ _ _ _ _ _ _ _ _ _ g.met.P.Planner.is_orderly g.met.P.Morsel.Morsel.is_orderly) (state_with c.self.inside.items.items c.self.inside.slots.items c.self.inside.next_owner c.self.inside.counts c.self.inside.next_root)
    (state_with c.go_on.new.items.items c.go_on.new.slots.items c.go_on.new.next_owner c.go_on.new.counts c.self.inside.next_root) c.in-Ok.answer (c.self.invariant.fits c.if-self.false).live (c.in-Ok.ensures.ok c.self.inside.next_root)).1)

pub returns-in-Ok-clause-order : goal.returns-in-Ok-clause-order
returns-in-Ok-clause-order g c = advance_gives _ g.S.IoSource _ (state_with c.self.inside.items.items c.self.inside.slots.items c.self.inside.next_owner c.self.inside.counts c.self.inside.next_root)
    (state_with c.go_on.new.items.items c.go_on.new.slots.items c.go_on.new.next_owner c.go_on.new.counts c.self.inside.next_root) c.in-Ok.answer (c.in-Ok.ensures.ok c.self.inside.next_root)

pub returns-then-self-clause-disorder : goal.returns-then-self-clause-disorder
returns-then-self-clause-disorder g c = λ orderly. failed_in_order _ _ _ refl

pub returns-in-Err-clause-disorder : goal.returns-in-Err-clause-disorder
returns-in-Err-clause-disorder g c = rw (← c.self.view_is, c.if-self.false) (advance_in_order _ g.S.IoSource _ (work_orderly _ _ _ _ _ _ _ _ _ _ _ _ _ _ _ _ _ _ _ g.met.P.Planner.is_orderly g.met.P.Morsel.Morsel.is_orderly) (state_with c.self.inside.items.items c.self.inside.slots.items c.self.inside.next_owner c.self.inside.counts c.self.inside.next_root)
    (state_with c.go_on.new.items.items c.go_on.new.slots.items c.go_on.new.next_owner c.go_on.new.counts c.self.inside.next_root) c.in-Err.error (c.self.invariant.fits c.if-self.false).live (c.in-Err.ensures.err c.self.inside.next_root))

pub returns-then-self-clause-permits : goal.returns-then-self-clause-permits
returns-then-self-clause-permits g c = λ planners morsels root failure content e. absurd (cc)

pub returns-in-Err-clause-permits : goal.returns-in-Err-clause-permits
returns-in-Err-clause-permits g c = rw (← c.self.view_is) (λ planners morsels.
    advance_fails_permitted _ g.S.IoSource _ (work_orderly _ _ _ _ _ _ _ _ _ _ _ _ _ _ _ _ _ _ _ g.met.P.Planner.is_orderly g.met.P.Morsel.Morsel.is_orderly) _ (work_owes _ _ _ _ _ _ _ _ _ _ _ (g.met.P.Planner.owes planners) (g.met.P.Morsel.Morsel.owes morsels)) (state_with c.self.inside.items.items c.self.inside.slots.items c.self.inside.next_owner c.self.inside.counts c.self.inside.next_root)
    (state_with c.go_on.new.items.items c.go_on.new.slots.items c.go_on.new.next_owner c.go_on.new.counts c.self.inside.next_root) c.in-Err.error (c.self.invariant.fits c.if-self.false).live (c.self.invariant.named (planners, morsels) c.if-self.false) (c.in-Err.ensures.err c.self.inside.next_root))

pub returns-in-Ok-clause-permitted : goal.returns-in-Ok-clause-permitted
returns-in-Ok-clause-permitted g c = rw (← c.self.view_is) (λ planners morsels.
    advance_permits_less _ g.S.IoSource _ (work_orderly _ _ _ _ _ _ _ _ _ _ _ _ _ _ _ _ _ _ _ g.met.P.Planner.is_orderly g.met.P.Morsel.Morsel.is_orderly) _ (work_owes _ _ _ _ _ _ _ _ _ _ _ (g.met.P.Planner.owes planners) (g.met.P.Morsel.Morsel.owes morsels)) (state_with c.self.inside.items.items c.self.inside.slots.items c.self.inside.next_owner c.self.inside.counts c.self.inside.next_root)
    (state_with c.go_on.new.items.items c.go_on.new.slots.items c.go_on.new.next_owner c.go_on.new.counts c.self.inside.next_root) c.in-Ok.answer (c.self.invariant.fits c.if-self.false).live (c.self.invariant.named (planners, morsels) c.if-self.false) (c.in-Ok.ensures.ok c.self.inside.next_root))

pub returns-in-Ok-clause-seats : goal.returns-in-Ok-clause-seats
returns-in-Ok-clause-seats g c = rw (← c.self.view_is) (λ plans morsels.
    keeps_seats g.S.IoSource _ _ _ _ _ _ (λ root told. (advance_passed _ g.S.IoSource _ _ _ _ (work_plans _ _ _ _ _ _ _ _ _ _ _ _ _ (g.met.P.Planner.follows_plan plans) (g.met.P.Morsel.Morsel.follows_plan morsels)) (g.P.Planner.tells × g.P.Morsel.Morsel.tells) (λ t. publishes_by _ _ _ _ _ _ _ _ _ _ _ (g.met.P.Planner.owes t.0) (g.met.P.Morsel.Morsel.owes t.1)) root told (state_with c.self.inside.items.items c.self.inside.slots.items c.self.inside.next_owner c.self.inside.counts c.self.inside.next_root) (state_with c.go_on.new.items.items c.go_on.new.slots.items c.go_on.new.next_owner c.go_on.new.counts c.self.inside.next_root) c.in-Ok.answer ((c.self.invariant.fits c.if-self.false).live, (λ t. c.self.invariant.named t c.if-self.false), c.self.invariant.planned (plans, morsels) c.if-self.false) (c.in-Ok.ensures.ok c.self.inside.next_root)).1))

pub returns-in-Ok-clause-seated : goal.returns-in-Ok-clause-seated
returns-in-Ok-clause-seated g c = rw (← c.self.view_is) (λ plans morsels.
    takes_seats (g.P.Planner.tells × g.P.Morsel.Morsel.tells) g.S.IoSource _ _ _ _ c.in-Ok.answer (λ root told. (advance_passed _ g.S.IoSource _ _ _ _ (work_plans _ _ _ _ _ _ _ _ _ _ _ _ _ (g.met.P.Planner.follows_plan plans) (g.met.P.Morsel.Morsel.follows_plan morsels)) (g.P.Planner.tells × g.P.Morsel.Morsel.tells) (λ t. publishes_by _ _ _ _ _ _ _ _ _ _ _ (g.met.P.Planner.owes t.0) (g.met.P.Morsel.Morsel.owes t.1)) root told (state_with c.self.inside.items.items c.self.inside.slots.items c.self.inside.next_owner c.self.inside.counts c.self.inside.next_root) (state_with c.go_on.new.items.items c.go_on.new.slots.items c.go_on.new.next_owner c.go_on.new.counts c.self.inside.next_root) c.in-Ok.answer ((c.self.invariant.fits c.if-self.false).live, (λ t. c.self.invariant.named t c.if-self.false), c.self.invariant.planned (plans, morsels) c.if-self.false) (c.in-Ok.ensures.ok c.self.inside.next_root)).1))

pub returns-in-Ok-clause-fetched : goal.returns-in-Ok-clause-fetched
returns-in-Ok-clause-fetched g c = rw (← c.self.view_is) (λ plans morsels.
    spends_seats g.S.IoSource _ _ _ _ _ _ (λ root told. (advance_passed _ g.S.IoSource _ _ _ _ (work_plans _ _ _ _ _ _ _ _ _ _ _ _ _ (g.met.P.Planner.follows_plan plans) (g.met.P.Morsel.Morsel.follows_plan morsels)) (g.P.Planner.tells × g.P.Morsel.Morsel.tells) (λ t. publishes_by _ _ _ _ _ _ _ _ _ _ _ (g.met.P.Planner.owes t.0) (g.met.P.Morsel.Morsel.owes t.1)) root told (state_with c.self.inside.items.items c.self.inside.slots.items c.self.inside.next_owner c.self.inside.counts c.self.inside.next_root) (state_with c.go_on.new.items.items c.go_on.new.slots.items c.go_on.new.next_owner c.go_on.new.counts c.self.inside.next_root) c.in-Ok.answer ((c.self.invariant.fits c.if-self.false).live, (λ t. c.self.invariant.named t c.if-self.false), c.self.invariant.planned (plans, morsels) c.if-self.false) (c.in-Ok.ensures.ok c.self.inside.next_root)).1))

pub returns-in-Ok-clause-fresh : goal.returns-in-Ok-clause-fresh
returns-in-Ok-clause-fresh g c = rw (← c.self.view_is) (λ plans morsels.
    keeps_fresh g.S.IoSource _ _ _ _ _ _ (λ root told. (advance_passed _ g.S.IoSource _ _ _ _ (work_plans _ _ _ _ _ _ _ _ _ _ _ _ _ (g.met.P.Planner.follows_plan plans) (g.met.P.Morsel.Morsel.follows_plan morsels)) (g.P.Planner.tells × g.P.Morsel.Morsel.tells) (λ t. publishes_by _ _ _ _ _ _ _ _ _ _ _ (g.met.P.Planner.owes t.0) (g.met.P.Morsel.Morsel.owes t.1)) root told (state_with c.self.inside.items.items c.self.inside.slots.items c.self.inside.next_owner c.self.inside.counts c.self.inside.next_root) (state_with c.go_on.new.items.items c.go_on.new.slots.items c.go_on.new.next_owner c.go_on.new.counts c.self.inside.next_root) c.in-Ok.answer ((c.self.invariant.fits c.if-self.false).live, (λ t. c.self.invariant.named t c.if-self.false), c.self.invariant.planned (plans, morsels) c.if-self.false) (c.in-Ok.ensures.ok c.self.inside.next_root)).1))

pub returns-then-self-clause-fetched_at_most : goal.returns-then-self-clause-fetched_at_most
returns-then-self-clause-fetched_at_most g c = rw (← c.self.view_is) (λ plans morsels.
    same_spends_at_most _ g.S.IoSource _ (live_with c.self.inside.items.items c.self.inside.slots.items c.self.inside.next_owner))

pub returns-in-Err-clause-fetched_at_most : goal.returns-in-Err-clause-fetched_at_most
returns-in-Err-clause-fetched_at_most g c = rw (← c.self.view_is) (λ plans morsels.
    advance_spends_at_most _ g.S.IoSource _ _ _ _ (work_plans _ _ _ _ _ _ _ _ _ _ _ _ _ (g.met.P.Planner.follows_plan plans) (g.met.P.Morsel.Morsel.follows_plan morsels)) (g.P.Planner.tells × g.P.Morsel.Morsel.tells) (λ t. publishes_by _ _ _ _ _ _ _ _ _ _ _ (g.met.P.Planner.owes t.0) (g.met.P.Morsel.Morsel.owes t.1)) (state_with c.self.inside.items.items c.self.inside.slots.items c.self.inside.next_owner c.self.inside.counts c.self.inside.next_root)
    (state_with c.go_on.new.items.items c.go_on.new.slots.items c.go_on.new.next_owner c.go_on.new.counts c.self.inside.next_root) c.in-Err.error ((c.self.invariant.fits c.if-self.false).live, (λ t. c.self.invariant.named t c.if-self.false), c.self.invariant.planned (plans, morsels) c.if-self.false) (c.in-Err.ensures.err c.self.inside.next_root))

pub returns-in-Ok-clause-none_fresh : goal.returns-in-Ok-clause-none_fresh
returns-in-Ok-clause-none_fresh g c = λ plans morsels e.
    waiting_none_fresh _ g.S.IoSource _ _ _ _ (work_plans _ _ _ _ _ _ _ _ _ _ _ _ _ (g.met.P.Planner.follows_plan plans) (g.met.P.Morsel.Morsel.follows_plan morsels)) (g.P.Planner.tells × g.P.Morsel.Morsel.tells) (λ t. publishes_by _ _ _ _ _ _ _ _ _ _ _ (g.met.P.Planner.owes t.0) (g.met.P.Morsel.Morsel.owes t.1)) (state_with c.self.inside.items.items c.self.inside.slots.items c.self.inside.next_owner c.self.inside.counts c.self.inside.next_root)
    (state_with c.go_on.new.items.items c.go_on.new.slots.items c.go_on.new.next_owner c.go_on.new.counts c.self.inside.next_root) c.in-Ok.answer ((c.self.invariant.fits c.if-self.false).live, (λ t. c.self.invariant.named t c.if-self.false), c.self.invariant.planned (plans, morsels) c.if-self.false) (c.in-Ok.ensures.ok c.self.inside.next_root) e

pub returns-then-self-clause-journals : goal.returns-then-self-clause-journals
returns-then-self-clause-journals g c = same_adds_no_wait g.S.IoSource _

pub returns-in-Ok-clause-journals : goal.returns-in-Ok-clause-journals
returns-in-Ok-clause-journals g c = rw (← c.self.view_is) (advance_adds_no_wait _ g.S.IoSource _ (state_with c.self.inside.items.items c.self.inside.slots.items c.self.inside.next_owner c.self.inside.counts c.self.inside.next_root) (state_with c.go_on.new.items.items c.go_on.new.slots.items c.go_on.new.next_owner c.go_on.new.counts c.self.inside.next_root) c.in-Ok.answer (c.in-Ok.ensures.ok c.self.inside.next_root))

pub returns-in-Err-clause-journals : goal.returns-in-Err-clause-journals
returns-in-Err-clause-journals g c = rw (← c.self.view_is) (failed_adds_no_wait _ g.S.IoSource _ (state_with c.self.inside.items.items c.self.inside.slots.items c.self.inside.next_owner c.self.inside.counts c.self.inside.next_root) (state_with c.go_on.new.items.items c.go_on.new.slots.items c.go_on.new.next_owner c.go_on.new.counts c.self.inside.next_root) c.in-Err.error (c.in-Err.ensures.err c.self.inside.next_root))

pub returns-then-self-clause-sure : goal.returns-then-self-clause-sure
returns-then-self-clause-sure g c = λ plans morsels root before after content there now sure is all. same_faults_no_sure g.S.IoSource _ root before after content there now sure is

pub returns-in-Ok-clause-sure : goal.returns-in-Ok-clause-sure
returns-in-Ok-clause-sure g c = rw (← c.self.view_is) (λ plans morsels.
    surely_stands g.S.IoSource _ _ _ _ _ (λ root. (advance_passed _ g.S.IoSource _ _ _ _ (work_plans _ _ _ _ _ _ _ _ _ _ _ _ _ (g.met.P.Planner.follows_plan plans) (g.met.P.Morsel.Morsel.follows_plan morsels)) (g.P.Planner.tells × g.P.Morsel.Morsel.tells) (λ t. publishes_by _ _ _ _ _ _ _ _ _ _ _ (g.met.P.Planner.owes t.0) (g.met.P.Morsel.Morsel.owes t.1)) root None (state_with c.self.inside.items.items c.self.inside.slots.items c.self.inside.next_owner c.self.inside.counts c.self.inside.next_root) (state_with c.go_on.new.items.items c.go_on.new.slots.items c.go_on.new.next_owner c.go_on.new.counts c.self.inside.next_root) c.in-Ok.answer ((c.self.invariant.fits c.if-self.false).live, (λ t. c.self.invariant.named t c.if-self.false), c.self.invariant.planned (plans, morsels) c.if-self.false) (c.in-Ok.ensures.ok c.self.inside.next_root)).1 tt))

pub returns-in-Err-clause-sure : goal.returns-in-Err-clause-sure
returns-in-Err-clause-sure g c = rw (← c.self.view_is) (λ plans morsels.
    failed_stands _ g.S.IoSource _ _ _ _ (work_plans _ _ _ _ _ _ _ _ _ _ _ _ _ (g.met.P.Planner.follows_plan plans) (g.met.P.Morsel.Morsel.follows_plan morsels)) (g.P.Planner.tells × g.P.Morsel.Morsel.tells) (λ t. publishes_by _ _ _ _ _ _ _ _ _ _ _ (g.met.P.Planner.owes t.0) (g.met.P.Morsel.Morsel.owes t.1)) (state_with c.self.inside.items.items c.self.inside.slots.items c.self.inside.next_owner c.self.inside.counts c.self.inside.next_root)
    (state_with c.go_on.new.items.items c.go_on.new.slots.items c.go_on.new.next_owner c.go_on.new.counts c.self.inside.next_root) c.in-Err.error ((c.self.invariant.fits c.if-self.false).live, (λ t. c.self.invariant.named t c.if-self.false), c.self.invariant.planned (plans, morsels) c.if-self.false) (c.in-Err.ensures.err c.self.inside.next_root))
