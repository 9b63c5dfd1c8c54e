use Rattle.std.proofs.Common.{◌≢◌, ◌∙◌, refl, inr, length, ap, None}
use Rattle.vortex_scan.specs.RunState.{live_count, live_with}
use Rattle.vortex_scan.proofs.Asked.{asks_once_fits}
use Rattle.vortex_scan.proofs.Bagged.{once_bag}
use Rattle.vortex_scan.proofs.Delivered.{asks_once_stays}
use Rattle.vortex_scan.proofs.Expecting.{asking_lies}
use Rattle.vortex_scan.proofs.Faulting.{asking_cause}
use Rattle.vortex_scan.proofs.Kept.{each_long, each_same}
use Rattle.vortex_scan.proofs.Owing.{publishes_by, work_owes}
use Rattle.vortex_scan.proofs.Polling.{once_are_quiet, once_fewer, once_items}
use Rattle.vortex_scan.proofs.Rooted.{asks_once_same, peopled_same}
use Rattle.vortex_scan.proofs.WholeOrder.{failed_in_order, once_orderly, rootless_in_order}
use Rattle.vortex_scan.proofs.Ordering.{work_orderly}
use Rattle.vortex_scan.specs.Going.{state_with}
use Rattle.vortex_scan.proofs.Refusing.{asking_in_order}
use Rattle.vortex_scan.proofs.Permitted.{once_permits_less}
use Rattle.vortex_scan.specs.Asking.{root_at}
use Rattle.vortex_scan.proofs.Noting.{asking_adds_nothing, once_adds_nothing, same_adds_nothing, same_faults_no_sure}
use Rattle.vortex_scan.proofs.Planning.{work_plans}
use Rattle.vortex_scan.proofs.WholeSeats.{keeps_fresh, keeps_seats, once_passed, spends_seats}
use Rattle.vortex_scan.proofs.run.Run.poll_completion.Goals as goal

pub returns-then-self-clause-sources : goal.returns-then-self-clause-sources
returns-then-self-clause-sources g c = each_same g.S.IoSource _

pub returns-then-count_live-eq0-clause-sources : goal.returns-then-count_live-eq0-clause-sources
returns-then-count_live-eq0-clause-sources g c = each_same g.S.IoSource _

pub invariant_of-self : goal.invariant_of-self
invariant_of-self g c =
    let inv = c.self.invariant in
    let long = each_long g.S.IoSource c.self.inside.slots.items c.ask_once.new.slots.items c.ask_once.ensures.sources in
    record {
      none = inv.none;
      enough = rw long inv.enough;
      fits = λ well.
          let f = inv.fits well in
          record {
            roots = long ∙ f.roots;
            live = asks_once_fits _ g.S.IoSource _ (length c.self.inside.slots.items) (live_with c.self.inside.items.items c.self.inside.slots.items c.self.inside.next_owner) (live_with c.ask_once.new.items.items c.ask_once.new.slots.items c.self.inside.next_owner) c.in-Ok.came f.live (c.in-Ok.ensures.ok c.self.inside.next_owner);
            peopled = peopled_same (live_with c.self.inside.items.items c.self.inside.slots.items c.self.inside.next_owner) (live_with c.ask_once.new.items.items c.ask_once.new.slots.items c.self.inside.next_owner)
                (asks_once_same _ g.S.IoSource _ (length c.self.inside.slots.items) (live_with c.self.inside.items.items c.self.inside.slots.items c.self.inside.next_owner) (live_with c.ask_once.new.items.items c.ask_once.new.slots.items c.self.inside.next_owner) c.in-Ok.came (c.in-Ok.ensures.ok c.self.inside.next_owner)) f.peopled;
            since = f.since;
          };
      named = λ told well. (once_bag _ g.S.IoSource _ _ (work_owes _ _ _ _ _ _ _ _ _ _ _ (g.met.P.Planner.owes told.0) (g.met.P.Morsel.Morsel.owes told.1)) (length c.self.inside.slots.items) (live_with c.self.inside.items.items c.self.inside.slots.items c.self.inside.next_owner)
          (live_with c.ask_once.new.items.items c.ask_once.new.slots.items c.self.inside.next_owner) c.in-Ok.came (inv.fits well).live (inv.named told well) (c.in-Ok.ensures.ok c.self.inside.next_owner)).0;
      planned = λ told well.
          let plans = told.0 in
          let morsels = told.1 in
          (once_passed _ g.S.IoSource _ _ _ _ (work_plans _ _ _ _ _ _ _ _ _ _ _ _ _ (g.met.P.Planner.follows_plan plans) (g.met.P.Morsel.Morsel.follows_plan morsels)) (g.P.Planner.tells × g.P.Morsel.Morsel.tells) (λ t. publishes_by _ _ _ _ _ _ _ _ _ _ _ (g.met.P.Planner.owes t.0) (g.met.P.Morsel.Morsel.owes t.1)) (root_at 0) None (length c.self.inside.slots.items) (live_with c.self.inside.items.items c.self.inside.slots.items c.self.inside.next_owner) (live_with c.ask_once.new.items.items c.ask_once.new.slots.items c.self.inside.next_owner) c.in-Ok.came
          ((inv.fits well).live, (λ t. inv.named t well), inv.planned told well) (c.in-Ok.ensures.ok c.self.inside.next_owner)).0.2;
    }

pub invariant_of-self-in-Err : goal.invariant_of-self-in-Err
invariant_of-self-in-Err g c =
    let inv = c.self.invariant in
    let long = each_long g.S.IoSource c.self.inside.slots.items c.ask_once.new.slots.items c.ask_once.ensures.sources in
    record { none = inv.none; enough = rw long inv.enough; fits = λ well. absurd (cc); named = λ told well. absurd (cc); planned = λ told well. absurd (cc) }

pub returns-in-Ok-clause-ok : goal.returns-in-Ok-clause-ok
returns-in-Ok-clause-ok g c =
    let some : live_count c.self.inside.slots.items ≢ 0 = λ e. c.if-count_live-eq0.false (c.count_live.ensures ∙ ap live_count c.deref.ensures.value ∙ e) in
    rw (← c.self.view_is) (c.if-self.false, some, c.in-Ok.ensures.ok c.self.inside.next_owner, refl)

pub returns-in-Err-clause-err : goal.returns-in-Err-clause-err
returns-in-Err-clause-err g c =
    let some : live_count c.self.inside.slots.items ≢ 0 = λ e. c.if-count_live-eq0.false (c.count_live.ensures ∙ ap live_count c.deref.ensures.value ∙ e) in
    rw (← c.self.view_is) (inr (inr (c.if-self.false, refl, (some, c.in-Err.ensures.err c.self.inside.next_owner))))

pub returns-then-self-clause-cause : goal.returns-then-self-clause-cause
returns-then-self-clause-cause g c = λ root e. absurd (cc)

pub returns-then-count_live-eq0-clause-cause : goal.returns-then-count_live-eq0-clause-cause
returns-then-count_live-eq0-clause-cause g c = λ root e. absurd (cc)

pub returns-in-Ok-clause-quiet : goal.returns-in-Ok-clause-quiet
returns-in-Ok-clause-quiet g c =
    rw (← c.self.view_is) (λ none. (
      once_are_quiet _ g.S.IoSource _ (live_with c.self.inside.items.items c.self.inside.slots.items c.self.inside.next_owner) (live_with c.ask_once.new.items.items c.ask_once.new.slots.items c.self.inside.next_owner) c.in-Ok.came (c.in-Ok.ensures.ok c.self.inside.next_owner) none,
      once_items _ g.S.IoSource _ (length c.self.inside.slots.items) (live_with c.self.inside.items.items c.self.inside.slots.items c.self.inside.next_owner) (live_with c.ask_once.new.items.items c.ask_once.new.slots.items c.self.inside.next_owner) c.in-Ok.came (c.in-Ok.ensures.ok c.self.inside.next_owner) none,
    ))

pub returns-in-Ok-clause-fewer : goal.returns-in-Ok-clause-fewer
returns-in-Ok-clause-fewer g c = rw (← c.self.view_is) (λ some. once_fewer _ g.S.IoSource _ (length c.self.inside.slots.items) (live_with c.self.inside.items.items c.self.inside.slots.items c.self.inside.next_owner) (live_with c.ask_once.new.items.items c.ask_once.new.slots.items c.self.inside.next_owner) c.in-Ok.came (c.in-Ok.ensures.ok c.self.inside.next_owner) some)

pub returns-in-Ok-clause-roots : goal.returns-in-Ok-clause-roots
returns-in-Ok-clause-roots g c = rw (← c.self.view_is) ((asks_once_same _ g.S.IoSource _ (length c.self.inside.slots.items) (live_with c.self.inside.items.items c.self.inside.slots.items c.self.inside.next_owner) (live_with c.ask_once.new.items.items c.ask_once.new.slots.items c.self.inside.next_owner) c.in-Ok.came (c.in-Ok.ensures.ok c.self.inside.next_owner)).0)

pub returns-in-Err-clause-cause : goal.returns-in-Err-clause-cause
returns-in-Err-clause-cause g c = rw (← c.self.view_is) (asking_cause _ g.S.IoSource _ (live_with c.self.inside.items.items c.self.inside.slots.items c.self.inside.next_owner) (live_with c.ask_once.new.items.items c.ask_once.new.slots.items c.self.inside.next_owner) c.in-Err.error (c.in-Err.ensures.err c.self.inside.next_owner))

pub returns-then-self-clause-unexpected : goal.returns-then-self-clause-unexpected
returns-then-self-clause-unexpected g c = λ root owner request e was. absurd (cc)

pub returns-then-count_live-eq0-clause-unexpected : goal.returns-then-count_live-eq0-clause-unexpected
returns-then-count_live-eq0-clause-unexpected g c = λ root owner request e was. absurd (cc)

pub returns-in-Err-clause-unexpected : goal.returns-in-Err-clause-unexpected
returns-in-Err-clause-unexpected g c = rw (← c.self.view_is) (asking_lies _ g.S.IoSource _ (live_with c.self.inside.items.items c.self.inside.slots.items c.self.inside.next_owner) (live_with c.ask_once.new.items.items c.ask_once.new.slots.items c.self.inside.next_owner) c.in-Err.error (c.self.invariant.fits c.if-self.false).live (c.in-Err.ensures.err c.self.inside.next_owner))

pub returns-in-Ok-clause-in_step : goal.returns-in-Ok-clause-in_step
returns-in-Ok-clause-in_step g c =
    rw (← c.self.view_is) (asks_once_stays _ g.S.IoSource _ (length c.self.inside.slots.items) (live_with c.self.inside.items.items c.self.inside.slots.items c.self.inside.next_owner) (live_with c.ask_once.new.items.items c.ask_once.new.slots.items c.self.inside.next_owner) c.in-Ok.came (c.self.invariant.fits c.if-self.false).live (c.in-Ok.ensures.ok c.self.inside.next_owner))

pub returns-in-Ok-clause-bag : goal.returns-in-Ok-clause-bag
returns-in-Ok-clause-bag g c = rw (← c.self.view_is) (λ planners morsels.
    (once_bag _ g.S.IoSource _ _ (work_owes _ _ _ _ _ _ _ _ _ _ _ (g.met.P.Planner.owes planners) (g.met.P.Morsel.Morsel.owes morsels)) (length c.self.inside.slots.items) (live_with c.self.inside.items.items c.self.inside.slots.items c.self.inside.next_owner)
    (live_with c.ask_once.new.items.items c.ask_once.new.slots.items c.self.inside.next_owner) c.in-Ok.came (c.self.invariant.fits c.if-self.false).live (c.self.invariant.named (planners, morsels) c.if-self.false) (c.in-Ok.ensures.ok c.self.inside.next_owner)).1)

pub returns-in-Ok-clause-orderly : goal.returns-in-Ok-clause-orderly
returns-in-Ok-clause-orderly g c = rw (← c.self.view_is) ((once_orderly _ g.S.IoSource _ (work_orderly _ _ _ _ _ _ _ _ _ _ _ _ _ _ _ _ _ _ _ g.met.P.Planner.is_orderly g.met.P.Morsel.Morsel.is_orderly) (length c.self.inside.slots.items) (state_with c.self.inside.items.items c.self.inside.slots.items c.self.inside.next_owner c.self.inside.counts c.self.inside.next_root)
    (live_with c.ask_once.new.items.items c.ask_once.new.slots.items c.self.inside.next_owner) c.in-Ok.came (c.self.invariant.fits c.if-self.false).live (c.in-Ok.ensures.ok c.self.inside.next_owner)).0)

pub returns-in-Ok-clause-work : goal.returns-in-Ok-clause-work
returns-in-Ok-clause-work g c = rw (← c.self.view_is) ((once_orderly _ g.S.IoSource _ (work_orderly _ _ _ _ _ _ _ _ _ _ _ _ _ _ _ _ _ _ _ g.met.P.Planner.is_orderly g.met.P.Morsel.Morsel.is_orderly) (length c.self.inside.slots.items) (state_with c.self.inside.items.items c.self.inside.slots.items c.self.inside.next_owner c.self.inside.counts c.self.inside.next_root)
    (live_with c.ask_once.new.items.items c.ask_once.new.slots.items c.self.inside.next_owner) c.in-Ok.came (c.self.invariant.fits c.if-self.false).live (c.in-Ok.ensures.ok c.self.inside.next_owner)).1)

pub returns-then-self-clause-disorder : goal.returns-then-self-clause-disorder
returns-then-self-clause-disorder g c = λ orderly. failed_in_order _ _ _ refl

pub returns-then-count_live-eq0-clause-disorder : goal.returns-then-count_live-eq0-clause-disorder
returns-then-count_live-eq0-clause-disorder g c = λ orderly. rootless_in_order _ _ _ refl

pub returns-in-Err-clause-disorder : goal.returns-in-Err-clause-disorder
returns-in-Err-clause-disorder g c = rw (← c.self.view_is, c.if-self.false) (asking_in_order _ g.S.IoSource _ (work_orderly _ _ _ _ _ _ _ _ _ _ _ _ _ _ _ _ _ _ _ g.met.P.Planner.is_orderly g.met.P.Morsel.Morsel.is_orderly) (state_with c.self.inside.items.items c.self.inside.slots.items c.self.inside.next_owner c.self.inside.counts c.self.inside.next_root)
    (live_with c.ask_once.new.items.items c.ask_once.new.slots.items c.self.inside.next_owner) c.in-Err.error (c.self.invariant.fits c.if-self.false).live (c.in-Err.ensures.err c.self.inside.next_owner))

pub returns-in-Ok-clause-permitted : goal.returns-in-Ok-clause-permitted
returns-in-Ok-clause-permitted g c = rw (← c.self.view_is) (λ planners morsels.
    once_permits_less _ g.S.IoSource _ (work_orderly _ _ _ _ _ _ _ _ _ _ _ _ _ _ _ _ _ _ _ g.met.P.Planner.is_orderly g.met.P.Morsel.Morsel.is_orderly) _ (work_owes _ _ _ _ _ _ _ _ _ _ _ (g.met.P.Planner.owes planners) (g.met.P.Morsel.Morsel.owes morsels)) (length c.self.inside.slots.items) (live_with c.self.inside.items.items c.self.inside.slots.items c.self.inside.next_owner)
    (live_with c.ask_once.new.items.items c.ask_once.new.slots.items c.self.inside.next_owner) c.in-Ok.came (c.self.invariant.fits c.if-self.false).live (c.self.invariant.named (planners, morsels) c.if-self.false) (c.in-Ok.ensures.ok c.self.inside.next_owner))

pub returns-in-Ok-clause-seats : goal.returns-in-Ok-clause-seats
returns-in-Ok-clause-seats g c = rw (← c.self.view_is) (λ plans morsels.
    keeps_seats g.S.IoSource _ _ _ _ _ _ (λ root told. (once_passed _ g.S.IoSource _ _ _ _ (work_plans _ _ _ _ _ _ _ _ _ _ _ _ _ (g.met.P.Planner.follows_plan plans) (g.met.P.Morsel.Morsel.follows_plan morsels)) (g.P.Planner.tells × g.P.Morsel.Morsel.tells) (λ t. publishes_by _ _ _ _ _ _ _ _ _ _ _ (g.met.P.Planner.owes t.0) (g.met.P.Morsel.Morsel.owes t.1)) root told (length c.self.inside.slots.items) (live_with c.self.inside.items.items c.self.inside.slots.items c.self.inside.next_owner) (live_with c.ask_once.new.items.items c.ask_once.new.slots.items c.self.inside.next_owner) c.in-Ok.came ((c.self.invariant.fits c.if-self.false).live, (λ t. c.self.invariant.named t c.if-self.false), c.self.invariant.planned (plans, morsels) c.if-self.false) (c.in-Ok.ensures.ok c.self.inside.next_owner)).1))

pub returns-in-Ok-clause-fetched : goal.returns-in-Ok-clause-fetched
returns-in-Ok-clause-fetched g c = rw (← c.self.view_is) (λ plans morsels.
    spends_seats g.S.IoSource _ _ _ _ _ _ (λ root told. (once_passed _ g.S.IoSource _ _ _ _ (work_plans _ _ _ _ _ _ _ _ _ _ _ _ _ (g.met.P.Planner.follows_plan plans) (g.met.P.Morsel.Morsel.follows_plan morsels)) (g.P.Planner.tells × g.P.Morsel.Morsel.tells) (λ t. publishes_by _ _ _ _ _ _ _ _ _ _ _ (g.met.P.Planner.owes t.0) (g.met.P.Morsel.Morsel.owes t.1)) root told (length c.self.inside.slots.items) (live_with c.self.inside.items.items c.self.inside.slots.items c.self.inside.next_owner) (live_with c.ask_once.new.items.items c.ask_once.new.slots.items c.self.inside.next_owner) c.in-Ok.came ((c.self.invariant.fits c.if-self.false).live, (λ t. c.self.invariant.named t c.if-self.false), c.self.invariant.planned (plans, morsels) c.if-self.false) (c.in-Ok.ensures.ok c.self.inside.next_owner)).1))

pub returns-in-Ok-clause-fresh : goal.returns-in-Ok-clause-fresh
returns-in-Ok-clause-fresh g c = rw (← c.self.view_is) (λ plans morsels.
    keeps_fresh g.S.IoSource _ _ _ _ _ _ (λ root told. (once_passed _ g.S.IoSource _ _ _ _ (work_plans _ _ _ _ _ _ _ _ _ _ _ _ _ (g.met.P.Planner.follows_plan plans) (g.met.P.Morsel.Morsel.follows_plan morsels)) (g.P.Planner.tells × g.P.Morsel.Morsel.tells) (λ t. publishes_by _ _ _ _ _ _ _ _ _ _ _ (g.met.P.Planner.owes t.0) (g.met.P.Morsel.Morsel.owes t.1)) root told (length c.self.inside.slots.items) (live_with c.self.inside.items.items c.self.inside.slots.items c.self.inside.next_owner) (live_with c.ask_once.new.items.items c.ask_once.new.slots.items c.self.inside.next_owner) c.in-Ok.came ((c.self.invariant.fits c.if-self.false).live, (λ t. c.self.invariant.named t c.if-self.false), c.self.invariant.planned (plans, morsels) c.if-self.false) (c.in-Ok.ensures.ok c.self.inside.next_owner)).1))

pub returns-then-self-clause-journals : goal.returns-then-self-clause-journals
returns-then-self-clause-journals g c = same_adds_nothing g.S.IoSource _

pub returns-then-count_live-eq0-clause-journals : goal.returns-then-count_live-eq0-clause-journals
returns-then-count_live-eq0-clause-journals g c = same_adds_nothing g.S.IoSource _

pub returns-in-Ok-clause-journals : goal.returns-in-Ok-clause-journals
returns-in-Ok-clause-journals g c = rw (← c.self.view_is) ((once_adds_nothing _ g.S.IoSource _ (length c.self.inside.slots.items) (live_with c.self.inside.items.items c.self.inside.slots.items c.self.inside.next_owner) (live_with c.ask_once.new.items.items c.ask_once.new.slots.items c.self.inside.next_owner) c.in-Ok.came (c.in-Ok.ensures.ok c.self.inside.next_owner)).0)

pub returns-in-Err-clause-journals : goal.returns-in-Err-clause-journals
returns-in-Err-clause-journals g c = rw (← c.self.view_is) ((asking_adds_nothing _ g.S.IoSource _ (live_with c.self.inside.items.items c.self.inside.slots.items c.self.inside.next_owner) (live_with c.ask_once.new.items.items c.ask_once.new.slots.items c.self.inside.next_owner) c.in-Err.error (c.in-Err.ensures.err c.self.inside.next_owner)).0)

pub returns-then-self-clause-sure : goal.returns-then-self-clause-sure
returns-then-self-clause-sure g c = same_faults_no_sure g.S.IoSource _

pub returns-then-count_live-eq0-clause-sure : goal.returns-then-count_live-eq0-clause-sure
returns-then-count_live-eq0-clause-sure g c = same_faults_no_sure g.S.IoSource _

pub returns-in-Ok-clause-sure : goal.returns-in-Ok-clause-sure
returns-in-Ok-clause-sure g c = rw (← c.self.view_is) ((once_adds_nothing _ g.S.IoSource _ (length c.self.inside.slots.items) (live_with c.self.inside.items.items c.self.inside.slots.items c.self.inside.next_owner) (live_with c.ask_once.new.items.items c.ask_once.new.slots.items c.self.inside.next_owner) c.in-Ok.came (c.in-Ok.ensures.ok c.self.inside.next_owner)).1)

pub returns-in-Err-clause-sure : goal.returns-in-Err-clause-sure
returns-in-Err-clause-sure g c = rw (← c.self.view_is) ((asking_adds_nothing _ g.S.IoSource _ (live_with c.self.inside.items.items c.self.inside.slots.items c.self.inside.next_owner) (live_with c.ask_once.new.items.items c.ask_once.new.slots.items c.self.inside.next_owner) c.in-Err.error (c.in-Err.ensures.err c.self.inside.next_owner)).1)
