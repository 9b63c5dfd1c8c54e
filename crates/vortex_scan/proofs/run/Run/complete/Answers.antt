use Rattle.std.proofs.Common.{refl, inr}
use Rattle.vortex_scan.specs.RunState.{live_with}
use Rattle.vortex_scan.proofs.Bagged.{complete_bag}
use Rattle.vortex_scan.proofs.Fitting.{complete_fits}
use Rattle.vortex_scan.proofs.Named.{complete_named}
use Rattle.vortex_scan.proofs.Owing.{publishes_by, work_owes}
use Rattle.vortex_scan.proofs.Rooted.{complete_same, peopled_same}
use Rattle.vortex_scan.proofs.WholeOrder.{complete_orderly, failed_in_order}
use Rattle.vortex_scan.proofs.Ordering.{work_orderly}
use Rattle.vortex_scan.specs.Going.{state_with}
use Rattle.vortex_scan.proofs.Refusing.{complete_in_order}
use Rattle.vortex_scan.proofs.Permitted.{complete_permits_less}
use Rattle.vortex_scan.proofs.Planned.{delivers_planned}
use Rattle.vortex_scan.proofs.Planning.{work_plans}
use Rattle.vortex_scan.proofs.WholeSeats.{brings_fresh, brings_none, brings_seats, complete_passes}
use Rattle.vortex_scan.proofs.run.Run.complete.Goals as goal

pub invariant_of-self : goal.invariant_of-self
invariant_of-self g c =
    let inv = c.self.invariant in
    record {
      none = inv.none;
      enough = inv.enough;
      fits = λ well.
          let f = inv.fits well in
          record {
            roots = f.roots;
            live = complete_fits g.S.IoSource _ c.self.inside.items.items c.deliver.new.items.items c.self.inside.slots.items c.self.inside.next_owner c.args.root c.args.completion f.live c.in-Ok.ensures;
            peopled = peopled_same (live_with c.self.inside.items.items c.self.inside.slots.items c.self.inside.next_owner) (live_with c.deliver.new.items.items c.self.inside.slots.items c.self.inside.next_owner)
                (complete_same _ g.S.IoSource g.P.Payload.Payload c.args.root c.args.completion c.self.inside.items.items c.deliver.new.items.items c.self.inside.slots.items c.self.inside.next_owner c.in-Ok.ensures) f.peopled;
            since = f.since;
          };
      named = λ told well. complete_named _ g.S.IoSource c.args.root c.args.completion c.self.inside.items.items c.deliver.new.items.items c.self.inside.slots.items c.self.inside.next_owner (inv.named told well) c.in-Ok.ensures;
      planned = λ told well.
          let plans = told.0 in
          let morsels = told.1 in
          delivers_planned _ _ g.S.IoSource _ _ _ (work_plans _ _ _ _ _ _ _ _ _ _ _ _ _ (g.met.P.Planner.follows_plan plans) (g.met.P.Morsel.Morsel.follows_plan morsels)) c.args.root c.args.completion c.self.inside.items.items c.deliver.new.items.items (inv.planned told well) c.in-Ok.ensures;
    }

pub returns-in-Ok-clause-ok : goal.returns-in-Ok-clause-ok
returns-in-Ok-clause-ok g c = rw (← c.self.view_is) (c.if-self.false, c.in-Ok.ensures, refl)

pub returns-in-Err-clause-err : goal.returns-in-Err-clause-err
returns-in-Err-clause-err g c = rw (← c.self.view_is) (inr (c.if-self.false, refl, c.in-Err.ensures))

pub returns-in-Ok-clause-bag : goal.returns-in-Ok-clause-bag
returns-in-Ok-clause-bag g c = rw (← c.self.view_is) (λ planners morsels.
    complete_bag _ g.S.IoSource _ _ (work_owes _ _ _ _ _ _ _ _ _ _ _ (g.met.P.Planner.owes planners) (g.met.P.Morsel.Morsel.owes morsels)) c.args.root c.args.completion c.self.inside.items.items c.deliver.new.items.items c.self.inside.slots.items c.self.inside.next_owner
    (c.self.invariant.fits c.if-self.false).live (c.self.invariant.named (planners, morsels) c.if-self.false) c.in-Ok.ensures)

pub returns-in-Ok-clause-orderly : goal.returns-in-Ok-clause-orderly
returns-in-Ok-clause-orderly g c = rw (← c.self.view_is) ((complete_orderly _ g.S.IoSource g.P.Payload.Payload (work_orderly _ _ _ _ _ _ _ _ _ _ _ _ _ _ _ _ _ _ _ g.met.P.Planner.is_orderly g.met.P.Morsel.Morsel.is_orderly) c.args.root c.args.completion (state_with c.self.inside.items.items c.self.inside.slots.items c.self.inside.next_owner c.self.inside.counts c.self.inside.next_root)
    c.deliver.new.items.items (c.self.invariant.fits c.if-self.false).live c.in-Ok.ensures).0)

pub returns-in-Ok-clause-work : goal.returns-in-Ok-clause-work
returns-in-Ok-clause-work g c = rw (← c.self.view_is) ((complete_orderly _ g.S.IoSource g.P.Payload.Payload (work_orderly _ _ _ _ _ _ _ _ _ _ _ _ _ _ _ _ _ _ _ g.met.P.Planner.is_orderly g.met.P.Morsel.Morsel.is_orderly) c.args.root c.args.completion (state_with c.self.inside.items.items c.self.inside.slots.items c.self.inside.next_owner c.self.inside.counts c.self.inside.next_root)
    c.deliver.new.items.items (c.self.invariant.fits c.if-self.false).live c.in-Ok.ensures).1)

pub returns-then-self-clause-disorder : goal.returns-then-self-clause-disorder
returns-then-self-clause-disorder g c = λ orderly. failed_in_order _ _ _ refl

pub returns-in-Err-clause-disorder : goal.returns-in-Err-clause-disorder
returns-in-Err-clause-disorder g c = rw (← c.self.view_is, c.if-self.false) (complete_in_order _ g.S.IoSource g.P.Payload.Payload (work_orderly _ _ _ _ _ _ _ _ _ _ _ _ _ _ _ _ _ _ _ g.met.P.Planner.is_orderly g.met.P.Morsel.Morsel.is_orderly) c.args.root c.args.completion (state_with c.self.inside.items.items c.self.inside.slots.items c.self.inside.next_owner c.self.inside.counts c.self.inside.next_root) c.in-Err.error
    (c.self.invariant.fits c.if-self.false).live c.in-Err.ensures)

pub returns-in-Ok-clause-permitted : goal.returns-in-Ok-clause-permitted
returns-in-Ok-clause-permitted g c = rw (← c.self.view_is) (λ planners morsels.
    complete_permits_less _ g.S.IoSource g.P.Payload.Payload (work_orderly _ _ _ _ _ _ _ _ _ _ _ _ _ _ _ _ _ _ _ g.met.P.Planner.is_orderly g.met.P.Morsel.Morsel.is_orderly) _ (work_owes _ _ _ _ _ _ _ _ _ _ _ (g.met.P.Planner.owes planners) (g.met.P.Morsel.Morsel.owes morsels)) c.args.root c.args.completion (live_with c.self.inside.items.items c.self.inside.slots.items c.self.inside.next_owner) c.deliver.new.items.items
    (c.self.invariant.fits c.if-self.false).live c.in-Ok.ensures)

pub returns-in-Ok-clause-seats : goal.returns-in-Ok-clause-seats
returns-in-Ok-clause-seats g c = rw (← c.self.view_is) (λ plans morsels.
    brings_seats g.S.IoSource _ _ c.self.inside.items.items c.deliver.new.items.items c.self.inside.slots.items c.self.inside.next_owner (λ root told. complete_passes _ g.S.IoSource _ _ _ _ (work_plans _ _ _ _ _ _ _ _ _ _ _ _ _ (g.met.P.Planner.follows_plan plans) (g.met.P.Morsel.Morsel.follows_plan morsels)) (g.P.Planner.tells × g.P.Morsel.Morsel.tells) (λ t. publishes_by _ _ _ _ _ _ _ _ _ _ _ (g.met.P.Planner.owes t.0) (g.met.P.Morsel.Morsel.owes t.1)) root told c.args.root c.args.completion (live_with c.self.inside.items.items c.self.inside.slots.items c.self.inside.next_owner) c.deliver.new.items.items ((c.self.invariant.fits c.if-self.false).live, (λ t. c.self.invariant.named t c.if-self.false), c.self.invariant.planned (plans, morsels) c.if-self.false) c.in-Ok.ensures))

pub returns-in-Ok-clause-fetched : goal.returns-in-Ok-clause-fetched
returns-in-Ok-clause-fetched g c = rw (← c.self.view_is) (λ plans morsels.
    brings_none g.S.IoSource _ _ c.self.inside.items.items c.deliver.new.items.items c.self.inside.slots.items c.self.inside.next_owner (λ root told. complete_passes _ g.S.IoSource _ _ _ _ (work_plans _ _ _ _ _ _ _ _ _ _ _ _ _ (g.met.P.Planner.follows_plan plans) (g.met.P.Morsel.Morsel.follows_plan morsels)) (g.P.Planner.tells × g.P.Morsel.Morsel.tells) (λ t. publishes_by _ _ _ _ _ _ _ _ _ _ _ (g.met.P.Planner.owes t.0) (g.met.P.Morsel.Morsel.owes t.1)) root told c.args.root c.args.completion (live_with c.self.inside.items.items c.self.inside.slots.items c.self.inside.next_owner) c.deliver.new.items.items ((c.self.invariant.fits c.if-self.false).live, (λ t. c.self.invariant.named t c.if-self.false), c.self.invariant.planned (plans, morsels) c.if-self.false) c.in-Ok.ensures))

pub returns-in-Ok-clause-fresh : goal.returns-in-Ok-clause-fresh
returns-in-Ok-clause-fresh g c = rw (← c.self.view_is) (λ plans morsels.
    brings_fresh g.S.IoSource _ _ c.self.inside.items.items c.deliver.new.items.items c.self.inside.slots.items c.self.inside.next_owner (λ root told. complete_passes _ g.S.IoSource _ _ _ _ (work_plans _ _ _ _ _ _ _ _ _ _ _ _ _ (g.met.P.Planner.follows_plan plans) (g.met.P.Morsel.Morsel.follows_plan morsels)) (g.P.Planner.tells × g.P.Morsel.Morsel.tells) (λ t. publishes_by _ _ _ _ _ _ _ _ _ _ _ (g.met.P.Planner.owes t.0) (g.met.P.Morsel.Morsel.owes t.1)) root told c.args.root c.args.completion (live_with c.self.inside.items.items c.self.inside.slots.items c.self.inside.next_owner) c.deliver.new.items.items ((c.self.invariant.fits c.if-self.false).live, (λ t. c.self.invariant.named t c.if-self.false), c.self.invariant.planned (plans, morsels) c.if-self.false) c.in-Ok.ensures))
