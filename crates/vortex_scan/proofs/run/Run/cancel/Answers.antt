use Rattle.std.proofs.Common.{refl}
use Rattle.vortex_scan.specs.RunState.{live_with}
use Rattle.vortex_scan.proofs.Cancelling.{cancel_holds}
use Rattle.vortex_scan.proofs.Joining.{cancel_stays}
use Rattle.vortex_scan.proofs.WholeOrder.{cancel_orderly}
use Rattle.vortex_scan.specs.Seats.{work_seats}
use Rattle.vortex_scan.proofs.Noting.{cancel_adds_nothing}
use Rattle.vortex_scan.proofs.RestingSeats.{cancel_seats}
use Rattle.vortex_scan.proofs.run.Run.cancel.Goals as goal

pub invariant_of-self : goal.invariant_of-self
invariant_of-self g c =
    cancel_holds g.S.IoSource _ _ _ _ _ c.self.inside.room.items _
    (record { live = live_with c.self.inside.items.items c.self.inside.slots.items c.self.inside.next_owner; next_root = c.self.inside.next_root; visits = c.self.inside.counts.visits; since = c.self.inside.counts.since; limit = c.self.inside.counts.limit; failed = c.self.inside.failed })
    c.args.root _ (live_with c.forget.new.items.items c.forget.new.slots.items c.self.inside.next_owner) refl c.self.invariant (c.forget.ensures c.self.inside.next_owner)

pub returns-clause-in_step : goal.returns-clause-in_step
returns-clause-in_step g c =
    rw (← c.self.view_is) (cancel_stays g.S.IoSource c.args.root _ (live_with c.self.inside.items.items c.self.inside.slots.items c.self.inside.next_owner) (live_with c.forget.new.items.items c.forget.new.slots.items c.self.inside.next_owner) refl (c.forget.ensures c.self.inside.next_owner))

pub returns-clause-orderly : goal.returns-clause-orderly
returns-clause-orderly g c =
    rw (← c.self.view_is) ((cancel_orderly _ g.S.IoSource c.args.root _ (record { live = live_with c.self.inside.items.items c.self.inside.slots.items c.self.inside.next_owner; next_root = c.self.inside.next_root; visits = c.self.inside.counts.visits; since = c.self.inside.counts.since; limit = c.self.inside.counts.limit; failed = c.self.inside.failed })
    (live_with c.forget.new.items.items c.forget.new.slots.items c.self.inside.next_owner) (c.forget.ensures c.self.inside.next_owner)).0)

pub returns-clause-work : goal.returns-clause-work
returns-clause-work g c =
    rw (← c.self.view_is) ((cancel_orderly _ g.S.IoSource c.args.root _ (record { live = live_with c.self.inside.items.items c.self.inside.slots.items c.self.inside.next_owner; next_root = c.self.inside.next_root; visits = c.self.inside.counts.visits; since = c.self.inside.counts.since; limit = c.self.inside.counts.limit; failed = c.self.inside.failed })
    (live_with c.forget.new.items.items c.forget.new.slots.items c.self.inside.next_owner) (c.forget.ensures c.self.inside.next_owner)).1)

pub returns-clause-seats : goal.returns-clause-seats
returns-clause-seats g c = rw (← c.self.view_is) (cancel_seats g.S.IoSource (work_seats g.P.Planner.plan g.P.Morsel.Morsel.plan g.P.Morsel.Morsel.fresh) c.args.root _ (live_with c.self.inside.items.items c.self.inside.slots.items c.self.inside.next_owner) (live_with c.forget.new.items.items c.forget.new.slots.items c.self.inside.next_owner) (c.forget.ensures c.self.inside.next_owner))

pub returns-clause-journals : goal.returns-clause-journals
returns-clause-journals g c = rw (← c.self.view_is) ((cancel_adds_nothing g.S.IoSource c.args.root _ (live_with c.self.inside.items.items c.self.inside.slots.items c.self.inside.next_owner) (live_with c.forget.new.items.items c.forget.new.slots.items c.self.inside.next_owner) refl (c.forget.ensures c.self.inside.next_owner)).0)

pub returns-clause-sure : goal.returns-clause-sure
returns-clause-sure g c = rw (← c.self.view_is) ((cancel_adds_nothing g.S.IoSource c.args.root _ (live_with c.self.inside.items.items c.self.inside.slots.items c.self.inside.next_owner) (live_with c.forget.new.items.items c.forget.new.slots.items c.self.inside.next_owner) refl (c.forget.ensures c.self.inside.next_owner)).1)
