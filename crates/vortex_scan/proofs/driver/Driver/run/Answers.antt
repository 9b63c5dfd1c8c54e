use Rattle.std.proofs.Common.{inl, inr, ⊎_elim}
use Rattle.vortex_scan.specs.Bag.{work_owed}
use Rattle.vortex_scan.specs.declared.worker.Work.TheVariants.{Planner}
use Rattle.vortex_scan.proofs.Homing.{fails_as_root, faults_by, gives_owed, home, lacks_memory, lies_alone, returned}
use Rattle.vortex_scan.proofs.Outcomes.{if_err, if_ok, if_ok_both}
use Rattle.vortex_scan.proofs.driver.Driver.run.Goals as goal

pub returns-in-Ok-clause-source : goal.returns-in-Ok-clause-source
returns-in-Ok-clause-source g c =
    let kept = rw c.in-Ok.ensures.ok at c.all_rounds-answer.ensures.sources in
    let h = home g.S.IoSource c.self.inside.source c.all_rounds-answer.new.run.live.slots c.end-source.result kept c.end-source.ensures in
    rw (← c.self.view_is) (returned g.S.IoSource c.self.inside.source c.all_rounds-answer.new.run.live.slots c.end-source.result h)

pub returns-in-Ok-clause-ok : goal.returns-in-Ok-clause-ok
returns-in-Ok-clause-ok g c =
    rw (← c.self.view_is) (if_ok _ _ c.all_rounds-answer.result (λ batches comes. (c.all_rounds-answer.new.run, comes, c.end-source.ensures)) (rw c.in-Ok.ensures.ok at c.all_rounds-answer.ensures.ok))

pub returns-in-Ok-clause-err : goal.returns-in-Ok-clause-err
returns-in-Ok-clause-err g c =
    rw (← c.self.view_is) (if_err _ _ c.all_rounds-answer.result (λ error fails. ⊎_elim (λ memory. inl memory) (λ breaks. inr (c.all_rounds-answer.new.run, breaks, c.end-source.ensures)) fails) (rw c.in-Ok.ensures.ok at c.all_rounds-answer.ensures.err))

pub returns-in-Ok-clause-bag : goal.returns-in-Ok-clause-bag
returns-in-Ok-clause-bag g c =
    let kept = rw c.in-Ok.ensures.ok at c.all_rounds-answer.ensures.sources in
    let h = home g.S.IoSource c.self.inside.source c.all_rounds-answer.new.run.live.slots c.end-source.result kept c.end-source.ensures in
    rw (← c.self.view_is) (λ planners morsels. if_ok_both _ _ _ c.all_rounds-answer.result
    (λ batches keeps none.
    gives_owed _ g.S.IoSource (Planner c.args.root) (record { source = c.self.inside.source; limit = c.self.inside.limit }) _ c.all_rounds-answer.new.run c.end-source.result h (work_owed g.P.Planner.owed g.P.Morsel.Morsel.owed) batches.items
    (planners, morsels) keeps none)
    (rw c.in-Ok.ensures.ok at c.all_rounds-answer.ensures.keeps) c.all_rounds-answer.ensures.over)

pub returns-in-Ok-clause-cause : goal.returns-in-Ok-clause-cause
returns-in-Ok-clause-cause g c =
    let kept = rw c.in-Ok.ensures.ok at c.all_rounds-answer.ensures.sources in
    let h = home g.S.IoSource c.self.inside.source c.all_rounds-answer.new.run.live.slots c.end-source.result kept c.end-source.ensures in
    rw (← c.self.view_is) (if_err _ _ c.all_rounds-answer.result
    (λ error stops. faults_by _ g.S.IoSource (Planner c.args.root) (record { source = c.self.inside.source; limit = c.self.inside.limit }) _ c.all_rounds-answer.new.run c.end-source.result h error stops)
    (rw c.in-Ok.ensures.ok at c.all_rounds-answer.ensures.stops))

pub returns-in-Ok-clause-unexpected : goal.returns-in-Ok-clause-unexpected
returns-in-Ok-clause-unexpected g c =
    let kept = rw c.in-Ok.ensures.ok at c.all_rounds-answer.ensures.sources in
    let h = home g.S.IoSource c.self.inside.source c.all_rounds-answer.new.run.live.slots c.end-source.result kept c.end-source.ensures in
    rw (← c.self.view_is) (if_err _ _ c.all_rounds-answer.result
    (λ error stops. lies_alone _ g.S.IoSource (Planner c.args.root) (record { source = c.self.inside.source; limit = c.self.inside.limit }) _ c.all_rounds-answer.new.run c.end-source.result h c.self.invariant error stops)
    (rw c.in-Ok.ensures.ok at c.all_rounds-answer.ensures.stops))

pub returns-in-Ok-clause-permits : goal.returns-in-Ok-clause-permits
returns-in-Ok-clause-permits g c =
    let kept = rw c.in-Ok.ensures.ok at c.all_rounds-answer.ensures.sources in
    let h = home g.S.IoSource c.self.inside.source c.all_rounds-answer.new.run.live.slots c.end-source.result kept c.end-source.ensures in
    rw (← c.self.view_is) (λ planners morsels. if_err _ _ c.all_rounds-answer.result
    (λ error stops. fails_as_root _ g.S.IoSource (Planner c.args.root) (record { source = c.self.inside.source; limit = c.self.inside.limit }) _ c.all_rounds-answer.new.run c.end-source.result h (planners, morsels) error stops)
    (rw c.in-Ok.ensures.ok at c.all_rounds-answer.ensures.stops))

pub returns-in-Ok-clause-unhindered : goal.returns-in-Ok-clause-unhindered
returns-in-Ok-clause-unhindered g c =
    let kept = rw c.in-Ok.ensures.ok at c.all_rounds-answer.ensures.sources in
    let h = home g.S.IoSource c.self.inside.source c.all_rounds-answer.new.run.live.slots c.end-source.result kept c.end-source.ensures in
    rw (← c.self.view_is) (λ planners morsels. if_err _ _ c.all_rounds-answer.result
    (λ error stops.
    lacks_memory _ g.S.IoSource (Planner c.args.root) (record { source = c.self.inside.source; limit = c.self.inside.limit }) _ c.all_rounds-answer.new.run c.end-source.result h (planners, morsels) c.self.invariant c.in-Ok.ensures.most g.P.Planner.is_memory error stops)
    (rw c.in-Ok.ensures.ok at c.all_rounds-answer.ensures.stops))
