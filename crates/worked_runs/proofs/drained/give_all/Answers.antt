use Rattle.vortex_scan.specs.Bag.{work_owed}
use Rattle.vortex_scan.specs.declared.worker.Work.TheVariants as work
use Rattle.worked_runs.proofs.Draining.{one_gives, one_permits}
use Rattle.worked_runs.proofs.drained.give_all.Goals as goal

pub returns-in-Ok-drain-clause-all : goal.returns-in-Ok-drain-clause-all
returns-in-Ok-drain-clause-all g c =
    one_gives g.S.IoSource (work_owed g.P.Planner.owed g.P.Morsel.Morsel.owed) c.in-Ok-drain.batches.items c.args.steps (work.Planner c.args.root) c.scope_of.result c.args.source c.new.result c.with_step_limit-run.result c.admit.new.self
    c.new.ensures c.with_step_limit-run.ensures c.in-Ok.ensures.ok.1 c.in-Ok-drain.ensures.all

pub returns-clause-permitted : goal.returns-clause-permitted
returns-clause-permitted g c =
    one_permits _ g.S.IoSource c.in-Err-drain.error c.args.steps (work.Planner c.args.root) c.scope_of.result c.args.source c.new.result c.with_step_limit-run.result c.admit.new.self
    c.new.ensures c.with_step_limit-run.ensures c.in-Ok.ensures.ok.1 c.in-Err-drain.ensures.permitted
