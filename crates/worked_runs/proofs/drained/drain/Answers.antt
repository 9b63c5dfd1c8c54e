use Rattle.vortex_scan.specs.Bag.{work_owed}
use Rattle.worked_runs.proofs.Draining.{gives_all, not_taken}
use Rattle.worked_runs.proofs.drained.drain.Goals as goal

pub loop-init : goal.loop-init
loop-init g c = rw c.new-batches.ensures.items (not_taken _ g.S.IoSource (work_owed g.P.Planner.owed g.P.Morsel.Morsel.owed) c.requires.honest c.args.run.now c.requires.orderly)

pub returns-in-Ok-false-clause-all : goal.returns-in-Ok-false-clause-all
returns-in-Ok-false-clause-all g c =
    gives_all _ g.S.IoSource (work_owed g.P.Planner.owed g.P.Morsel.Morsel.owed) c.requires.honest c.args.run.now c.take_on.new.run c.take_on.new.batches.items (c.in-Ok-false.ensures.emptied c.in-Ok-false.field-0-test)
    (c.in-Ok-false.ensures.taken c.args.run.now c.loop.invariant)

pub returns-in-Err-clause-in_order : goal.returns-in-Err-clause-in_order
returns-in-Err-clause-in_order g c = c.in-Err.ensures.in_order c.args.run.now c.loop.invariant c.requires.limit

pub returns-in-Err-clause-permitted : goal.returns-in-Err-clause-permitted
returns-in-Err-clause-permitted g c = c.in-Err.ensures.permitted c.args.run.now c.loop.invariant

pub loop-preserved : goal.loop-preserved
loop-preserved g c = c.in-Ok-true.ensures.taken c.args.run.now c.loop.invariant
