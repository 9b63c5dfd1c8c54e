use Rattle.std.proofs.Common.{ap}
use Rattle.vortex_scan.specs.Bag.{batches_of, work_owed}
use Rattle.worked_runs.proofs.Draining.{advanced, advanced_alone, fails_within, waited}
use Rattle.worked_runs.proofs.drained.take_on.Goals as goal

pub returns-in_ok-keep-in-Ok-Batch-clause-taken : goal.returns-in_ok-keep-in-Ok-Batch-clause-taken
returns-in_ok-keep-in-Ok-Batch-clause-taken g c = λ begun taken.
    let t = advanced _ g.S.IoSource (work_owed g.P.Planner.owed g.P.Morsel.Morsel.owed) c.requires.honest _ begun c.args.run.now c.advance.new.self c.args.batches.now.items c.in-Ok-Batch.field-0 c.in-Ok-Batch.ensures.sources
    (c.in-Ok-Batch.ensures.bag c.requires.tells.0 c.requires.tells.1) c.in-Ok-Batch.ensures.orderly c.in-Ok-Batch.ensures.work (c.in-Ok-Batch.ensures.permitted c.requires.tells.0 c.requires.tells.1) c.in-Ok-Batch.ensures.ok.1 taken in
    rw c.in_ok-keep-in-Ok-Batch.ensures.ok (rw c.in-Ok-Batch.field-0-is at t)

pub returns-in-Ok-RootDone-clause-taken : goal.returns-in-Ok-RootDone-clause-taken
returns-in-Ok-RootDone-clause-taken g c = λ begun taken.
    advanced_alone _ g.S.IoSource (work_owed g.P.Planner.owed g.P.Morsel.Morsel.owed) c.requires.honest _ begun c.args.run.now c.advance.new.self c.args.batches.now.items c.in-Ok-RootDone.field-0 (ap batches_of c.in-Ok-RootDone.field-0-is) c.in-Ok-RootDone.ensures.sources
    (c.in-Ok-RootDone.ensures.bag c.requires.tells.0 c.requires.tells.1) c.in-Ok-RootDone.ensures.orderly c.in-Ok-RootDone.ensures.work (c.in-Ok-RootDone.ensures.permitted c.requires.tells.0 c.requires.tells.1) c.in-Ok-RootDone.ensures.ok.1 taken

pub returns-in-Ok-Idle-clause-taken : goal.returns-in-Ok-Idle-clause-taken
returns-in-Ok-Idle-clause-taken g c = λ begun taken.
    advanced_alone _ g.S.IoSource (work_owed g.P.Planner.owed g.P.Morsel.Morsel.owed) c.requires.honest _ begun c.args.run.now c.advance.new.self c.args.batches.now.items c.in-Ok-Idle.field-0 (ap batches_of c.in-Ok-Idle.field-0-is) c.in-Ok-Idle.ensures.sources
    (c.in-Ok-Idle.ensures.bag c.requires.tells.0 c.requires.tells.1) c.in-Ok-Idle.ensures.orderly c.in-Ok-Idle.ensures.work (c.in-Ok-Idle.ensures.permitted c.requires.tells.0 c.requires.tells.1) c.in-Ok-Idle.ensures.ok.1 taken

pub returns-in-Ok-clause-taken : goal.returns-in-Ok-clause-taken
returns-in-Ok-clause-taken g c = λ begun taken.
    let t = advanced_alone _ g.S.IoSource (work_owed g.P.Planner.owed g.P.Morsel.Morsel.owed) c.requires.honest _ begun c.args.run.now c.advance.new.self c.args.batches.now.items c.in-Ok-Waiting.field-0 (ap batches_of c.in-Ok-Waiting.field-0-is) c.in-Ok-Waiting.ensures.sources
    (c.in-Ok-Waiting.ensures.bag c.requires.tells.0 c.requires.tells.1) c.in-Ok-Waiting.ensures.orderly c.in-Ok-Waiting.ensures.work (c.in-Ok-Waiting.ensures.permitted c.requires.tells.0 c.requires.tells.1) c.in-Ok-Waiting.ensures.ok.1 taken in
    waited _ g.S.IoSource (work_owed g.P.Planner.owed g.P.Morsel.Morsel.owed) c.requires.honest begun c.advance.new.self c.wait_any.new.self c.args.batches.now.items c.in-Ok.ensures.sources
    (c.in-Ok.ensures.bag c.requires.tells.0 c.requires.tells.1) c.in-Ok.ensures.orderly c.in-Ok.ensures.work (c.in-Ok.ensures.permitted c.requires.tells.0 c.requires.tells.1) c.in-Ok.ensures.ok.3 t

pub returns-in-Err-clause-permitted : goal.returns-in-Err-clause-permitted
returns-in-Err-clause-permitted g c = λ begun taken.
    fails_within _ g.S.IoSource (work_owed g.P.Planner.owed g.P.Morsel.Morsel.owed) c.requires.honest begun c.args.run.now c.advance.new.self.live c.args.batches.now.items c.in-Err.error c.in-Err.ensures.sources taken
    (c.in-Err.ensures.permits c.requires.tells.0 c.requires.tells.1)
