use Rattle.vortex_scan.specs.Bag.{work_owed}
use Rattle.vortex_scan.specs.contracts.worker.WorkMorselWorker.TheImpl.{ghosts}
use Rattle.worked_runs.specs.Drained.{IsTaken}
use Rattle.worked_runs.proofs.drained.drain.Given as goal

-- the run was taken on from where it stood, and gave these batches
abbrev pub invariant-loop : goal.invariant-loop
invariant-loop g l =
    IsTaken (ghosts g.row.P g.row.P-Error g.row.P-Morsel g.row.P-Payload g.P.Planner g.P.Planner-dict g.P.IoConsumer g.P.IoConsumer-dict g.P.Payload.Payload g.P.Payload.Payload-dict
    g.P.Morsel.Morsel g.P.Morsel.Morsel-dict g.P.Morsel.IoConsumer g.P.Morsel.IoConsumer-dict g.P.Destruct-dict g.P.Error.Destruct-dict g.P.Morsel.Destruct-dict g.P.Payload.Destruct-dict)
    g.S.IoSource (work_owed g.P.Planner.owed g.P.Morsel.Morsel.owed) l.fn.run l.batches.items l.run
