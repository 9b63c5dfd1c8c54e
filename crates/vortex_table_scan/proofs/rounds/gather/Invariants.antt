use Rattle.std.proofs.Common.{◌-◌, List}
use Rattle.vortex_scan.specs.Bag.{work_owed}
use Rattle.vortex_scan.specs.Driving.{KeepsRun}
use Rattle.vortex_scan.specs.Seats.{work_seats}
use Rattle.vortex_scan_types.specs.declared.batch.Batch.{Batch}
use Rattle.vortex_scan.proofs.Driven.{works_of}
use Rattle.vortex_table_scan.specs.Rounds.{KeepsPlaces}
use Rattle.vortex_table_scan.proofs.Cutting.{CutSoFar}
use Rattle.vortex_table_scan.proofs.rounds.gather.Given as goal

abbrev pub invariant-rounds : goal.invariant-rounds
invariant-rounds g l = record {
  given : List Batch;
  cut : CutSoFar l.fn.limit given l.batches.items l.left;
  keeps : KeepsRun (works_of g.P.Planner.state_is g.P.Morsel.Morsel.state_is g.P.Planner.computes g.P.Morsel.Morsel.computes g.P.IoConsumer.takes g.P.Morsel.IoConsumer.takes g.P.IoConsumer.names g.P.Morsel.IoConsumer.names g.P.Planner.orderly g.P.Morsel.Morsel.orderly
      g.P.Planner.asked g.P.Morsel.Morsel.asked g.P.Planner.work g.P.Morsel.Morsel.work g.P.Planner.permits g.P.Morsel.Morsel.permits) g.S.IoSource (work_owed g.P.Planner.owed g.P.Morsel.Morsel.owed) (g.P.Planner.tells × g.P.Morsel.Morsel.tells) given l.initial.run l.run;
  places : g.P.Planner.plans × g.P.Morsel.Morsel.plans → KeepsPlaces g.S.IoSource (work_seats g.P.Planner.plan g.P.Morsel.Morsel.plan g.P.Morsel.Morsel.fresh) g.P.Morsel.Morsel.gives_such given l.initial.run.live l.run.live;
}

abbrev pub decreases-rounds : goal.decreases-rounds
decreases-rounds g l = l.run.limit - l.run.visits
