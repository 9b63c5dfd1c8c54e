use Rattle.std.proofs.Common.{◌≡◌, []}
use Rattle.vortex_scan.specs.Bag.{work_owed}
use Rattle.vortex_scan.specs.Driving.{KeepsRun}
use Rattle.vortex_scan.specs.Seats.{work_seats}
use Rattle.vortex_scan.specs.Visits.{asked_count}
use Rattle.vortex_scan.proofs.Driven.{works_of}
use Rattle.vortex_table_scan.specs.Rounds.{KeepsPlaces}
use Rattle.vortex_table_scan.proofs.rounds.some_rounds.Given as goal

abbrev pub invariant-waits : goal.invariant-waits
invariant-waits g l = record {
  keeps : KeepsRun (works_of g.P.Planner.state_is g.P.Morsel.Morsel.state_is g.P.Planner.computes g.P.Morsel.Morsel.computes g.P.IoConsumer.takes g.P.Morsel.IoConsumer.takes g.P.IoConsumer.names g.P.Morsel.IoConsumer.names g.P.Planner.orderly g.P.Morsel.Morsel.orderly
      g.P.Planner.asked g.P.Morsel.Morsel.asked g.P.Planner.work g.P.Morsel.Morsel.work g.P.Planner.permits g.P.Morsel.Morsel.permits) g.S.IoSource (work_owed g.P.Planner.owed g.P.Morsel.Morsel.owed) (g.P.Planner.tells × g.P.Morsel.Morsel.tells) [] l.initial.run l.run;
  places : g.P.Planner.plans → g.P.Morsel.Morsel.plans → KeepsPlaces g.S.IoSource (work_seats g.P.Planner.plan g.P.Morsel.Morsel.plan g.P.Morsel.Morsel.fresh) g.P.Morsel.Morsel.gives_such [] l.initial.run.live l.run.live;
  still : l.run.visits ≡ l.before;
  begun : l.before ≡ l.initial.run.visits;
}

abbrev pub decreases-waits : goal.decreases-waits
decreases-waits g l = asked_count l.run.live.items
