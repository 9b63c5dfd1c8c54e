use Rattle.std.proofs.Common.{◌≡◌, ℕ, ◌-◌, length}
use Rattle.vortex_scan.specs.Bag.{work_owed}
use Rattle.vortex_scan.specs.Driving.{GoesRound, KeepsRun}
use Rattle.vortex_scan.proofs.Driven.{works_of}
use Rattle.vortex_scan.proofs.driver.all_rounds.Given as goal

abbrev pub invariant-rounds : goal.invariant-rounds
invariant-rounds g l = record {
  goes : (rounds : ℕ) × GoesRound (works_of g.P.Planner.state_is g.P.Morsel.Morsel.state_is g.P.Planner.computes g.P.Morsel.Morsel.computes g.P.IoConsumer.takes g.P.Morsel.IoConsumer.takes g.P.IoConsumer.names g.P.Morsel.IoConsumer.names g.P.Planner.orderly g.P.Morsel.Morsel.orderly
      g.P.Planner.asked g.P.Morsel.Morsel.asked g.P.Planner.work g.P.Morsel.Morsel.work g.P.Planner.permits g.P.Morsel.Morsel.permits) g.S.IoSource g.P.Payload.Payload rounds l.batches.items l.initial.run l.run;
  keeps : KeepsRun (works_of g.P.Planner.state_is g.P.Morsel.Morsel.state_is g.P.Planner.computes g.P.Morsel.Morsel.computes g.P.IoConsumer.takes g.P.Morsel.IoConsumer.takes g.P.IoConsumer.names g.P.Morsel.IoConsumer.names g.P.Planner.orderly g.P.Morsel.Morsel.orderly
      g.P.Planner.asked g.P.Morsel.Morsel.asked g.P.Planner.work g.P.Morsel.Morsel.work g.P.Planner.permits g.P.Morsel.Morsel.permits) g.S.IoSource (work_owed g.P.Planner.owed g.P.Morsel.Morsel.owed) (g.P.Planner.tells × g.P.Morsel.Morsel.tells) l.batches.items l.initial.run l.run;
  one : length l.run.live.slots ≡ 1;
}

abbrev pub decreases-rounds : goal.decreases-rounds
decreases-rounds g l = l.run.limit - l.run.visits
