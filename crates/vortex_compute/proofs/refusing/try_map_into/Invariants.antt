use Rattle.std.proofs.Common.{take, ◌*◌}
use Rattle.vortex_compute.specs.Answers.{MapsLanes, all_valid}
use Rattle.vortex_compute.proofs.refusing.try_map_into.Given as goal

abbrev pub invariant-loop-k : goal.invariant-loop-k
invariant-loop-k g l = MapsLanes (λ x b. goal.F-post g l.f x b) g.R.LaneDefault.its_default (take (64 * l.k) (g.S.IndexedSource.lanes l.values)) (all_valid (g.S.IndexedSource.lanes l.values)) (take (64 * l.k) l.out)
