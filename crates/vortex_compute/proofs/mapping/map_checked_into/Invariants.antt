use Rattle.std.proofs.Common.{take}
use Rattle.vortex_compute.specs.Answers.{MapsChecked}
use Rattle.vortex_compute.proofs.mapping.map_checked_into.Given as goal

abbrev pub invariant-loop-i : goal.invariant-loop-i
invariant-loop-i g l = MapsChecked (λ x r. goal.F-post g l.apply x r) g.W.FailWord.no_failure g.W.FailWord.either (take l.i (g.S.IndexedSource.lanes l.values)) (take l.i l.out) l.failures
