use Rattle.std.proofs.Common.{take, ◌*◌}
use Rattle.vortex_compute.specs.Answers.{MapsValid}
use Rattle.vortex_compute.proofs.mapping.map_masked_into.Given as goal

abbrev pub invariant-loop-k : goal.invariant-loop-k
invariant-loop-k g l = MapsValid (λ x r. goal.F-post g l.f x r) g.R.LaneDefault.its_default (take (64 * l.k) (g.S.IndexedSource.lanes l.values)) (take (64 * l.k) l.mask) (take (64 * l.k) l.out)
