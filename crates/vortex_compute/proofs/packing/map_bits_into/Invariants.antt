use Rattle.std.proofs.Common.{take, ◌*◌}
use Rattle.vortex_compute.specs.Answers.{MapsBits}
use Rattle.vortex_compute.proofs.packing.map_bits_into.Given as goal

abbrev pub invariant-loop-k : goal.invariant-loop-k
invariant-loop-k g l = MapsBits (λ x b. goal.F-post g l.f x b) (take (64 * l.k) (g.S.IndexedSource.lanes l.values)) l.fn.words l.words
