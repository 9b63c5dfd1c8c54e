use Rattle.std.proofs.Common.{take}
use Rattle.std.specs.List.{AllZip}
use Rattle.vortex_compute.proofs.mapping.map_into.Given as goal

abbrev pub invariant-loop-i : goal.invariant-loop-i
invariant-loop-i g l = AllZip (λ x r. goal.F-post g l.f x r) (take l.i (g.S.IndexedSource.lanes l.values)) (take l.i l.out)
