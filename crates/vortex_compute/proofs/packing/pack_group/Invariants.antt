use Rattle.std.proofs.Common.{take, drop}
use Rattle.vortex_compute.specs.Groups.{PackedGroup}
use Rattle.vortex_compute.proofs.packing.pack_group.Given as goal

abbrev pub invariant-loop-bit : goal.invariant-loop-bit
invariant-loop-bit g l = PackedGroup (λ x b. goal.F-post g l.f x b) (take l.bit (drop l.base (g.S.IndexedSource.lanes l.values))) l.word
