use Rattle.std.proofs.Common.{take, drop}
use Rattle.vortex_compute.specs.Groups.{TriedGroup}
use Rattle.vortex_compute.proofs.refusing.try_group.Given as goal

abbrev pub invariant-loop-bit : goal.invariant-loop-bit
invariant-loop-bit g l = TriedGroup (λ x b. goal.F-post g l.f x b) g.R.LaneDefault.its_default (take l.bit (drop l.base (g.S.IndexedSource.lanes l.values))) l.base l.bit l.fn.out l.out l.failed
