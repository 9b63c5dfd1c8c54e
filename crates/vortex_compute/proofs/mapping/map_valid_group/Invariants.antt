use Rattle.vortex_compute.specs.Groups.{ValidGroup}
use Rattle.vortex_compute.proofs.mapping.map_valid_group.Given as goal

abbrev pub invariant-loop-bit : goal.invariant-loop-bit
invariant-loop-bit g l = ValidGroup (λ x r. goal.F-post g l.f x r) g.R.LaneDefault.its_default (g.S.IndexedSource.lanes l.values) l.mask l.base l.bit l.fn.out l.out
