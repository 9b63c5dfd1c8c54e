use Rattle.vortex_scan_types.specs.Sorted.{IncreasesBelow}
use Rattle.vortex_scan_types.proofs.selection.ascending_len.Given as goal

abbrev pub invariant-loop-i : goal.invariant-loop-i
invariant-loop-i g l = IncreasesBelow g.T.Ord.cmp l.items l.i
