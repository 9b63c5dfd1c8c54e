use Rattle.std.proofs.Common.{◌≡◌, take}
use Rattle.vortex_decimal_byte_parts.proofs.pairs.collect_lanes.Given as goal

abbrev pub invariant-loop-i : goal.invariant-loop-i
invariant-loop-i g l = l.lanes.items ≡ take l.i (g.S.IndexedSource.lanes l.source)
