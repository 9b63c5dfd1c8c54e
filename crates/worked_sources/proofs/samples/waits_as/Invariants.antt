use Rattle.std.proofs.Common.{◌+◌, ◌≤◌, length}
use Rattle.worked_sources.proofs.samples.waits_as.Given as goal

abbrev pub invariant-loop-wanted : goal.invariant-loop-wanted
invariant-loop-wanted g l = length l.expected ≤ l.wanted-index + length (g.S.IoSource.outstanding l.source)
