use Rattle.vortex_scan.specs.Keys.{LeastOf}
use Rattle.vortex_scan.proofs.least.least_ready.Given as goal

abbrev pub invariant-loop-i : goal.invariant-loop-i
invariant-loop-i g l = LeastOf l.items l.i l.best
