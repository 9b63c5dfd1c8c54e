use Rattle.vortex_scan.specs.Asking.{FirstOf}
use Rattle.vortex_scan.proofs.ask.first_asking.Given as goal

abbrev pub invariant-loop-i : goal.invariant-loop-i
invariant-loop-i g l = FirstOf l.items l.i l.best
