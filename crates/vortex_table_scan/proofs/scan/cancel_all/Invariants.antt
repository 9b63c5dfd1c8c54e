use Rattle.vortex_table_scan.specs.Taking.{Cancels}
use Rattle.vortex_table_scan.proofs.scan.cancel_all.Given as goal

abbrev pub invariant-roots : goal.invariant-roots
invariant-roots g l = Cancels g.S.IoSource l.initial.run.live.slots l.run.live.slots
