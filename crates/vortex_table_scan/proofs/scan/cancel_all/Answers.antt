use Rattle.std.proofs.Common.{refl}
use Rattle.vortex_table_scan.proofs.Cancelled.{cancel_keeps, cancels_none, cancels_then}
use Rattle.vortex_table_scan.proofs.scan.cancel_all.Goals as goal

pub roots-init : goal.roots-init
roots-init g c = cancels_none g.S.IoSource c.args.run.now.live.slots

pub roots-preserved : goal.roots-preserved
roots-preserved g c =
    cancels_then g.S.IoSource c.args.run.now.live.slots c.roots.run.live.slots c.cancel.new.self.live.slots c.roots.invariant
    (record { keeps = cancel_keeps g.S.IoSource _ _ c.roots.run.live c.cancel.new.self.live refl c.cancel.ensures.step; journals = c.cancel.ensures.journals; sure = c.cancel.ensures.sure })
