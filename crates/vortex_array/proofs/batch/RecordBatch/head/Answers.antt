use Rattle.std.specs.List.{AllZip}
use Rattle.vortex_array.specs.Head.{IsHeadOf}
use Rattle.vortex_array.proofs.Heads.{heads-long}
use Rattle.vortex_array.proofs.batch.RecordBatch.head.Goals as goal

pub unreachable-requires : goal.unreachable-requires
unreachable-requires c =
    let heads : AllZip (IsHeadOf c.args.k) c.args.self.now.columns c.in_ok-columns.columns.items = rw (← c.columns.ensures.value) c.in_ok-columns.ensures in
    c.in-Err.ensures.err (heads-long c.args.self.now.rows c.args.k c.args.self.now.columns c.in_ok-columns.columns.items c.columns.ensures.rows c.requires heads)
