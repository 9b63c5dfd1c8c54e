use Rattle.vortex_query.specs.Spelled.{table_seen}
use Rattle.vortex_query.proofs.Forms.{is_built_for}
use Rattle.vortex_query.proofs.program.batches_of.Goals as goal

pub unreachable-requires : goal.unreachable-requires
unreachable-requires c =
    let built = is_built_for c.args.request.now (table_seen c.args.table.now) c.requires.request c.requires.table in
    let cause = rw c.in-NotBuilt.is at c.in-Err.ensures.cause in
    absurd (cc (built, cause))
