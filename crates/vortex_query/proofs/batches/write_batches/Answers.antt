use Rattle.std.proofs.Common.{refl, take}
use Rattle.vortex_table_types.specs.Turn.{batch_rows}
use Rattle.vortex_table.specs.Given.{given}
use Rattle.vortex_scan_types.specs.declared.request.Projection.TheVariants as projections
use Rattle.vortex_query.specs.Shown.{rows_of}
use Rattle.vortex_query.specs.Text.{text}
use Rattle.vortex_query.proofs.Lines.{more_rows, rows_more}
use Rattle.vortex_query.proofs.batches.write_batches.Goals as goal

pub loop-batch-preserved : goal.loop-batch-preserved
loop-batch-preserved c =
    let columns = c.args.columns.now in
    let i = c.loop-batch.batch-index in
    let before = rows_of (take i c.args.batches.now) in
    let h = rw c.one_array.ensures.rows at (c.in_ok-write_array.ensures columns c.requires.columns (text columns projections.All before) c.loop-batch.invariant) in
    rw (rows_more c.args.batches.now i c.batch-item.result c.batch-item.is c.loop-batch-test.true, more_rows columns projections.All before (batch_rows (given c.batch-item.result)) c.requires.columns refl) h
