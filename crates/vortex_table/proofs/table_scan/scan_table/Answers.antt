use Rattle.vortex_table.proofs.OnePartition.{stand_still, table_answers}
use Rattle.vortex_table.proofs.table_scan.scan_table.Goals as goal

pub returns-in-Err-clause-stands : goal.returns-in-Err-clause-stands
returns-in-Err-clause-stands c = stand_still c.args.table.now.sources c.partitions.ensures.idle

pub returns-in-Ok-scan_only-clause-rows : goal.returns-in-Ok-scan_only-clause-rows
returns-in-Ok-scan_only-clause-rows c =
    let scanned = c.in-Ok-scan_only.ensures in
    let kept = rw (c.columns.ensures, c.partitions.ensures.value) at c.in-Ok.ensures in
    let table = c.args.table.now in
    rw scanned.batches (table_answers table.columns table.partitions table.sources c.args.request.now c.in-Ok.keep kept.one kept.column kept.unlimited kept.keeps scanned.described.fits c.requires.fits)
