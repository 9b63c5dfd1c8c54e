use Rattle.vortex_array.specs.ColumnOf.{column_of}
use Rattle.vortex_query.proofs.Lines.{column_rows}
use Rattle.vortex_query.proofs.batches.write_copied.Goals as goal

pub returns : goal.returns
returns c columns one written holds =
    let rows = column_rows (column_of c.args.array.now) _ c.in_ok-numbers.ensures in
    rw (c.as_slice.ensures.value, rows) at (c.in_ok-write_numbers.ensures columns one written holds)
