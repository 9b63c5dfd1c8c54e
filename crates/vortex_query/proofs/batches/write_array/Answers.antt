use Rattle.vortex_array.specs.ColumnOf.{column_of}
use Rattle.vortex_query.proofs.Lines.{column_rows}
use Rattle.vortex_query.proofs.batches.write_array.Goals as goal

pub returns-in-Some : goal.returns-in-Some
returns-in-Some c columns one written holds =
    let rows = column_rows (column_of c.args.array.now) _ c.in-Some.ensures.numbers in
    rw rows at (c.in_ok-write_numbers.ensures columns one written holds)
