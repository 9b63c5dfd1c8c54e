use Rattle.std.proofs.Common.{◌∙◌}
use Rattle.vortex_array.specs.ColumnOf.{column_of}
use Rattle.vortex_array.proofs.Filling.{repeated-first}
use Rattle.vortex_array.proofs.take.repeat_row.Goals as goal

pub returns-clause-column : goal.returns-clause-column
returns-clause-column c =
    c.in_ok-part.ensures.column
    ∙ rw (c.as_slice.ensures.value, c.in_ok-first.ensures) (repeated-first (column_of c.args.row.now) c.args.len)
