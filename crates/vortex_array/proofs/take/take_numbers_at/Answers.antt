use Rattle.std.proofs.Common.{◌∙◌, ap, length}
use Rattle.vortex_array_types.specs.Row.{Column}
use Rattle.vortex_array_select.specs.Selected.{taken}
use Rattle.vortex_array.specs.ColumnOf.{column_of}
use Rattle.vortex_array.proofs.TakenAt.{numbers-below, same-indices}
use Rattle.vortex_array.proofs.take.take_numbers_at.Goals as goal

pub take_at-requires-clause-within : goal.take_at-requires-clause-within
take_at-requires-clause-within g c =
    rw c.as_slice.ensures (numbers-below g.P.RowIndex.place (length (column_of c.args.array.now).rows) c.args.nulls.now c.args.places.now c.requires.long c.requires.within)

pub returns-clause-column : goal.returns-clause-column
returns-clause-column g c =
    c.in_ok-part.ensures.column
    ∙ rw c.as_slice.ensures (ap (λ (indices : Column). taken indices (column_of c.args.array.now)) (same-indices g.P.RowIndex.place c.args.nulls.now c.args.places.now))
