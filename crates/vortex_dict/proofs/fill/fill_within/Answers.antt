use Rattle.std.proofs.Common.{length}
use Rattle.std.proofs.lemmas.List.{length-map}
use Rattle.vortex_array_cast.specs.Filled.{filled_row}
use Rattle.vortex_array.specs.ColumnOf.{column_of}
use Rattle.vortex_dict.proofs.FilledColumns.{filled-decoded, filled-names}
use Rattle.vortex_dict.proofs.fill.fill_within.Goals as goal

pub new-requires : goal.new-requires
new-requires c =
    let d = c.args.dict.now in
    let full = column_of c.in_ok-codes.codes in
    rw (c.in_ok-values.ensures.column, c.values.ensures.value, length-map (column_of d.values).rows (filled_row c.args.fill.now.value))
    (filled-names c.args.place (length (column_of d.values).rows) (column_of d.codes) full c.requires.first.within c.codes.ensures.fits c.in_ok-codes.ensures.kind (rw c.codes.ensures.value at c.in_ok-codes.ensures.rows))

pub returns-clause-column : goal.returns-clause-column
returns-clause-column c =
    let d = c.args.dict.now in
    let full = column_of c.in_ok-codes.codes in
    rw (c.new.ensures, c.in_ok-values.ensures.column, c.values.ensures.value)
    (filled-decoded c.args.fill.now c.args.place (column_of d.codes) full (column_of d.values) c.requires.first c.codes.ensures.fits c.in_ok-codes.ensures.full (rw c.codes.ensures.value at c.in_ok-codes.ensures.rows))
