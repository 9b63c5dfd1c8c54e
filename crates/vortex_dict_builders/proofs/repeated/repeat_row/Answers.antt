use Rattle.std.proofs.Common.{◌∙◌, ap}
use Rattle.vortex_array_types.specs.Row.{TypedRow}
use Rattle.vortex_array_cast.specs.Filled.{filled}
use Rattle.vortex_array.specs.ColumnOf.{column_of}
use Rattle.vortex_dict_builders.proofs.Repeats.{self-filled}
use Rattle.vortex_dict_builders.proofs.repeated.repeat_row.Goals as goal

pub returns-in_ok-rows-in-Some-clause-column : goal.returns-in_ok-rows-in-Some-clause-column
returns-in_ok-rows-in-Some-clause-column c =
    let k = c.args.row.now in
    c.in_ok-rows-in-Some.ensures.column
    ∙ ap (λ (s : TypedRow). filled s (column_of c.args.array.now)) c.scalar-in-Some.ensures
    ∙ ap (filled k.scalar) c.requires
    ∙ self-filled k
