use Rattle.std.proofs.Common.{◌∙◌, ap, map}
use Rattle.std.proofs.lemmas.Result.{IfOk-weaker}
use Rattle.vortex_array_types.specs.Row.{Column, TypedRow}
use Rattle.vortex_array_cast.specs.Filled.{filled_row}
use Rattle.vortex_array.specs.ColumnOf.{column_of}
use Rattle.vortex_dict.proofs.fill.fill_codes.Goals as goal

pub returns-in-Some-clause-rows : goal.returns-in-Some-clause-rows
returns-in-Some-clause-rows c =
    IfOk-weaker c.fill_with.result _ _
    (λ a e. ap (λ (k : Column). k.rows) e ∙ ap (λ (s : TypedRow). map (filled_row s.value) (column_of c.args.codes.now).rows) c.in-Some.ensures.some)
    c.fill_with.ensures
