use Rattle.std.proofs.Common.{◌∙◌, ap, length}
use Rattle.vortex_array_types.specs.Row.{Column}
use Rattle.vortex_array_kinds.specs.Kinds.{bool_column}
use Rattle.vortex_array_select.specs.Selected.{taken}
use Rattle.vortex_array.proofs.TakenAt.{numbers-below, same-indices}
use Rattle.vortex_dict.proofs.truths.truths_at_width.Goals as goal

pub truths_at_places-requires-clause-within : goal.truths_at_places-requires-clause-within
truths_at_places-requires-clause-within g c =
    rw c.as_slice.ensures (numbers-below g.P.RowIndex.place (length (bool_column c.args.truths.now).rows) c.args.nulls.now c.args.codes.now c.requires.long c.requires.within)

pub returns : goal.returns
returns g c =
    c.in_ok-answers.ensures
    ∙ rw c.as_slice.ensures (ap (λ (indices : Column). taken indices (bool_column c.args.truths.now)) (same-indices g.P.RowIndex.place c.args.nulls.now c.args.codes.now))
