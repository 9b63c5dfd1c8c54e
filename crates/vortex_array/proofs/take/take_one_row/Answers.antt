use Rattle.std.proofs.Common.{◌∙◌, ap, map}
use Rattle.vortex_array_types.specs.Row.{Column}
use Rattle.vortex_array_select.specs.Selected.{taken}
use Rattle.vortex_array_select.specs.SelectedParts.{index_column}
use Rattle.vortex_array.proofs.TakenAt.{one-taken-by}
use Rattle.vortex_array.proofs.take.take_one_row.Goals as goal

pub returns : goal.returns
returns g c =
    c.in_ok-part.ensures.column
    ∙ ap (λ (whole : Column). taken (index_column c.args.nulls.now (map (λ i. i) c.as_slice.result.now)) whole) c.in_ok-row.ensures.column
    ∙ rw (c.as_slice.ensures.value, c.in_ok-first.ensures, c.scalar.ensures)
    (one-taken-by g.P.RowIndex.place c.args.array.now.scalar c.args.array.now.len c.args.nulls.now c.args.places.now c.requires.long c.requires.within)
