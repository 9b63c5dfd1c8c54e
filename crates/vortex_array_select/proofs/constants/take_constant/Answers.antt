use Rattle.vortex_array_select.proofs.ConstantRows.{constant-taken}
use Rattle.vortex_array_select.proofs.constants.take_constant.Goals as goal

pub returns : goal.returns
returns g c =
    rw (c.new.ensures, c.in_ok-scalar.ensures, c.scalar.ensures)
    (constant-taken g.P.RowIndex.place c.args.array.now.scalar c.args.array.now.len c.args.nulls.now c.args.places.now c.requires.present c.requires.within)
