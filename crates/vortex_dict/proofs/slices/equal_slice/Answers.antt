use Rattle.vortex_array.specs.ColumnOf.{column_of}
use Rattle.vortex_dict.proofs.Repeats.{codes-sliced}
use Rattle.vortex_dict.proofs.slices.equal_slice.Goals as goal

pub returns : goal.returns
returns c =
    let d = c.args.dict.now in
    rw (c.new.ensures, c.in_ok-row.ensures)
    (codes-sliced d.codes (column_of d.values) c.args.start c.args.end c.requires.equal c.requires.order c.requires.within)
