use Rattle.vortex_dict.proofs.Named.{named-inside, named-number}
use Rattle.vortex_dict.proofs.valid.place_names_at.Goals as goal

pub get-requires : goal.get-requires
get-requires g c = rw c.as_slice.ensures (named-inside g.P.RowIndex.place c.args.present.now c.args.nulls.now c.args.places.now c.args.i c.requires.inside)

pub returns : goal.returns
returns g c =
    named-number g.P.RowIndex.place c.args.present.now c.args.nulls.now c.args.places.now c.args.i c.get.result c.requires.inside (rw c.as_slice.ensures at c.get.ensures)
