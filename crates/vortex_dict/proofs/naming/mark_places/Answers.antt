use Rattle.std.proofs.Common.{length, map}
use Rattle.vortex_dict.proofs.Marks.{marks-nowhere}
use Rattle.vortex_dict.proofs.naming.mark_places.Goals as goal

pub returns-in-AllInvalid : goal.returns-in-AllInvalid
returns-in-AllInvalid g c =
    let places = map g.P.RowIndex.place c.args.places.now in
    marks-nowhere c.args.nulls.now places (length places) c.args.marks.now c.in-AllInvalid.is c.requires.unmarked
