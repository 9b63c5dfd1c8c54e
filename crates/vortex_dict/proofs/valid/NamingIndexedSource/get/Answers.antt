use Rattle.std.proofs.Common.{rules, arith, ◌<◌, length}
use Rattle.vortex_dict.proofs.Named.{length-named, named-lane}
use Rattle.vortex_dict.proofs.valid.NamingIndexedSource.get.Goals as goal

pub offset_bounds-self-i : goal.offset_bounds-self-i
offset_bounds-self-i g c =
    let s = c.args.self.now in
    let inside : c.args.i < length s.places.now = omega (arith, c.requires, length-named g.P.RowIndex.place s.present.now s.nulls.now s.places.now s.long) in
    search rules

pub bounds-self-i : goal.bounds-self-i
bounds-self-i g c = let s = c.args.self.now in omega (arith, c.requires, length-named g.P.RowIndex.place s.present.now s.nulls.now s.places.now s.long)

pub returns : goal.returns
returns g c =
    let s = c.args.self.now in
    let i = c.args.i in
    let inside : i < length s.places.now = omega (arith, c.requires, length-named g.P.RowIndex.place s.present.now s.nulls.now s.places.now s.long) in
    named-lane g.P.RowIndex.place s.present.now s.nulls.now s.places.now i c.index-self-i.result c.is_present.result s.long inside (rw (c.is_valid.ensures, c.place.ensures) at c.is_present.ensures)
