use Rattle.std.proofs.Common.{sym}
use Rattle.vortex_dict.proofs.Named.{length-named}
use Rattle.vortex_dict.proofs.valid.NamingIndexedSource.len.Goals as goal

pub returns : goal.returns
returns g c = let s = c.args.self.now in sym (length-named g.P.RowIndex.place s.present.now s.nulls.now s.places.now s.long)
