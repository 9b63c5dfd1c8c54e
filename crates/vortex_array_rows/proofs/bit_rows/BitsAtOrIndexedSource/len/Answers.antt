use Rattle.std.proofs.Common.{false, sym}
use Rattle.vortex_array_rows.proofs.Taken.{length-taken_or_at}
use Rattle.vortex_array_rows.proofs.bit_rows.BitsAtOrIndexedSource.len.Goals as goal

pub returns : goal.returns
returns g c =
    let s = c.args.self.now in
    sym (length-taken_or_at g.P.RowIndex.place false s.bits.now s.places.now s.valid.now s.same_length)
