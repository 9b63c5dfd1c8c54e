use Rattle.std.proofs.Common.{false, sym}
use Rattle.vortex_array_rows.proofs.Taken.{length-taken_or_at}
use Rattle.vortex_dict.proofs.lookup.TruthsAtOrIndexedSource.len.Goals as goal

pub returns : goal.returns
returns g c =
    let s = c.args.self.now in
    sym (length-taken_or_at g.P.RowIndex.place false s.truths.now s.codes.now s.valid.now s.same_length)
