use Rattle.std.proofs.Common.{◌∙◌, sym}
use Rattle.std.proofs.lemmas.Simd.{length-zip2}
use Rattle.vortex_array_compare.proofs.orders.PairsIndexedSource.len.Goals as goal

pub returns : goal.returns
returns g c =
    let s = c.args.self.now in
    c.len.ensures ∙ sym (length-zip2 g.T.Ord.cmp (g.A.IndexedSource.lanes s.left) (g.B.IndexedSource.lanes s.right) s.same_length)
