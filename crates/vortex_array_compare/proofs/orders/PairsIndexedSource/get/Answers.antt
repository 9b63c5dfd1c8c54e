use Rattle.std.proofs.Common.{arith, ◌<◌, ◌∙◌, ap, length, get_or}
use Rattle.vortex_array_compare.proofs.Pairs.{pair-inside, pair-at}
use Rattle.vortex_array_compare.proofs.orders.PairsIndexedSource.get.Goals as goal

pub get-requires : goal.get-requires
get-requires g c = let s = c.args.self.now in pair-inside g.T.Ord.cmp (g.A.IndexedSource.lanes s.left) (g.B.IndexedSource.lanes s.right) c.args.i s.same_length c.requires

pub get-requires-2 : goal.get-requires-2
get-requires-2 g c =
    let s = c.args.self.now in
    let inside : c.args.i < length (g.A.IndexedSource.lanes s.left) = pair-inside g.T.Ord.cmp (g.A.IndexedSource.lanes s.left) (g.B.IndexedSource.lanes s.right) c.args.i s.same_length c.requires in
    omega (arith, inside, s.same_length)

pub returns : goal.returns
returns g c =
    let s = c.args.self.now in
    let xs = g.A.IndexedSource.lanes s.left in
    let ys = g.B.IndexedSource.lanes s.right in
    pair-at g.T.Ord.cmp xs ys c.args.i c.get.result c.get-2.result c.cmp.result c.cmp.result s.same_length c.requires
    (c.cmp.ensures ∙ ap (λ x. g.T.Ord.cmp x c.get-2.result) c.get.ensures ∙ ap (g.T.Ord.cmp (get_or xs c.args.i c.get.result)) c.get-2.ensures)
