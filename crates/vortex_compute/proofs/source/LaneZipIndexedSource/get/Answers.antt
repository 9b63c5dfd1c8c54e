use Rattle.std.proofs.Common.{arith, ◌<◌, length}
use Rattle.std.proofs.lemmas.Slice.Zip.{length-zip}
use Rattle.vortex_compute.proofs.Pairs.{pair_read}
use Rattle.vortex_compute.proofs.source.LaneZipIndexedSource.get.Goals as goal

pub get-requires : goal.get-requires
get-requires g c =
    let both = length-zip (g.A.IndexedSource.lanes c.args.self.now.left) (g.B.IndexedSource.lanes c.args.self.now.right) in
    omega (arith, both, c.requires)

pub get-requires-2 : goal.get-requires-2
get-requires-2 g c =
    let both = length-zip (g.A.IndexedSource.lanes c.args.self.now.left) (g.B.IndexedSource.lanes c.args.self.now.right) in
    omega (arith, both, c.requires)

pub returns : goal.returns
returns g c =
    let lefts = g.A.IndexedSource.lanes c.args.self.now.left in
    let rights = g.B.IndexedSource.lanes c.args.self.now.right in
    let left : c.args.i < length lefts = omega (arith, length-zip lefts rights, c.requires) in
    let right : c.args.i < length rights = omega (arith, length-zip lefts rights, c.requires) in
    pair_read lefts rights c.args.i c.get.result c.get-2.result left right c.get.ensures c.get-2.ensures
