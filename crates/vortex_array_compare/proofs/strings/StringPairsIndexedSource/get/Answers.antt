use Rattle.std.proofs.Common.{arith, ◌<◌, length, []}
use Rattle.std.specs.Ordering.{nat_cmp}
use Rattle.std.specs.Cmp.Lexicographic.{slice_cmp}
use Rattle.vortex_array_compare.proofs.Pairs.{pair-inside, pair-at}
use Rattle.vortex_array_compare.proofs.strings.StringPairsIndexedSource.get.Goals as goal

pub compare-requires-clause-inside : goal.compare-requires-clause-inside
compare-requires-clause-inside c = pair-inside (slice_cmp nat_cmp) c.args.self.now.left.now c.args.self.now.right.now c.args.i c.args.self.now.same_length c.requires

pub compare-requires-clause-others : goal.compare-requires-clause-others
compare-requires-clause-others c =
    let inside : c.args.i < length c.args.self.now.left.now = pair-inside (slice_cmp nat_cmp) c.args.self.now.left.now c.args.self.now.right.now c.args.i c.args.self.now.same_length c.requires in
    omega (arith, inside, c.args.self.now.same_length)

pub returns : goal.returns
returns c =
    pair-at (slice_cmp nat_cmp) c.args.self.now.left.now c.args.self.now.right.now c.args.i [] [] c.compare.result c.compare.result c.args.self.now.same_length c.requires c.compare.ensures
