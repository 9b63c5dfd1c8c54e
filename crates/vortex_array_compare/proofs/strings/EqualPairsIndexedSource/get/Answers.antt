use Rattle.std.proofs.Common.{arith, ◌<◌, length, []}
use Rattle.std.specs.Ordering.{is_eq, nat_cmp}
use Rattle.std.specs.Cmp.Lexicographic.{slice_cmp}
use Rattle.vortex_array_compare.proofs.Pairs.{pair-inside, pair-at}
use Rattle.vortex_array_compare.proofs.strings.EqualPairsIndexedSource.get.Goals as goal

pub equals-requires-clause-inside : goal.equals-requires-clause-inside
equals-requires-clause-inside c = pair-inside (λ x y. is_eq (slice_cmp nat_cmp x y)) c.args.self.now.left.now c.args.self.now.right.now c.args.i c.args.self.now.same_length c.requires

pub equals-requires-clause-others : goal.equals-requires-clause-others
equals-requires-clause-others c =
    let inside : c.args.i < length c.args.self.now.left.now = pair-inside (λ x y. is_eq (slice_cmp nat_cmp x y)) c.args.self.now.left.now c.args.self.now.right.now c.args.i c.args.self.now.same_length c.requires in
    omega (arith, inside, c.args.self.now.same_length)

pub returns : goal.returns
returns c =
    pair-at (λ x y. is_eq (slice_cmp nat_cmp x y)) c.args.self.now.left.now c.args.self.now.right.now c.args.i [] [] c.equals.result c.equals.result c.args.self.now.same_length c.requires c.equals.ensures
