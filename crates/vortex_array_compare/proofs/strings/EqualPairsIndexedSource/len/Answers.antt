use Rattle.std.proofs.Common.{◌∙◌, sym}
use Rattle.std.specs.Cmp.Lexicographic.{slice_cmp}
use Rattle.std.specs.Ordering.{is_eq, nat_cmp}
use Rattle.std.proofs.lemmas.Simd.{length-zip2}
use Rattle.vortex_array_compare.proofs.strings.EqualPairsIndexedSource.len.Goals as goal

pub returns : goal.returns
returns c = c.len.ensures ∙ sym (length-zip2 (λ x y. is_eq (slice_cmp nat_cmp x y)) c.args.self.now.left.now c.args.self.now.right.now c.args.self.now.same_length)
