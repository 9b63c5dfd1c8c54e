use Rattle.std.proofs.Common.{◌∙◌, sym}
use Rattle.std.specs.Cmp.Lexicographic.{slice_cmp}
use Rattle.std.specs.Ordering.{nat_cmp}
use Rattle.std.proofs.lemmas.Simd.{length-zip2}
use Rattle.vortex_array_compare.proofs.strings.StringPairsIndexedSource.len.Goals as goal

pub returns : goal.returns
returns c = c.len.ensures ∙ sym (length-zip2 (slice_cmp nat_cmp) c.args.self.now.left.now c.args.self.now.right.now c.args.self.now.same_length)
