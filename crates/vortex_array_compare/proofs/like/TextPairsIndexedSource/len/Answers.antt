use Rattle.std.proofs.Common.{◌∙◌, sym}
use Rattle.std.proofs.lemmas.Simd.{length-zip2}
use Rattle.vortex_array_types.specs.Matches.{matches}
use Rattle.vortex_array_compare.proofs.like.TextPairsIndexedSource.len.Goals as goal

pub returns : goal.returns
returns c = c.len.ensures ∙ sym (length-zip2 (λ text pattern. matches pattern text) c.args.self.now.texts.now c.args.self.now.patterns.now c.args.self.now.same_length)
