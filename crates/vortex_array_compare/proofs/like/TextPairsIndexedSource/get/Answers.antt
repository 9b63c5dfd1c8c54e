use Rattle.std.proofs.Common.{arith, ◌<◌, ◌∙◌, ap, length, get_or, []}
use Rattle.vortex_array_types.specs.Matches.{matches}
use Rattle.vortex_array_compare.proofs.Pairs.{pair-inside, pair-at}
use Rattle.vortex_array_compare.proofs.like.TextPairsIndexedSource.get.Goals as goal

pub text_at-requires-clause-inside : goal.text_at-requires-clause-inside
text_at-requires-clause-inside c = pair-inside (λ text pattern. matches pattern text) c.args.self.now.texts.now c.args.self.now.patterns.now c.args.i c.args.self.now.same_length c.requires

pub text_at-requires-2-clause-inside : goal.text_at-requires-2-clause-inside
text_at-requires-2-clause-inside c =
    let inside : c.args.i < length c.args.self.now.texts.now = pair-inside (λ text pattern. matches pattern text) c.args.self.now.texts.now c.args.self.now.patterns.now c.args.i c.args.self.now.same_length c.requires in
    omega (arith, inside, c.args.self.now.same_length)

pub returns : goal.returns
returns c =
    pair-at (λ text pattern. matches pattern text) c.args.self.now.texts.now c.args.self.now.patterns.now c.args.i [] [] c.text_matches.result c.text_matches.result c.args.self.now.same_length c.requires
    (c.text_matches.ensures ∙ ap (λ t. matches c.text_at-2.result.now t) c.text_at.ensures ∙ ap (λ p. matches p (get_or c.args.self.now.texts.now c.args.i [])) c.text_at-2.ensures)
