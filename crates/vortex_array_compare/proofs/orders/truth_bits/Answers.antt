use Rattle.std.proofs.Common.{rules, ◌∙◌, ◌≡◌}
use Rattle.std.proofs.lemmas.List.{map-id}
use Rattle.vortex_array_compare.proofs.OrderAnswers.{answers-map}
use Rattle.vortex_array_compare.proofs.orders.truth_bits.Goals as goal

pub returns : goal.returns
returns g c = answers-map _ (λ x. x) (g.S.IndexedSource.lanes c.args.truths.now) c.in_ok-bits.bits (λ x b p. let here : b ≡ x = search rules in here) c.in_ok-bits.ensures.ok ∙ map-id (g.S.IndexedSource.lanes c.args.truths.now)
