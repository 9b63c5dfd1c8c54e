use Rattle.std.proofs.Common.{◌≡◌, ◌∙◌, rules, sym}
use Rattle.vortex_array_compare.proofs.OrderAnswers.{answers-map}
use Rattle.vortex_decimal_byte_parts.specs.Held.{within}
use Rattle.vortex_decimal_byte_parts.proofs.WidthIntervals.{map-twice}
use Rattle.vortex_decimal_byte_parts.proofs.bounded.items_between.Goals as goal

pub returns : goal.returns
returns g c =
    let number = g.T.NativeValue.number in
    let items = c.args.items.now in
    answers-map _ (λ x. within (number c.args.least) (number c.args.greatest) (number x)) items c.in_ok-bits.bits (λ x b p. let here : b ≡ within (number c.args.least) (number c.args.greatest) (number x) = search rules in here) c.in_ok-bits.ensures.ok
    ∙ sym (map-twice (within (number c.args.least) (number c.args.greatest)) number items)
