use Rattle.std.proofs.Common.{◌≡◌, rules}
use Rattle.std.specs.Simd.Lanes.{zip2}
use Rattle.vortex_array_compare.proofs.OrderAnswers.{answers-map}
use Rattle.vortex_decimal_byte_parts.specs.Held.{lies_in, wide}
use Rattle.vortex_decimal_byte_parts.proofs.bounded.bits_of_pairs.Goals as goal

pub returns : goal.returns
returns g c =
    answers-map _ (lies_in c.args.interval) (zip2 wide (g.A.PartNumbers.numbers c.args.msp) (g.B.PartNumbers.numbers c.args.lower)) c.in_ok-bits.bits (λ n b p. let here : b ≡ lies_in c.args.interval n = search rules in here) c.in_ok-bits.ensures.ok
