use Rattle.std.proofs.Common.{arith, rules, ◌<◌, ◌∙◌, ap, length, get_or, FitsSigned}
use Rattle.std.specs.Prelude.{pos, ◌*ℤ◌}
use Rattle.std.specs.Int.{w128}
use Rattle.std.proofs.lemmas.Int.{to_z-of_z}
use Rattle.vortex_array_compare.proofs.Pairs.{pair-inside, pair-at}
use Rattle.vortex_decimal_byte_parts.specs.Held.{wide}
use Rattle.vortex_decimal_byte_parts.proofs.WideNumbers.{both-fit, high-fits}
use Rattle.vortex_decimal_byte_parts.proofs.pairs.PairsIndexedSource.get.Goals as goal

pub number-requires : goal.number-requires
number-requires g c = let s = c.args.self.now in pair-inside wide (g.A.PartNumbers.numbers s.msp) (g.B.PartNumbers.numbers s.lower) c.args.i s.same_length c.requires

pub number-requires-2 : goal.number-requires-2
number-requires-2 g c =
    let s = c.args.self.now in
    let inside : c.args.i < length (g.A.PartNumbers.numbers s.msp) = pair-inside wide (g.A.PartNumbers.numbers s.msp) (g.B.PartNumbers.numbers s.lower) c.args.i s.same_length c.requires in
    omega (arith, inside, s.same_length)

pub returns : goal.returns
returns g c =
    let s = c.args.self.now in
    let xs = g.A.PartNumbers.numbers s.msp in
    let ys = g.B.PartNumbers.numbers s.lower in
    let m = c.number.result in
    let n = c.number-2.result in
    let m-fits : FitsSigned w128 m = search rules in
    let n-fits : FitsSigned w128 n = search rules in
    let high : FitsSigned w128 (m *ℤ pos (18446744073709551616)) = high-fits g.A.PartNumbers.its_width m s.signed c.number.ensures.within in
    let both : FitsSigned w128 (wide m n) = both-fit g.A.PartNumbers.its_width g.B.PartNumbers.its_width m n s.signed s.unsigned c.number.ensures.within c.number-2.ensures.within in
    rw (to_z-of_z w128 m m-fits, to_z-of_z w128 n n-fits, to_z-of_z w128 (m *ℤ pos (18446744073709551616)) high, to_z-of_z w128 (wide m n) both)
    (pair-at wide xs ys c.args.i (pos 0) (pos 0) (wide m n) (wide m n) s.same_length c.requires
    (ap (λ x. wide x n) c.number.ensures.value ∙ ap (wide (get_or xs c.args.i (pos 0))) c.number-2.ensures.value))
