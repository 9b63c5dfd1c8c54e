use Rattle.std.proofs.Common.{◌∙◌, sym}
use Rattle.std.proofs.lemmas.Simd.{length-zip2}
use Rattle.vortex_decimal_byte_parts.specs.Held.{wide}
use Rattle.vortex_decimal_byte_parts.proofs.pairs.PairsIndexedSource.len.Goals as goal

pub returns : goal.returns
returns g c =
    let s = c.args.self.now in
    c.count.ensures ∙ sym (length-zip2 wide (g.A.PartNumbers.numbers s.msp) (g.B.PartNumbers.numbers s.lower) s.same_length)
