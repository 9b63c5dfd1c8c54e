use Rattle.std.proofs.Common.{arith}
use Rattle.vortex_array_select.specs.Selected.{sliced}
use Rattle.vortex_decimal_byte_parts.proofs.MadeParts.{msp-long, one-done, other-long, two-done}
use Rattle.vortex_decimal_byte_parts.proofs.PartColumns.{sliced-one, sliced-two}
use Rattle.vortex_decimal_byte_parts.proofs.parts.DecimalByteParts.slice.Goals as goal

pub slice-requires-clause-within : goal.slice-requires-clause-within
slice-requires-clause-within c = omega (arith, c.requires.within, msp-long c.args.self.now c.msp.result.now c.msp.ensures.parts c.msp.ensures.part)

pub slice-requires-in-Some-clause-within : goal.slice-requires-in-Some-clause-within
slice-requires-in-Some-clause-within c = omega (arith, c.requires.within, other-long c.args.self.now c.in-Some.lower.now c.msp.ensures.parts c.in-Some.ensures.part)

pub returns-in-None : goal.returns-in-None
returns-in-None c =
    let start = c.args.range.start in
    let end = c.args.range.end in
    one-done (sliced start end) c.args.self.now c.new.result c.msp.result.now c.in_ok-high.high c.decimal_dtype-digits.result (sliced-one start end) c.decimal_dtype-digits.ensures c.msp.ensures.part c.in-None.ensures.part c.new.ensures c.in_ok-high.ensures.column

pub returns-in_ok-low-in-Some : goal.returns-in_ok-low-in-Some
returns-in_ok-low-in-Some c =
    let start = c.args.range.start in
    let end = c.args.range.end in
    two-done (sliced start end) c.args.self.now c.new-in-Some.result c.msp.result.now c.in_ok-high.high c.in-Some.lower.now c.in_ok-low-in-Some.low c.decimal_dtype-digits.result (sliced-two start end) c.decimal_dtype-digits.ensures c.msp.ensures.part c.in-Some.ensures.part c.new-in-Some.ensures c.in_ok-high.ensures.column c.in_ok-low-in-Some.ensures.column
