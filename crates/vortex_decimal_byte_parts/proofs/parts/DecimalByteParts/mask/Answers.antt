use Rattle.std.proofs.Common.{◌∙◌}
use Rattle.vortex_buffer.specs.Mask.{mask_bits}
use Rattle.vortex_decimal_byte_parts.specs.Columns.{masked}
use Rattle.vortex_decimal_byte_parts.proofs.MadeParts.{masked-done, masked-parts, msp-long, one-done}
use Rattle.vortex_decimal_byte_parts.proofs.TakenParts.{masked-one}
use Rattle.vortex_decimal_byte_parts.proofs.parts.DecimalByteParts.mask.Goals as goal

pub masked_part-requires-clause-same_length : goal.masked_part-requires-clause-same_length
masked_part-requires-clause-same_length c = c.requires ∙ msp-long c.args.self.now c.msp.result.now c.msp.ensures.parts c.msp.ensures.part

pub new-requires-in-Some : goal.new-requires-in-Some
new-requires-in-Some c =
    masked-parts (mask_bits c.args.keep.now) c.args.self.now c.msp.result.now c.in_ok-high.high c.in-Some.lower.now c.in_ok-low-in-Some.low c.decimal_dtype-digits.result c.msp.ensures.parts c.msp.ensures.part c.in-Some.ensures.part
    (c.requires ∙ msp-long c.args.self.now c.msp.result.now c.msp.ensures.parts c.msp.ensures.part)
    c.in_ok-high.ensures c.in_ok-low-in-Some.ensures

pub returns-in-None : goal.returns-in-None
returns-in-None c =
    let bits = mask_bits c.args.keep.now in
    one-done (masked bits) c.args.self.now c.new.result c.msp.result.now c.in_ok-high.high c.decimal_dtype-digits.result (masked-one bits) c.decimal_dtype-digits.ensures c.msp.ensures.part c.in-None.ensures.part c.new.ensures c.in_ok-high.ensures

pub returns-in_ok-low-in-Some : goal.returns-in_ok-low-in-Some
returns-in_ok-low-in-Some c =
    masked-done (mask_bits c.args.keep.now) c.args.self.now c.new-in-Some.result c.msp.result.now c.in_ok-high.high c.in-Some.lower.now c.in_ok-low-in-Some.low c.decimal_dtype-digits.result c.decimal_dtype-digits.ensures c.msp.ensures.part c.in-Some.ensures.part c.new-in-Some.ensures c.in_ok-high.ensures c.in_ok-low-in-Some.ensures
