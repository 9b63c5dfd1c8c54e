use Rattle.vortex_decimal_byte_parts.proofs.MadeParts.{checked-parts}
use Rattle.vortex_decimal_byte_parts.proofs.parts.DecimalByteParts.try_new_with_lower_parts.Goals as goal

pub invariant_of-result : goal.invariant_of-result
invariant_of-result c =
    rw c.only_one.ensures (checked-parts c.args.msp c.args.lower_parts.items c.args.decimal_dtype (rw c.as_slice.ensures.value at c.in-Ok.ensures.ok))
