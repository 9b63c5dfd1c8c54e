use Rattle.vortex_decimal_byte_parts.proofs.PartColumns.{lower-typed}
use Rattle.vortex_decimal_byte_parts.proofs.cast.cast_to.Goals as goal

pub cast_wide-requires-clause-lower : goal.cast_wide-requires-clause-lower
cast_wide-requires-clause-lower c = lower-typed c.args.parts.now c.in-Some.lower.now c.lower_part.ensures.parts c.in-Some.ensures.part
