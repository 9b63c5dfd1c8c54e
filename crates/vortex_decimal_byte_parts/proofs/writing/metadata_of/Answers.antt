use Rattle.vortex_decimal_byte_parts.proofs.PartColumns.{lower-typed}
use Rattle.vortex_decimal_byte_parts.proofs.writing.metadata_of.Goals as goal

pub v2_bytes-requires-clause-lower : goal.v2_bytes-requires-clause-lower
v2_bytes-requires-clause-lower c = lower-typed c.args.parts.now c.in-Some.lower.now c.in-Some.ensures.parts c.in-Some.ensures.part
