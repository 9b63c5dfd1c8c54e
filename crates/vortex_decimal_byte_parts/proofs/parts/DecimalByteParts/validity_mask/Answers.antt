use Rattle.std.proofs.Common.{sym}
use Rattle.vortex_decimal_byte_parts.proofs.PartColumns.{lower-typed, parts_of}
use Rattle.vortex_decimal_byte_parts.proofs.parts.DecimalByteParts.validity_mask.Goals as goal

pub wide_mask-requires-clause-lower : goal.wide_mask-requires-clause-lower
wide_mask-requires-clause-lower c =
    lower-typed (parts_of c.self.inside.msp c.self.inside.lower c.self.inside.decimal_dtype) c.in-Some.lower c.self.invariant (sym c.in-Some.is)
