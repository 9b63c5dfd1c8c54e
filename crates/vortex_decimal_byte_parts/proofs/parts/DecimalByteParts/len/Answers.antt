use Rattle.std.proofs.Common.{◌∙◌, sym}
use Rattle.vortex_decimal_byte_parts.proofs.PartColumns.{length-parts, parts_of}
use Rattle.vortex_decimal_byte_parts.proofs.parts.DecimalByteParts.len.Goals as goal

pub returns-clause-rows : goal.returns-clause-rows
returns-clause-rows c =
    rw (← c.self.view_is) (c.len.ensures ∙ sym (length-parts (parts_of c.self.inside.msp c.self.inside.lower c.self.inside.decimal_dtype) c.self.invariant))
