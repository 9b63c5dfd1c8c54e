use Rattle.std.proofs.Common.{◌∙◌, sym}
use Rattle.vortex_array.specs.ColumnOf.{column_of}
use Rattle.vortex_decimal_byte_parts.specs.Held.{part_numbers}
use Rattle.vortex_decimal_byte_parts.proofs.HeldRows.{ones-present}
use Rattle.vortex_decimal_byte_parts.proofs.parts.narrow_mask.Goals as goal

pub returns : goal.returns
returns c = c.in_ok-mask.ensures ∙ sym (ones-present (column_of c.args.msp.now).rows (part_numbers c.args.msp.now) c.rows_hold.ensures.rows)
