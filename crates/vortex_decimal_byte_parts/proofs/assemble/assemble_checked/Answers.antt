use Rattle.vortex_decimal_byte_parts.specs.Checked.{first_of_lower}
use Rattle.vortex_decimal_byte_parts.proofs.MadeParts.{checked-parts, first-is}
use Rattle.vortex_decimal_byte_parts.proofs.PartColumns.{lower-typed, parts_of}
use Rattle.vortex_decimal_byte_parts.proofs.assemble.assemble_checked.Goals as goal

pub assemble_wide-made-requires-clause-lower : goal.assemble_wide-made-requires-clause-lower
assemble_wide-made-requires-clause-lower c =
    let m = c.args.msp.now in
    let ls = c.args.lower_parts.now in
    lower-typed (parts_of m (first_of_lower ls) c.args.decimal_dtype) c.lower-item.result (checked-parts m ls c.args.decimal_dtype c.requires) (first-is ls c.lower-item.result c.in-len1-up.len_at_least c.lower-item.is)
