use Rattle.std.proofs.Common.{◌∙◌, Some, ap}
use Rattle.vortex_decimal_byte_parts.proofs.MadeParts.{never-type}
use Rattle.vortex_decimal_byte_parts.proofs.assemble.assemble_decimal.Goals as goal

pub unreachable-requires : goal.unreachable-requires
unreachable-requires c = never-type c.args.msp.now c.args.lower_parts.now (c.in-Err-WrongDecimalType.ensures.err ∙ ap (λ e. Some e) c.in-Err-WrongDecimalType.field-0-is)
