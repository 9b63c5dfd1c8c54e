use Rattle.vortex_array.specs.ColumnOf.{column_of}
use Rattle.vortex_decimal_byte_parts.specs.Held.{part_numbers}
use Rattle.vortex_decimal_byte_parts.proofs.EqualRows.{ones-constant, ones-constant-back}
use Rattle.vortex_decimal_byte_parts.proofs.parts.narrow_is_constant.Goals as goal

pub returns : goal.returns
returns c =
    let rows = (column_of c.args.msp.now).rows in
    let numbers = part_numbers c.args.msp.now in (
      λ t. ones-constant rows numbers c.rows_hold.ensures.rows (c.is_constant.ensures.0 t),
      λ k. c.is_constant.ensures.1 (ones-constant-back rows numbers c.rows_hold.ensures.rows k),
    )
