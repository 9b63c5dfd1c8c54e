use Rattle.std.proofs.Common.{◌∙◌, sym}
use Rattle.vortex_array.specs.ColumnOf.{column_of}
use Rattle.vortex_decimal_byte_parts.specs.Held.{part_numbers}
use Rattle.vortex_decimal_byte_parts.proofs.TwoParts.{two-held, two-present}
use Rattle.vortex_decimal_byte_parts.proofs.parts.wide_mask.Goals as goal

pub returns : goal.returns
returns c =
    let m = c.args.msp.now in
    let l = c.args.lower.now in
    let rows = (column_of m).rows in
    let others = (column_of l).rows in
    c.in_ok-mask.ensures
    ∙ sym
    (two-present rows others (part_numbers m) (part_numbers l)
    (two-held (column_of l).dtype rows others (part_numbers m) (part_numbers l) c.requires.lower c.requires.same_length c.rows_hold.ensures.rows c.rows_hold-2.ensures.full c.numbers_fit.ensures))
