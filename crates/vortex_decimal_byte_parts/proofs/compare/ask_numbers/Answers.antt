use Rattle.std.proofs.Common.{◌∙◌, ap}
use Rattle.vortex_array_types.specs.Row.{nullability}
use Rattle.vortex_array_kinds.specs.Truths.{either, truths}
use Rattle.vortex_array.specs.ColumnOf.{column_of}
use Rattle.vortex_decimal_byte_parts.specs.Held.{lies_in, part_numbers}
use Rattle.vortex_decimal_byte_parts.proofs.Answered.{one-answers, one-long, one-wide}
use Rattle.vortex_decimal_byte_parts.proofs.compare.ask_numbers.Goals as goal

pub returns-in_err-bits-clause-wide : goal.returns-in_err-bits-clause-wide
returns-in_err-bits-clause-wide c = let m = c.args.msp.now in one-wide (column_of m).dtype (column_of m).rows (part_numbers m) c.requires.msp c.rows_hold.ensures.rows c.numbers_fit.ensures

pub answers_beside-requires-clause-same_length : goal.answers_beside-requires-clause-same_length
answers_beside-requires-clause-same_length c = let m = c.args.msp.now in one-long (lies_in c.args.interval) c.in_ok-bits.bits (column_of m).rows (part_numbers m) c.rows_hold.ensures.rows c.in_ok-bits.ensures

pub returns-in_err-answers-clause-wide : goal.returns-in_err-answers-clause-wide
returns-in_err-answers-clause-wide c = let m = c.args.msp.now in one-wide (column_of m).dtype (column_of m).rows (part_numbers m) c.requires.msp c.rows_hold.ensures.rows c.numbers_fit.ensures

pub returns-clause-ok : goal.returns-clause-ok
returns-clause-ok c =
    let m = c.args.msp.now in
    c.in_ok-answers.ensures
    ∙ ap (truths (either (nullability (column_of m).dtype) c.args.nullability)) (one-answers (lies_in c.args.interval) c.in_ok-bits.bits (column_of m).rows (part_numbers m) c.rows_hold.ensures.rows c.in_ok-bits.ensures)

pub returns-clause-wide : goal.returns-clause-wide
returns-clause-wide c = let m = c.args.msp.now in one-wide (column_of m).dtype (column_of m).rows (part_numbers m) c.requires.msp c.rows_hold.ensures.rows c.numbers_fit.ensures
