use Rattle.std.proofs.Common.{◌∙◌, ap}
use Rattle.vortex_array_types.specs.Row.{nullability}
use Rattle.vortex_array_kinds.specs.Truths.{either, truths}
use Rattle.vortex_array.specs.ColumnOf.{column_of}
use Rattle.vortex_decimal_byte_parts.specs.Held.{lies_in, part_numbers}
use Rattle.vortex_decimal_byte_parts.proofs.Answered.{two-answers, two-long, two-wide}
use Rattle.vortex_decimal_byte_parts.proofs.TwoParts.{TwoHeld, many-both, two-held}
use Rattle.vortex_decimal_byte_parts.proofs.compare.ask_pairs.Goals as goal

pub wide_bits-requires-clause-same_length : goal.wide_bits-requires-clause-same_length
wide_bits-requires-clause-same_length c =
    let m = c.args.msp.now in
    let l = c.args.lower.now in
    let held : TwoHeld (column_of m).rows (column_of l).rows (part_numbers m) (part_numbers l) =
    two-held (column_of l).dtype (column_of m).rows (column_of l).rows (part_numbers m) (part_numbers l) c.requires.lower c.requires.same_length c.rows_hold.ensures.rows c.rows_hold-2.ensures.full c.numbers_fit-2.ensures in
    many-both (column_of m).rows (column_of l).rows (part_numbers m) (part_numbers l) held

pub returns-in_err-bits-clause-wide : goal.returns-in_err-bits-clause-wide
returns-in_err-bits-clause-wide c =
    let m = c.args.msp.now in
    let l = c.args.lower.now in
    let held : TwoHeld (column_of m).rows (column_of l).rows (part_numbers m) (part_numbers l) =
    two-held (column_of l).dtype (column_of m).rows (column_of l).rows (part_numbers m) (part_numbers l) c.requires.lower c.requires.same_length c.rows_hold.ensures.rows c.rows_hold-2.ensures.full c.numbers_fit-2.ensures in
    two-wide (column_of m).dtype (column_of m).rows (column_of l).rows (part_numbers m) (part_numbers l) c.requires.msp held c.numbers_fit.ensures

pub answers_beside-requires-clause-same_length : goal.answers_beside-requires-clause-same_length
answers_beside-requires-clause-same_length c =
    let m = c.args.msp.now in
    let l = c.args.lower.now in
    let held : TwoHeld (column_of m).rows (column_of l).rows (part_numbers m) (part_numbers l) =
    two-held (column_of l).dtype (column_of m).rows (column_of l).rows (part_numbers m) (part_numbers l) c.requires.lower c.requires.same_length c.rows_hold.ensures.rows c.rows_hold-2.ensures.full c.numbers_fit-2.ensures in
    two-long (lies_in c.args.interval) c.in_ok-bits.bits (column_of m).rows (column_of l).rows (part_numbers m) (part_numbers l) held c.in_ok-bits.ensures

pub returns-in_err-answers-clause-wide : goal.returns-in_err-answers-clause-wide
returns-in_err-answers-clause-wide c =
    let m = c.args.msp.now in
    let l = c.args.lower.now in
    let held : TwoHeld (column_of m).rows (column_of l).rows (part_numbers m) (part_numbers l) =
    two-held (column_of l).dtype (column_of m).rows (column_of l).rows (part_numbers m) (part_numbers l) c.requires.lower c.requires.same_length c.rows_hold.ensures.rows c.rows_hold-2.ensures.full c.numbers_fit-2.ensures in
    two-wide (column_of m).dtype (column_of m).rows (column_of l).rows (part_numbers m) (part_numbers l) c.requires.msp held c.numbers_fit.ensures

pub returns-clause-ok : goal.returns-clause-ok
returns-clause-ok c =
    let m = c.args.msp.now in
    let l = c.args.lower.now in
    let held : TwoHeld (column_of m).rows (column_of l).rows (part_numbers m) (part_numbers l) =
    two-held (column_of l).dtype (column_of m).rows (column_of l).rows (part_numbers m) (part_numbers l) c.requires.lower c.requires.same_length c.rows_hold.ensures.rows c.rows_hold-2.ensures.full c.numbers_fit-2.ensures in
    c.in_ok-answers.ensures
    ∙ ap (truths (either (nullability (column_of m).dtype) c.args.nullability)) (two-answers (lies_in c.args.interval) c.in_ok-bits.bits (column_of m).rows (column_of l).rows (part_numbers m) (part_numbers l) held c.in_ok-bits.ensures)

pub returns-clause-wide : goal.returns-clause-wide
returns-clause-wide c =
    let m = c.args.msp.now in
    let l = c.args.lower.now in
    let held : TwoHeld (column_of m).rows (column_of l).rows (part_numbers m) (part_numbers l) =
    two-held (column_of l).dtype (column_of m).rows (column_of l).rows (part_numbers m) (part_numbers l) c.requires.lower c.requires.same_length c.rows_hold.ensures.rows c.rows_hold-2.ensures.full c.numbers_fit-2.ensures in
    two-wide (column_of m).dtype (column_of m).rows (column_of l).rows (part_numbers m) (part_numbers l) c.requires.msp held c.numbers_fit.ensures
