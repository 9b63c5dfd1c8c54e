use Rattle.std.proofs.Common.{◌∙◌, ap, map, rules}
use Rattle.std.specs.Simd.Lanes.{zip2}
use Rattle.vortex_array_types.specs.Row.{nullability}
use Rattle.vortex_array_kinds.specs.Truths.{either, truths}
use Rattle.vortex_array.specs.ColumnOf.{column_of}
use Rattle.vortex_decimal_byte_parts.specs.Columns.{one_row, two_rows}
use Rattle.vortex_decimal_byte_parts.specs.Held.{IsIntervalOf, number_between}
use Rattle.vortex_decimal_byte_parts.proofs.Answered.{asked-one, asked-two}
use Rattle.vortex_decimal_byte_parts.proofs.AskedRows.{interval-asked}
use Rattle.vortex_decimal_byte_parts.proofs.PartColumns.{lower-typed}
use Rattle.vortex_decimal_byte_parts.proofs.parts.DecimalByteParts.between_numbers.Goals as goal

pub ask_pairs-requires-clause-lower : goal.ask_pairs-requires-clause-lower
ask_pairs-requires-clause-lower c = lower-typed c.args.self.now c.in-Some.lower_part.now c.lower_part.ensures.parts c.in-Some.ensures.part

pub returns-in_ok-answers-in-None : goal.returns-in_ok-answers-in-None
returns-in_ok-answers-in-None c =
    let m = c.msp.result.now in
    let test = number_between c.args.options.now c.args.lower c.args.upper in
    let interval : IsIntervalOf (number_between c.args.options.now c.args.lower c.args.upper) c.of_bounds-interval.result = search rules in
    c.in_ok-answers-in-None.ensures.ok
    ∙ ap (truths (either (nullability (column_of m).dtype) c.args.nullability)) (interval-asked test c.of_bounds-interval.result interval (map one_row (column_of m).rows) c.in_ok-answers-in-None.ensures.wide)
    ∙ asked-one c.args.self.now m c.args.nullability test c.msp.ensures.part c.in-None.ensures.part

pub returns-in_ok-answers-in-Some : goal.returns-in_ok-answers-in-Some
returns-in_ok-answers-in-Some c =
    let m = c.msp-in-Some.result.now in
    let l = c.in-Some.lower_part.now in
    let test = number_between c.args.options.now c.args.lower c.args.upper in
    let interval : IsIntervalOf (number_between c.args.options.now c.args.lower c.args.upper) c.of_bounds-interval.result = search rules in
    c.in_ok-answers-in-Some.ensures.ok
    ∙ ap (truths (either (nullability (column_of m).dtype) c.args.nullability)) (interval-asked test c.of_bounds-interval.result interval (zip2 two_rows (column_of m).rows (column_of l).rows) c.in_ok-answers-in-Some.ensures.wide)
    ∙ asked-two c.args.self.now m l c.args.nullability test c.msp-in-Some.ensures.part c.in-Some.ensures.part
