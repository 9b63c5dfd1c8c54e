use Rattle.std.proofs.Common.{◌∙◌, ap, rules}
use Rattle.std.specs.Simd.Lanes.{zip2}
use Rattle.vortex_array_types.specs.Row.{nullability}
use Rattle.vortex_array_kinds.specs.Truths.{either, truths}
use Rattle.vortex_array.specs.ColumnOf.{column_of}
use Rattle.vortex_decimal_byte_parts.specs.Columns.{two_rows}
use Rattle.vortex_decimal_byte_parts.specs.Held.{IsIntervalOf, number_compares}
use Rattle.vortex_decimal_byte_parts.proofs.Answered.{asked-two}
use Rattle.vortex_decimal_byte_parts.proofs.AskedRows.{interval-asked}
use Rattle.vortex_decimal_byte_parts.proofs.PartColumns.{lower-typed}
use Rattle.vortex_decimal_byte_parts.proofs.parts.DecimalByteParts.compare_number.Goals as goal

pub ask_pairs-requires-clause-lower : goal.ask_pairs-requires-clause-lower
ask_pairs-requires-clause-lower c = lower-typed c.args.self.now c.in-Some.lower.now c.lower_part.ensures.parts c.in-Some.ensures.part

pub returns-in_ok-answers-in-Some : goal.returns-in_ok-answers-in-Some
returns-in_ok-answers-in-Some c =
    let m = c.msp-in-Some.result.now in
    let l = c.in-Some.lower.now in
    let test = number_compares c.args.operator c.args.number in
    let interval : IsIntervalOf (number_compares c.args.operator c.args.number) c.of_operator-interval.result = search rules in
    c.in_ok-answers-in-Some.ensures.ok
    ∙ ap (truths (either (nullability (column_of m).dtype) c.args.nullability)) (interval-asked test c.of_operator-interval.result interval (zip2 two_rows (column_of m).rows (column_of l).rows) c.in_ok-answers-in-Some.ensures.wide)
    ∙ asked-two c.args.self.now m l c.args.nullability test c.msp-in-Some.ensures.part c.in-Some.ensures.part
