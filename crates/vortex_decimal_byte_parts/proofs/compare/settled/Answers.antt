use Rattle.std.proofs.Common.{◌≡◌, ◌∙◌, ap, length, replicate, rules}
use Rattle.std.specs.Prelude.{pos}
use Rattle.vortex_array_types.specs.Row.{nullability}
use Rattle.vortex_array_kinds.specs.Truths.{either, truths}
use Rattle.vortex_array.specs.ColumnOf.{column_of}
use Rattle.vortex_decimal_byte_parts.specs.Held.{IsIntervalOf, lies_in, number_compares, part_numbers}
use Rattle.vortex_decimal_byte_parts.proofs.Answered.{one-answers, settled-answers}
use Rattle.vortex_decimal_byte_parts.proofs.compare.settled.Goals as goal

pub returns : goal.returns
returns c =
    let m = c.args.msp.now in
    let test = number_compares c.args.operator c.args.number in
    let interval : IsIntervalOf (number_compares c.args.operator c.args.number) c.of_operator.result = search rules in
    let bit : c.is_in.result ≡ lies_in c.of_operator.result (pos 0) = search rules in
    let bits : c.in_ok-bits.bits ≡ replicate (length (column_of m).rows) (lies_in c.of_operator.result (pos 0)) = c.in_ok-bits.ensures ∙ ap (λ n. replicate n c.is_in.result) c.len.ensures ∙ ap (replicate (length (column_of m).rows)) bit in
    c.in_ok-answers.ensures
    ∙ ap (truths (either (nullability (column_of m).dtype) c.args.nullability))
    (one-answers test c.in_ok-bits.bits (column_of m).rows (part_numbers m) c.rows_hold.ensures.rows
    (settled-answers (column_of m).dtype c.args.operator c.args.number c.of_operator.result c.in_ok-bits.bits (column_of m).rows (part_numbers m) c.requires.msp c.requires.outside c.rows_hold.ensures.rows c.numbers_fit.ensures interval bits))
