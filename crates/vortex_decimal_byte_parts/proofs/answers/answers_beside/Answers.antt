use Rattle.std.proofs.Common.{◌∙◌, ap, length, subst}
use Rattle.vortex_array_types.specs.Row.{nullability}
use Rattle.vortex_array_kinds.specs.Kinds.{bool_column}
use Rattle.vortex_array_kinds.specs.Truths.{BothValid}
use Rattle.vortex_array.specs.ColumnOf.{column_of}
use Rattle.vortex_decimal_byte_parts.proofs.MadeColumns.{answers-made}
use Rattle.vortex_decimal_byte_parts.proofs.answers.answers_beside.Goals as goal

pub returns : goal.returns
returns c =
    let part = column_of c.args.part.now in
    let v = c.in_ok-validity.validity in
    let own = c.in_ok-own.own in
    let asked = c.of_values.result in
    let valid : BothValid (length c.args.bits) own asked v = subst (λ n. BothValid n own asked v) c.len.ensures c.in_ok-validity.ensures in
    ap bool_column c.new.ensures
    ∙ answers-made c.args.bits v own asked part.rows (nullability part.dtype) c.args.nullability c.requires.same_length valid c.in_ok-own.ensures.present (c.of_values.ensures.present (length c.args.bits)) c.in_ok-own.ensures.nulls c.of_values.ensures.kind
