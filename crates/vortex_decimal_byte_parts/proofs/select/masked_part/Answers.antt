use Rattle.std.proofs.Common.{◌∙◌, ap, length, subst, sym}
use Rattle.std.specs.Prelude.{IsTrue}
use Rattle.vortex_buffer.specs.Mask.{mask_bits}
use Rattle.vortex_array_types.specs.declared.scalar.Value.TheVariants.{Int}
use Rattle.vortex_array_kinds.specs.Kinds.{primitive_column}
use Rattle.vortex_array_kinds.specs.Validities.{is_as_long}
use Rattle.vortex_array.specs.ColumnOf.{column_of}
use Rattle.vortex_decimal_byte_parts.specs.Held.{part_numbers}
use Rattle.vortex_decimal_byte_parts.proofs.HeldRows.{length-held}
use Rattle.vortex_decimal_byte_parts.proofs.MadeColumns.{masked-made}
use Rattle.vortex_decimal_byte_parts.proofs.select.masked_part.Goals as goal

pub new-requires : goal.new-requires
new-requires c =
    let part = c.args.part.now in
    subst (λ n. IsTrue (is_as_long c.in_ok-validity.validity n))
    (c.len.ensures ∙ length-held (λ n. Int n) (column_of part).rows (part_numbers part) c.rows_hold.ensures.rows ∙ sym (ap length c.in_ok-values.ensures.numbers))
    c.in_ok-validity.ensures.long

pub returns : goal.returns
returns c =
    let part = c.args.part.now in
    ap primitive_column c.new.ensures
    ∙ masked-made c.in_ok-values.values c.in_ok-validity.validity c.in_ok-own.own c.in_ok-kept.kept (column_of part) (part_numbers part) (mask_bits c.args.keep.now) c.rows_hold.ensures.rows c.in_ok-values.ensures.numbers c.in_ok-values.ensures.width c.requires.same_length
    (rw c.len.ensures at c.in_ok-validity.ensures) c.in_ok-own.ensures.present c.in_ok-kept.ensures.present c.in_ok-kept.ensures.nulls
