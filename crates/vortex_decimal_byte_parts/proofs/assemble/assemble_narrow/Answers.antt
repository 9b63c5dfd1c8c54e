use Rattle.std.proofs.Common.{◌≡◌, ◌∙◌, ap, length, sym}
use Rattle.vortex_array_types.specs.declared.scalar.Value.TheVariants.{Int}
use Rattle.vortex_array_kinds.specs.Kinds.{unscaled_of}
use Rattle.vortex_array.specs.ColumnOf.{column_of}
use Rattle.vortex_decimal_byte_parts.specs.Held.{part_numbers}
use Rattle.vortex_decimal_byte_parts.proofs.HeldRows.{length-held}
use Rattle.vortex_decimal_byte_parts.proofs.MadeColumns.{one-assembled}
use Rattle.vortex_decimal_byte_parts.proofs.assemble.assemble_narrow.Goals as goal

pub decimal_of-requires-clause-same_length : goal.decimal_of-requires-clause-same_length
decimal_of-requires-clause-same_length c =
    let m = c.args.msp.now in
    ap length c.in_ok-numbers.ensures.numbers ∙ sym (length-held (λ n. Int n) (column_of m).rows (part_numbers m) c.rows_hold.ensures.rows)

pub returns-clause-ok : goal.returns-clause-ok
returns-clause-ok c =
    let m = c.args.msp.now in
    let b = c.in_ok-numbers.numbers in
    let long : length (unscaled_of b) ≡ length (column_of m).rows = ap length c.in_ok-numbers.ensures.numbers ∙ sym (length-held (λ n. Int n) (column_of m).rows (part_numbers m) c.rows_hold.ensures.rows) in
    one-assembled c.in_ok-decimal.decimal b c.args.digits (column_of m) (part_numbers m) c.rows_hold.ensures.rows c.in_ok-decimal.ensures.numbers c.in_ok-decimal.ensures.nulls c.in_ok-numbers.ensures.numbers long c.in_ok-decimal.ensures.present
