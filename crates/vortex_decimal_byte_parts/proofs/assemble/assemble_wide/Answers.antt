use Rattle.std.proofs.Common.{◌≡◌, ◌∙◌, ap, length, map}
use Rattle.std.specs.Simd.Lanes.{zip2}
use Rattle.std.proofs.lemmas.List.{map-id}
use Rattle.vortex_array.specs.ColumnOf.{column_of}
use Rattle.vortex_array_kinds.specs.declared.decimals.DecimalBuffer.TheVariants as unscaled
use Rattle.vortex_decimal_byte_parts.specs.Held.{part_numbers, wide}
use Rattle.vortex_decimal_byte_parts.proofs.MadeColumns.{two-assembled}
use Rattle.vortex_decimal_byte_parts.proofs.TwoParts.{TwoHeld, long-wide, many-both, two-held}
use Rattle.vortex_decimal_byte_parts.proofs.assemble.assemble_wide.Goals as goal

pub wide_numbers-requires-clause-same_length : goal.wide_numbers-requires-clause-same_length
wide_numbers-requires-clause-same_length c =
    let m = c.args.msp.now in
    let l = c.args.lower.now in
    let held : TwoHeld (column_of m).rows (column_of l).rows (part_numbers m) (part_numbers l) =
    two-held (column_of l).dtype (column_of m).rows (column_of l).rows (part_numbers m) (part_numbers l) c.requires.lower c.requires.same_length c.rows_hold.ensures.rows c.rows_hold-2.ensures.full c.numbers_fit.ensures in
    many-both (column_of m).rows (column_of l).rows (part_numbers m) (part_numbers l) held

pub decimal_of-requires-clause-same_length : goal.decimal_of-requires-clause-same_length
decimal_of-requires-clause-same_length c =
    let m = c.args.msp.now in
    let l = c.args.lower.now in
    let held : TwoHeld (column_of m).rows (column_of l).rows (part_numbers m) (part_numbers l) =
    two-held (column_of l).dtype (column_of m).rows (column_of l).rows (part_numbers m) (part_numbers l) c.requires.lower c.requires.same_length c.rows_hold.ensures.rows c.rows_hold-2.ensures.full c.numbers_fit.ensures in
    ap length (map-id c.in_ok-numbers.numbers ∙ c.in_ok-numbers.ensures) ∙ long-wide (column_of m).rows (column_of l).rows (part_numbers m) (part_numbers l) held

pub returns-clause-ok : goal.returns-clause-ok
returns-clause-ok c =
    let m = c.args.msp.now in
    let l = c.args.lower.now in
    let held : TwoHeld (column_of m).rows (column_of l).rows (part_numbers m) (part_numbers l) =
    two-held (column_of l).dtype (column_of m).rows (column_of l).rows (part_numbers m) (part_numbers l) c.requires.lower c.requires.same_length c.rows_hold.ensures.rows c.rows_hold-2.ensures.full c.numbers_fit.ensures in
    let numbers : map (λ x. x) c.in_ok-numbers.numbers ≡ zip2 wide (part_numbers m) (part_numbers l) = map-id c.in_ok-numbers.numbers ∙ c.in_ok-numbers.ensures in
    two-assembled c.in_ok-decimal.decimal (unscaled.I128 c.in_ok-numbers.numbers) c.args.digits (column_of m) (column_of l).rows (part_numbers m) (part_numbers l) held c.in_ok-decimal.ensures.numbers c.in_ok-decimal.ensures.nulls numbers
    (ap length numbers ∙ long-wide (column_of m).rows (column_of l).rows (part_numbers m) (part_numbers l) held)
    c.in_ok-decimal.ensures.present
