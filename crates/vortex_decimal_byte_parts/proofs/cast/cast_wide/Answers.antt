use Rattle.std.proofs.lemmas.Result.{err_from_is_err_and}
use Rattle.vortex_array.specs.ColumnOf.{column_of}
use Rattle.vortex_decimal_byte_parts.specs.Held.{part_numbers}
use Rattle.vortex_decimal_byte_parts.proofs.CastParts.{two-cast, two-fits, two-refused}
use Rattle.vortex_decimal_byte_parts.proofs.TwoParts.{TwoHeld, two-held}
use Rattle.vortex_decimal_byte_parts.proofs.cast.cast_wide.Goals as goal

pub returns-in_err-msp-clause-err : goal.returns-in_err-msp-clause-err
returns-in_err-msp-clause-err c =
    let m = c.args.msp.now in
    let l = c.args.lower.now in
    let held : TwoHeld (column_of m).rows (column_of l).rows (part_numbers m) (part_numbers l) =
    two-held (column_of l).dtype (column_of m).rows (column_of l).rows (part_numbers m) (part_numbers l) c.requires.lower c.requires.same_length c.rows_hold.ensures.rows c.rows_hold-2.ensures.full c.numbers_fit.ensures in
    let exit = err_from_is_err_and c.from_residual.result c.from_residual.ensures.1 in
    rw (exit.1, exit.2) (two-refused c.args.digits c.args.nullability (column_of m) (column_of l).rows (part_numbers m) (part_numbers l) _ held c.in_err-msp.ensures.err)

pub new-requires : goal.new-requires
new-requires c =
    two-cast c.args.msp.now c.args.lower.now c.in_ok-msp.msp c.in-Ok.lower c.args.digits c.args.nullability c.requires.msp c.requires.lower c.requires.same_length c.in_ok-msp.ensures.ok c.in-Ok.ensures

pub returns-in-Ok-clause-fits : goal.returns-in-Ok-clause-fits
returns-in-Ok-clause-fits c =
    let m = c.args.msp.now in
    let l = c.args.lower.now in
    let held : TwoHeld (column_of m).rows (column_of l).rows (part_numbers m) (part_numbers l) =
    two-held (column_of l).dtype (column_of m).rows (column_of l).rows (part_numbers m) (part_numbers l) c.requires.lower c.requires.same_length c.rows_hold.ensures.rows c.rows_hold-2.ensures.full c.numbers_fit.ensures in
    two-fits c.args.digits c.args.nullability (column_of m) (column_of l).rows (part_numbers m) (part_numbers l) held c.in_ok-msp.ensures.fits

pub returns-in-Err-clause-err : goal.returns-in-Err-clause-err
returns-in-Err-clause-err c =
    let m = c.args.msp.now in
    let l = c.args.lower.now in
    let held : TwoHeld (column_of m).rows (column_of l).rows (part_numbers m) (part_numbers l) =
    two-held (column_of l).dtype (column_of m).rows (column_of l).rows (part_numbers m) (part_numbers l) c.requires.lower c.requires.same_length c.rows_hold.ensures.rows c.rows_hold-2.ensures.full c.numbers_fit.ensures in
    two-fits c.args.digits c.args.nullability (column_of m) (column_of l).rows (part_numbers m) (part_numbers l) held c.in_ok-msp.ensures.fits
