use Rattle.std.proofs.lemmas.Result.{err_from_is_err_and}
use Rattle.vortex_array.specs.ColumnOf.{column_of}
use Rattle.vortex_decimal_byte_parts.specs.Held.{part_numbers}
use Rattle.vortex_decimal_byte_parts.proofs.CastParts.{one-fits, one-refused}
use Rattle.vortex_decimal_byte_parts.proofs.cast.cast_narrow.Goals as goal

pub returns-in_err-msp-clause-err : goal.returns-in_err-msp-clause-err
returns-in_err-msp-clause-err c =
    let exit = err_from_is_err_and c.from_residual.result c.from_residual.ensures.1 in
    rw (exit.1, exit.2) (one-refused c.args.digits c.args.nullability (column_of c.args.msp.now) (part_numbers c.args.msp.now) _ c.rows_hold.ensures.rows c.in_err-msp.ensures.err)

pub returns-clause-fits : goal.returns-clause-fits
returns-clause-fits c = one-fits c.args.digits c.args.nullability (column_of c.args.msp.now) (part_numbers c.args.msp.now) c.rows_hold.ensures.rows c.in_ok-msp.ensures.fits
