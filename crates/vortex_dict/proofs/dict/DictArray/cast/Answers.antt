use Rattle.std.proofs.Common.{length}
use Rattle.vortex_array.specs.ColumnOf.{column_of}
use Rattle.vortex_dict.proofs.CastColumns.{cast-decoded, cast-names}
use Rattle.vortex_dict.proofs.dict.DictArray.cast.Goals as goal

pub new-requires : goal.new-requires
new-requires c =
    let d = c.args.self.now in
    rw (c.in_ok-codes.ensures.ok, c.in_ok-values.ensures.ok, c.values.ensures.value, c.codes.ensures.value)
    (cast-names c.args.dtype.now (column_of d.codes) (length (column_of d.values).rows) c.codes.ensures.fits)

pub returns-clause-ok : goal.returns-clause-ok
returns-clause-ok c =
    let d = c.args.self.now in
    rw (c.new.ensures, c.in_ok-codes.ensures.ok, c.in_ok-values.ensures.ok, c.values.ensures.value, c.codes.ensures.value)
    (cast-decoded c.args.dtype.now (column_of d.codes) (column_of d.values))
