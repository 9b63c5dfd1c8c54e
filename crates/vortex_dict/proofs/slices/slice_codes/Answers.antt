use Rattle.std.proofs.Common.{length}
use Rattle.vortex_array.specs.ColumnOf.{column_of}
use Rattle.vortex_dict.proofs.Decodings.{sliced-codes, sliced-names}
use Rattle.vortex_dict.proofs.slices.slice_codes.Goals as goal

pub new-requires : goal.new-requires
new-requires c =
    let d = c.args.dict.now in
    rw (c.in_ok-codes.ensures.column, c.in_ok-values.ensures, c.values.ensures.value, c.codes.ensures.value)
    (sliced-names c.args.start c.args.end (length (column_of d.values).rows) (column_of d.codes) c.codes.ensures.fits)

pub returns : goal.returns
returns c =
    let d = c.args.dict.now in
    rw (c.new.ensures, c.in_ok-codes.ensures.column, c.in_ok-values.ensures, c.values.ensures.value, c.codes.ensures.value)
    (sliced-codes c.args.start c.args.end (column_of d.codes) (column_of d.values))
