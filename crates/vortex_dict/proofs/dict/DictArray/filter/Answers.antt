use Rattle.std.proofs.Common.{length}
use Rattle.vortex_buffer.specs.Mask.{mask_bits}
use Rattle.vortex_array.specs.ColumnOf.{column_of}
use Rattle.vortex_dict.proofs.Decodings.{kept-codes, kept-names}
use Rattle.vortex_dict.proofs.dict.DictArray.filter.Goals as goal

pub new-requires : goal.new-requires
new-requires c =
    let d = c.args.self.now in
    rw (c.in_ok-codes.ensures.column, c.in_ok-values.ensures, c.values.ensures.value, c.codes.ensures.value)
    (kept-names (mask_bits c.args.mask.now) (length (column_of d.values).rows) (column_of d.codes) c.codes.ensures.fits)

pub returns-clause-column : goal.returns-clause-column
returns-clause-column c =
    let d = c.args.self.now in
    rw (c.new.ensures, c.in_ok-codes.ensures.column, c.in_ok-values.ensures, c.values.ensures.value, c.codes.ensures.value)
    (kept-codes (mask_bits c.args.mask.now) (column_of d.codes) (column_of d.values))
