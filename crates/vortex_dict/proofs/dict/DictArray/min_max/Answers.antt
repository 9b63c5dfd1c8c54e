use Rattle.std.proofs.Common.{◌∙◌, length}
use Rattle.std.proofs.lemmas.Result.{IfOk-weaker}
use Rattle.vortex_buffer.specs.Mask.{mask_bits}
use Rattle.vortex_array.specs.ColumnOf.{column_of}
use Rattle.vortex_dict.specs.NamedValues.{AreNamed}
use Rattle.vortex_dict.proofs.NamedExtremes.{named-found}
use Rattle.vortex_dict.proofs.dict.DictArray.min_max.Goals as goal

pub named_values-requires : goal.named_values-requires
named_values-requires c = rw (c.len.ensures, c.values-values.ensures.value, c.codes.ensures.value) c.codes.ensures.fits

pub filter-requires : goal.filter-requires
filter-requires c = c.in_ok-named.ensures.long ∙ c.len.ensures

pub returns : goal.returns
returns c =
    let d = c.args.self.now in
    let set = mask_bits c.in_ok-named.named in
    let named : AreNamed (column_of d.codes).rows (length (column_of d.values).rows) set = rw (c.len.ensures, c.values-values.ensures.value, c.codes.ensures.value) at c.in_ok-named.ensures in
    IfOk-weaker c.min_max.result _ _
    (λ found h. named-found (column_of d.codes) (column_of d.values) set found named c.codes.ensures.fits (rw (c.in_ok-kept.ensures.column, c.values-values.ensures.value) at h))
    c.min_max.ensures
