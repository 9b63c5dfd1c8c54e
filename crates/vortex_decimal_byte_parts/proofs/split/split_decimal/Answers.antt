use Rattle.std.proofs.Common.{◌∙◌, ap, not, sym}
use Rattle.std.specs.List.{list_all}
use Rattle.vortex_array_kinds.specs.Kinds.{decimal_column}
use Rattle.vortex_decimal_byte_parts.proofs.SplitRows.{none-set, some-set}
use Rattle.vortex_decimal_byte_parts.proofs.split.split_decimal.Goals as goal

pub split_empty-requires : goal.split_empty-requires
split_empty-requires c =
    let rows = (decimal_column c.args.decimal.now).rows in
    record { none = none-set rows (ap (list_all not) (sym c.in_ok-mask.ensures) ∙ sym c.all_false.ensures ∙ c.if-all_false.true) }

pub split_some-requires-clause-some : goal.split_some-requires-clause-some
split_some-requires-clause-some c =
    let rows = (decimal_column c.args.decimal.now).rows in
    some-set rows (ap (list_all not) (sym c.in_ok-mask.ensures) ∙ sym c.all_false.ensures ∙ c.if-all_false.false)
