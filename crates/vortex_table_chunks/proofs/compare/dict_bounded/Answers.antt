use Rattle.std.proofs.Common.{◌∙◌, ◌≡◌, sym, ap, length}
use Rattle.vortex_array_types.specs.Row.{Column}
use Rattle.vortex_array_types.specs.Truth.{lower_operator, upper_operator}
use Rattle.vortex_array_kinds.specs.Truths.{compared, joined_strictly}
use Rattle.vortex_array.specs.ColumnOf.{bool_column, column_of}
use Rattle.vortex_array.proofs.Compared.{between-joined, length-compared}
use Rattle.vortex_dict.specs.Decoded.{dict_column}
use Rattle.vortex_table_chunks.proofs.compare.dict_bounded.Goals as goal

pub both_true-requires : goal.both_true-requires
both_true-requires c = record {
  same_length =
      ap (λ (d : Column). length d.rows) c.in_ok-above.ensures
      ∙ length-compared c.operator_below.result (dict_column c.args.dict.now) (column_of c.args.lower.now) c.requires.lower_length
      ∙ sym
      (ap (λ (d : Column). length d.rows) c.in_ok-below.ensures
      ∙ length-compared c.operator_above.result (dict_column c.args.dict.now) (column_of c.args.upper.now) c.requires.upper_length);
}

pub returns : goal.returns
returns c =
    let x : Column = dict_column c.args.dict.now in
    let lower : Column = column_of c.args.lower.now in
    let upper : Column = column_of c.args.upper.now in
    let options = c.args.options.now in
    let above : bool_column c.in_ok-above.above ≡ compared (lower_operator options.lower_strict) x lower = c.in_ok-above.ensures ∙ ap (λ o. compared o x lower) c.operator_below.ensures in
    let below : bool_column c.in_ok-below.below ≡ compared (upper_operator options.upper_strict) x upper = c.in_ok-below.ensures ∙ ap (λ o. compared o x upper) c.operator_above.ensures in
    c.in_ok-between.ensures
    ∙ ap (λ d. joined_strictly d (bool_column c.in_ok-below.below)) above
    ∙ ap (joined_strictly (compared (lower_operator options.lower_strict) x lower)) below
    ∙ between-joined options x lower upper
