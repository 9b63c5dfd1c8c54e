use Rattle.std.proofs.Common.{◌∙◌, ap}
use Rattle.vortex_dict.specs.Decoded.{dict_column}
use Rattle.vortex_table_chunks.proofs.Equal.{equal-dict}
use Rattle.vortex_table_chunks.proofs.forms.repeated_row.Goals as goal

pub returns-clause-column : goal.returns-clause-column
returns-clause-column c =
    c.in_ok-rows.ensures.column
    ∙ ap dict_column c.new-dict.ensures
    ∙ equal-dict c.args.row.now c.in_ok-try_clone.field-0 c.new.result c.first_place.result c.len.result c.new.ensures c.first_place.ensures c.len.ensures.count c.in_ok-try_clone.ensures
