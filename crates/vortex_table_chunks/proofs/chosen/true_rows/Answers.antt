use Rattle.std.proofs.Common.{◌∙◌}
use Rattle.vortex_array.specs.ColumnOf.{bool_column}
use Rattle.vortex_table_chunks.specs.Rows.{cells_of}
use Rattle.vortex_table_chunks.proofs.KeptRows.{true-kept}
use Rattle.vortex_table_chunks.proofs.chosen.true_rows.Goals as goal

pub returns : goal.returns
returns c =
    c.in_ok-mask.ensures
    ∙ true-kept (cells_of c.args.columns.now c.args.chunks.now c.args.rows) c.args.filter.now (bool_column c.in_ok-truth.truth) c.in_ok-truth.ensures
