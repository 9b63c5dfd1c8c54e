use Rattle.std.proofs.Common.{◌∙◌, ap, map}
use Rattle.vortex_array.specs.ColumnOf.{column_of}
use Rattle.vortex_query.specs.Shown.{one_value}
use Rattle.vortex_query.proofs.Lines.{one_kind, one_rows}
use Rattle.vortex_query.proofs.batches.one_array.Goals as goal

pub returns-clause-kind : goal.returns-clause-kind
returns-clause-kind c =
    let all = c.columns.ensures.value in
    let first = rw all at c.index-columns-0.is in
    ap (λ a. (column_of a).dtype) first ∙ one_kind c.args.batch.now.array.columns c.index-columns-0.result c.requires

pub returns-clause-rows : goal.returns-clause-rows
returns-clause-rows c =
    let all = c.columns.ensures.value in
    let first = rw all at c.index-columns-0.is in
    ap (λ a. map one_value (column_of a).rows) first ∙ one_rows c.args.batch.now.array.rows c.args.batch.now.array.columns c.index-columns-0.result c.requires c.columns.ensures.rows
