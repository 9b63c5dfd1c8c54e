use Rattle.std.proofs.Common.{◌∙◌, sym, ap, ◌++◌, ◌∷◌, []}
use Rattle.vortex_array.specs.ColumnOf.{column_of}
use Rattle.vortex_judge.proofs.Places.{mapped_more}
use Rattle.vortex_judge.proofs.read.read_columns.Goals as goal

pub loop-i-preserved : goal.loop-i-preserved
loop-i-preserved c =
    c.in_ok-push.ensures.items ∙ ap (λ column. c.loop-i.columns.items ++ column ∷ []) c.in_ok-read_column.ensures
    ∙ ap (λ columns. columns ++ column_of c.column.result.now ∷ []) c.loop-i.invariant
    ∙ sym (mapped_more column_of c.args.array.now.columns c.loop-i.i c.column.result.now c.column.ensures)
