use Rattle.std.proofs.Common.{◌∙◌, sym, ap, ◌++◌, ◌∷◌, []}
use Rattle.vortex_judge.proofs.Parts.{row_kept, row_left}
use Rattle.vortex_judge.proofs.chosen.push_chosen.Goals as goal
use Rattle.vortex_judge.proofs.chosen.push_chosen.Goals.{then-is_chosen+in_ok-values+in_ok-push, else-is_chosen}

pub loop-row-preserved : goal.loop-row-preserved
loop-row-preserved c = elim c.if-is_chosen.branch [
  | then-is_chosen+in_ok-values+in_ok-push w ↦
      row_kept c.args.request.now c.args.columns.now c.args.partition c.loop-row.list.items _ _ c.loop-row.row c.args.rows.now c.index-rows-row.result _ _ c.loop-row-test.true c.index-rows-row.is c.as_slice-values.ensures
      (sym c.is_chosen.ensures ∙ w.if-is_chosen.true) w.in_ok-values.ensures (ap (λ l. l.items) w.list-is ∙ w.in_ok-push.ensures.items ∙ ap (λ y. c.loop-row.list.items ++ y ∷ []) w.new.ensures) c.loop-row.invariant
  | else-is_chosen w ↦
      row_left c.args.request.now c.args.columns.now c.args.partition c.loop-row.list.items _ _ c.loop-row.row c.args.rows.now c.index-rows-row.result _ c.loop-row-test.true c.index-rows-row.is c.as_slice-values.ensures
      (sym c.is_chosen.ensures ∙ w.if-is_chosen.false) (ap (λ l. l.items) w.list-is) c.loop-row.invariant
]
