use Rattle.std.proofs.Common.{◌∙◌, ◌∷◌, ◌++◌, [], Bool, List, ℕ, ap, append-nil, cond, sym, take}
use Rattle.vortex_table_planner.specs.Live.{columns_named, is_needed, names_in}
use Rattle.vortex_table_planner.proofs.Loops.{columns_more}
use Rattle.vortex_table_planner.proofs.needed.needed_columns.Goals.{then-is_needed+in_ok-push, else-is_needed}
use Rattle.vortex_table_planner.proofs.needed.needed_columns.Goals as goal

pub loop-column-preserved : goal.loop-column-preserved
loop-column-preserved c =
    let names : List (List ℕ) = names_in c.args.columns.now c.args.projection.now c.args.filter.now in
    let before : List ℕ = columns_named (take c.loop-column.column c.args.columns.now) names in
    let more = columns_more names c.args.columns.now c.loop-column.column c.index-columns-column.result c.loop-column-test.true in
    let read = ap (is_needed names) (sym c.index-columns-column.is) in
    elim c.if-is_needed.branch [
      | then-is_needed+in_ok-push w ↦
          ap (λ v. v.items) w.needed-is ∙ w.in_ok-push.ensures.items ∙ ap (λ (some : List ℕ). some ++ c.loop-column.column ∷ []) c.loop-column.invariant
          ∙ sym (more ∙ ap (λ (b : Bool). before ++ cond b (c.loop-column.column ∷ []) []) (read ∙ sym w.if-is_needed.ensures))
      | else-is_needed w ↦
          ap (λ v. v.items) w.needed-is ∙ c.loop-column.invariant
          ∙ sym (more ∙ ap (λ (b : Bool). before ++ cond b (c.loop-column.column ∷ []) []) (read ∙ sym w.if-is_needed.ensures) ∙ append-nil before)
    ]
