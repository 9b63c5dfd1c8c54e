use Rattle.std.proofs.Common.{arith, ◌∙◌, ap, sym, cond, get_or, ◌∷◌, [], ◌++◌}
use Rattle.vortex_array_rows.proofs.Taken.{taken_or_next}
use Rattle.vortex_array_rows.proofs.items.take_lists_or.Goals as goal

pub loop-i-preserved : goal.loop-i-preserved
loop-i-preserved g c =
    let f = g.P.RowIndex.place in
    c.in_ok-push.ensures.pushed
    ∙ ap (λ xs. xs ++ c.list_or_empty.result.now ∷ []) c.loop-i.invariant
    ∙ sym (taken_or_next f [] c.args.lists.now c.args.places.now c.args.valid.now c.loop-i.i c.index-places-i.result c.list_or_empty.result.now (omega arith) c.requires.same_length c.index-places-i.is
    (c.list_or_empty.ensures ∙ ap (λ b. cond b (get_or c.args.lists.now (f c.index-places-i.result) []) []) c.value.ensures))
