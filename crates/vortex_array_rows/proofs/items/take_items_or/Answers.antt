use Rattle.std.proofs.Common.{arith, ◌∙◌, ap, sym, cond, get_or, ◌∷◌, [], ◌++◌}
use Rattle.vortex_array_rows.proofs.Taken.{taken_or_next}
use Rattle.vortex_array_rows.proofs.items.take_items_or.Goals as goal

pub loop-i-preserved : goal.loop-i-preserved
loop-i-preserved g c =
    let f = g.P.RowIndex.place in
    let d = c.args.default in
    c.in_ok-push.ensures.items
    ∙ ap (λ xs. xs ++ c.item_or.result ∷ []) c.loop-i.invariant
    ∙ sym (taken_or_next f d c.args.items.now c.args.places.now c.args.valid.now c.loop-i.i c.index-places-i.result c.item_or.result (omega arith) c.requires.same_length c.index-places-i.is
    (c.item_or.ensures ∙ ap (λ b. cond b (get_or c.args.items.now (f c.index-places-i.result) d) d) c.value.ensures))
