use Rattle.std.proofs.Common.{arith, ◌∙◌, ap, sym, map, take, get_or, length, ◌∷◌, [], ◌++◌}
use Rattle.vortex_array_rows.proofs.Taken.{place_below, map_next}
use Rattle.vortex_array_rows.proofs.items.take_lists.Goals as goal

pub get-requires : goal.get-requires
get-requires g c =
    let low = place_below g.P.RowIndex.place (length c.args.lists.now) c.args.places.now c.loop-place.place-index c.place-item.result c.requires.within (omega arith) c.place-item.is in
    rw c.place.ensures low

pub loop-place-preserved : goal.loop-place-preserved
loop-place-preserved g c =
    let f = g.P.RowIndex.place in
    let lists = c.args.lists.now in
    let places = c.args.places.now in
    c.in_ok-push.ensures.pushed
    ∙ ap (λ xs. xs ++ c.get.result.now ∷ []) c.loop-place.invariant
    ∙ ap (λ v. map (λ place. get_or lists place []) (take c.loop-place.place-index (map f places)) ++ v ∷ []) (c.get.ensures ∙ ap (λ n. get_or lists n []) c.place.ensures)
    ∙ sym (map_next (λ place. get_or lists place []) f places c.loop-place.place-index c.place-item.result (omega arith) c.place-item.is)
