use Rattle.std.proofs.Common.{arith, ◌<◌, ◌≤◌, ◌∙◌, ◌++◌, ◌∷◌, [], ap, sym, get_or, length, map, take}
use Rattle.std.proofs.lemmas.List.{get_or_default, length-map, take_all}
use Rattle.vortex_array_rows.proofs.Taken.{map_next, place_below}
use Rattle.vortex_array_rows.proofs.items.take_items.Goals as goal

pub offset_bounds-items-place : goal.offset_bounds-items-place
offset_bounds-items-place g c =
    let low = place_below g.P.RowIndex.place (length c.args.items.now) c.args.places.now c.loop-place.place-index c.place-item.result c.requires.within (omega arith) c.place-item.is in
    let below : c.place.result < length c.args.items.now = rw c.place.ensures low in
    omega arith

pub bounds-items-place : goal.bounds-items-place
bounds-items-place g c =
    let low = place_below g.P.RowIndex.place (length c.args.items.now) c.args.places.now c.loop-place.place-index c.place-item.result c.requires.within (omega arith) c.place-item.is in
    rw c.place.ensures low

pub loop-place-preserved : goal.loop-place-preserved
loop-place-preserved g c = λ d.
    let f = g.P.RowIndex.place in
    let items = c.args.items.now in
    let places = c.args.places.now in
    let low = place_below f (length items) places c.loop-place.place-index c.place-item.result c.requires.within (omega arith) c.place-item.is in
    let below : c.place.result < length items = rw c.place.ensures low in
    c.in_ok-push.ensures.items
    ∙ ap (λ xs. xs ++ c.index-items-place.result ∷ []) (c.loop-place.invariant d)
    ∙ ap (λ v. map (λ place. get_or items place d) (take c.loop-place.place-index (map f places)) ++ v ∷ []) (c.index-items-place.is ∙ get_or_default items c.place.result c.index-items-place.result d below ∙ ap (λ n. get_or items n d) c.place.ensures)
    ∙ sym (map_next (λ place. get_or items place d) f places c.loop-place.place-index c.place-item.result (omega arith) c.place-item.is)

pub returns : goal.returns
returns g c =
    let places = map g.P.RowIndex.place c.args.places.now in
    let all : length places ≤ c.loop-place.place-index = omega (arith, length-map c.args.places.now g.P.RowIndex.place) in
    record { ok = λ d. c.from_vec.ensures ∙ c.loop-place.invariant d ∙ ap (map (λ place. get_or c.args.items.now place d)) (take_all c.loop-place.place-index places all) }
