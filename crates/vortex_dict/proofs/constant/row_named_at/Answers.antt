use Rattle.std.proofs.Common.{◌≡◌, ◌∙◌, ap, get_or, length, map, sym}
use Rattle.std.proofs.lemmas.List.{get_or-map, length-map}
use Rattle.vortex_array_select.proofs.TakenRows.{place-below}
use Rattle.vortex_array.specs.ColumnOf.{column_of}
use Rattle.vortex_dict.proofs.constant.row_named_at.Goals as goal

pub value_at-requires : goal.value_at-requires
value_at-requires g c =
    let f = g.P.RowIndex.place in
    let places = c.args.places.now in
    let row = c.args.row in
    let code : c.place.result ≡ get_or (map f places) row 0 = c.place.ensures ∙ ap f c.index-places-row.is ∙ sym (get_or-map f places row c.index-places-row.result 0 c.requires.inside) in
    rw code
    (place-below (length (column_of c.args.values.now).rows) c.args.nulls.now (map f places) row c.requires.below (rw (length-map places f) c.requires.inside) (sym c.is_valid.ensures ∙ c.if-is_valid.true))
