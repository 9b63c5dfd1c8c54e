use Rattle.std.proofs.Common.{map, subst}
use Rattle.vortex_array_kinds.proofs.RowLemmas.{rows-counted}
use Rattle.vortex_array_select.specs.SelectedParts.{PlacesBelow}
use Rattle.vortex_array_select.proofs.TakenRows.{long-places, taken-column, taken-long}
use Rattle.vortex_array_select.proofs.plain.PlainArrayTake.take.Goals as goal

pub take_values-requires-clause-within : goal.take_values-requires-clause-within
take_values-requires-clause-within g c =
    let a = c.args.self.now in
    rw c.stored.ensures.value
    (subst (λ n. PlacesBelow n c.args.nulls.now (map g.P.RowIndex.place c.args.places.now)) (rows-counted a.validity (g.V.Values.items a.values) (g.V.Values.count_of a.values) (g.V.Values.counted a.values) c.stored.ensures.fits) c.requires.within)

pub take_validity-requires-clause-within : goal.take_validity-requires-clause-within
take_validity-requires-clause-within g c =
    let a = c.args.self.now in
    subst (λ n. PlacesBelow n c.args.nulls.now (map g.P.RowIndex.place c.args.places.now)) (rows-counted a.validity (g.V.Values.items a.values) (g.V.Values.count_of a.values) (g.V.Values.counted a.values) c.stored.ensures.fits) c.requires.within

pub new-requires : goal.new-requires
new-requires g c =
    let places = map g.P.RowIndex.place c.args.places.now in
    let long = long-places g.P.RowIndex.place c.args.nulls.now c.args.places.now c.requires.long in
    rw (c.in_ok-validity.ensures, ← g.V.Values.counted c.in_ok-values.values, c.in_ok-values.ensures.items.same_length) (taken-long c.args.nulls.now c.args.self.now.validity places long)

pub returns : goal.returns
returns g c =
    let a = c.args.self.now in
    rw (c.new.ensures, c.in_ok-validity.ensures)
    (taken-column g.V.Values.type_of g.V.Values.items a c.in_ok-values.values c.args.nulls.now (map g.P.RowIndex.place c.args.places.now) (g.V.Values.alike a.values)
    (long-places g.P.RowIndex.place c.args.nulls.now c.args.places.now c.requires.long) (rw c.stored.ensures.value at c.in_ok-values.ensures.same_type) (rw c.stored.ensures.value at c.in_ok-values.ensures.items))
