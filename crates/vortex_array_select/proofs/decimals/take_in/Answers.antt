use Rattle.std.proofs.Common.{map}
use Rattle.std.proofs.lemmas.List.{length-map}
use Rattle.vortex_array_types.specs.declared.scalar.Value.TheVariants as value
use Rattle.vortex_array_select.proofs.TakenRows.{are-taken-map, are-taken-read}
use Rattle.vortex_array_select.proofs.decimals.take_in.Goals as goal

pub returns-clause-items : goal.returns-clause-items
returns-clause-items g c =
    let items = c.args.items.now in
    let places = map g.P.RowIndex.place c.args.places.now in
    rw c.into_buffer-numbers.ensures
    (are-taken-map (λ n. value.Decimal n) c.args.nulls.now places (map g.T.DecimalWidth.unscaled items) (map g.T.DecimalWidth.unscaled c.in_ok-taken.taken)
    (are-taken-read g.T.DecimalWidth.unscaled g.P.RowIndex.place c.args.default c.args.nulls.now items c.in_ok-taken.taken c.args.places.now c.requires.long
    (rw (length-map items g.T.DecimalWidth.unscaled) at c.requires.within) (rw c.as_slice.ensures at c.in_ok-taken.ensures)))
