use Rattle.std.proofs.Common.{arith, subst, map, ◌∙◌}
use Rattle.std.specs.Prelude.{is_some}
use Rattle.std.proofs.lemmas.List.{length-map}
use Rattle.vortex_array_order.specs.Nulls.{NullsFirst}
use Rattle.vortex_array_order.proofs.NullRows.{all-null, first-among, first-behind, value-row}
use Rattle.vortex_array_order.proofs.places.extreme_places.Goals as goal

pub returns-then-nulls-count : goal.returns-then-nulls-count
returns-then-nulls-count g c = all-null c.args.rows.now (subst (λ n. NullsFirst (map is_some c.args.rows.now) n) (c.if-nulls-count.true ∙ c.count.ensures) c.in-First.ensures)

pub places_from-requires-clause-first : goal.places_from-requires-clause-first
places_from-requires-clause-first g c =
    first-behind c.args.rows.now c.in-First.nulls c.in-First.ensures (omega (arith, c.in-First.ensures.within, length-map c.args.rows.now is_some, c.if-nulls-count.false, c.count.ensures))

pub places_from-requires-clause-all_values : goal.places_from-requires-clause-all_values
places_from-requires-clause-all_values g c = λ _ i l inside. value-row c.args.rows.now c.in-First.nulls i c.in-First.ensures l inside

pub places_from-requires-in-Behind-clause-first : goal.places_from-requires-in-Behind-clause-first
places_from-requires-in-Behind-clause-first g c = first-among c.args.rows.now c.in-Behind.first c.in-Behind.ensures
