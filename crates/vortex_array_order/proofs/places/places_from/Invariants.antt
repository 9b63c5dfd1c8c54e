use Rattle.vortex_array_order.specs.Extremes.{ExtremesOf}
use Rattle.vortex_array_order.proofs.places.places_from.Given as goal

abbrev pub invariant-loop-i : goal.invariant-loop-i
invariant-loop-i g l = ExtremesOf l.rows l.i l.found.least l.found.greatest
