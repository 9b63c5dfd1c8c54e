use Rattle.std.proofs.Common.{◌∙◌, sym}
use Rattle.vortex_array_order.proofs.ExtremeSteps.{extremes-first, passed-over}
use Rattle.vortex_array_order.proofs.places.places_from.Goals as goal
use Rattle.vortex_array_order.proofs.places.places_from.Goals.{then-all_values, else-all_values+else-is_value}

pub loop-i-init : goal.loop-i-init
loop-i-init g c = extremes-first c.args.rows.now c.args.first c.requires.first

pub loop-i-preserved : goal.loop-i-preserved
loop-i-preserved g c =
    elim c.if-all_values.branch [
      | then-all_values w ↦ rw w.found-is w.with_value-found.ensures
      | else-all_values+else-is_value w ↦ rw w.found-is (passed-over c.args.rows.now c.loop-i.i c.loop-i.found.least c.loop-i.found.greatest c.loop-i.invariant (sym w.is_value.ensures ∙ w.if-is_value.false))
    ]
