use Rattle.vortex_array_order.specs.InOrder.{at_most}
use Rattle.vortex_array_order.proofs.ExtremeSteps.{at-most, extreme-kept, extreme-new}
use Rattle.vortex_array_order.proofs.places.lesser.Goals as goal

pub returns-then-is_below : goal.returns-then-is_below
returns-then-is_below g c = extreme-new at_most at-most c.args.rows.now c.args.i c.args.place c.requires.least c.requires.value (c.is_below.ensures.below c.if-is_below.true)

pub returns : goal.returns
returns g c = extreme-kept at_most c.args.rows.now c.args.i c.args.place c.requires.least (λ _. c.is_below.ensures.not_below c.if-is_below.false)
