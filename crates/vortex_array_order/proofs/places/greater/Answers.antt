use Rattle.vortex_array_order.specs.InOrder.{at_most}
use Rattle.vortex_array_order.proofs.ExtremeSteps.{at-least, extreme-kept, extreme-new}
use Rattle.vortex_array_order.proofs.places.greater.Goals as goal

pub returns-then-is_below : goal.returns-then-is_below
returns-then-is_below g c = extreme-new (λ a b. at_most b a) at-least c.args.rows.now c.args.i c.args.place c.requires.greatest c.requires.value (c.is_below.ensures.below c.if-is_below.true)

pub returns : goal.returns
returns g c = extreme-kept (λ a b. at_most b a) c.args.rows.now c.args.i c.args.place c.requires.greatest (λ _. c.is_below.ensures.not_below c.if-is_below.false)
