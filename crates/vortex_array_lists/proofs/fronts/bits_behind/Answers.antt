use Rattle.vortex_array_lists.proofs.FrontOrder.{shifted}
use Rattle.vortex_array_lists.proofs.fronts.bits_behind.Goals as goal

pub returns-then-count-lt8 : goal.returns-then-count-lt8
returns-then-count-lt8 c = shifted c.args.count c.if-count-lt8.true
