use Rattle.vortex_array_order.specs.Asked.{Follow}
use Rattle.vortex_array_order.proofs.order.values_follow.Given as goal

abbrev pub invariant-loop-i : goal.invariant-loop-i
invariant-loop-i g l = Follow l.order l.rows l.nulls l.i
