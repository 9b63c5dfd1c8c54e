use Rattle.std.proofs.Common.{arith}
use Rattle.vortex_array_order.proofs.UnsetFirst.{rest-not-set, rest-set}
use Rattle.vortex_array_order.proofs.nulls.unset_of.Goals as goal

pub returns-then-count-len : goal.returns-then-count-len
returns-then-count-len c = rest-set c.args.bits.now c.in-Some.first c.in-Some.ensures.within c.in-Some.ensures.before (omega (arith, c.count.ensures, c.if-count-len.true, c.len-in-Some.ensures))

pub returns-else-count-len : goal.returns-else-count-len
returns-else-count-len c =
    rest-not-set c.args.bits.now c.in-Some.first c.in-Some.ensures.within c.in-Some.ensures.set c.in-Some.ensures.before (λ e. c.if-count-len.false (omega (arith, e, c.count.ensures, c.len-in-Some.ensures)))
