use Rattle.std.proofs.Common.{arith}
use Rattle.vortex_streams.proofs.Fronts.{more_than}
use Rattle.vortex_streams.proofs.whole.read_through.Goals as goal

pub returns-then-n-limit-clause-too_long : goal.returns-then-n-limit-clause-too_long
returns-then-n-limit-clause-too_long g c =
    let left = g.I.ByteSource.left in
    λ _. more_than (left c.args.input.now) (left c.loop-n.input) (left c.read.new.self) _ _ _ _ c.loop-n.invariant.bytes c.in-Ok.ensures.bytes.0
    (omega (arith, c.in-Ok.ensures.bound, c.read.auto.buffer)) (omega (arith, c.if-n-limit.true, c.loop-n.invariant.short))
