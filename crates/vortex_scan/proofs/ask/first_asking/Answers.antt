use Rattle.std.proofs.Common.{arith}
use Rattle.vortex_scan.proofs.FirstAsking.{first_of_all}
use Rattle.vortex_scan.proofs.ask.first_asking.Goals as goal

pub returns : goal.returns
returns g c = first_of_all c.args.items.now c.loop-i.i c.loop-i.best (omega arith) c.loop-i.invariant
