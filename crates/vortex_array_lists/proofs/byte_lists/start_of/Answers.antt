use Rattle.std.proofs.Common.{arith, ◌-◌, sym}
use Rattle.vortex_array_lists.proofs.Pieces.{start_first, start_is}
use Rattle.vortex_array_lists.proofs.byte_lists.start_of.Goals as goal

pub returns-then-i-eq0 : goal.returns-then-i-eq0
returns-then-i-eq0 c = rw c.if-i-eq0.true (sym (start_first 0 c.args.ends.now))

pub returns-else-i-eq0 : goal.returns-else-i-eq0
returns-else-i-eq0 c = sym (start_is c.args.ends.now c.args.i (c.args.i - 1) (omega (arith, c.requires)) (omega arith))
