use Rattle.std.proofs.Common.{◌≡◌, take}
use Rattle.vortex_dict.proofs.lookup.bytes_of.Given as goal

abbrev pub invariant-loop-i : goal.invariant-loop-i
invariant-loop-i l = l.bytes.items ≡ take l.i l.bits
