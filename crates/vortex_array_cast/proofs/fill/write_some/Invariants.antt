use Rattle.std.proofs.Common.{◌≡◌, take}
use Rattle.vortex_array_cast.specs.Filled.{filled_in}
use Rattle.vortex_array_cast.proofs.fill.write_some.Given as goal

abbrev pub invariant-loop-i : goal.invariant-loop-i
invariant-loop-i g l = take l.i l.room ≡ take l.i (filled_in l.fill l.word l.group)
