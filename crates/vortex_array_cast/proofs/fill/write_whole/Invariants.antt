use Rattle.std.proofs.Common.{◌≡◌, ◌*◌, take}
use Rattle.vortex_array_cast.specs.Filled.{filled_in}
use Rattle.vortex_array_cast.proofs.fill.write_whole.Given as goal

abbrev pub invariant-loop-k : goal.invariant-loop-k
invariant-loop-k g l = take (8 * l.k) l.room ≡ take (8 * l.k) (filled_in l.fill l.word l.group)
