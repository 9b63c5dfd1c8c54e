use Rattle.std.proofs.Common.{◌≡◌, ◌*◌, take}
use Rattle.vortex_array_cast.specs.Filled.{filled_items}
use Rattle.vortex_array_cast.proofs.fill.fill_over.Given as goal

abbrev pub invariant-loop-k : goal.invariant-loop-k
invariant-loop-k g l = l.made.items ≡ filled_items l.fill (take (64 * l.k) l.items) (take (64 * l.k) l.bits)
