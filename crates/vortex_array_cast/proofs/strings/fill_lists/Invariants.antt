use Rattle.std.proofs.Common.{◌≡◌, length, take}
use Rattle.vortex_array_kinds.specs.Validities.{valid_bits}
use Rattle.vortex_array_cast.specs.Filled.{filled_items}
use Rattle.vortex_array_cast.proofs.strings.fill_lists.Given as goal

abbrev pub invariant-loop-i : goal.invariant-loop-i
invariant-loop-i l = l.filled ≡ take l.i (filled_items l.fill l.lists (valid_bits l.validity (length l.lists)))
