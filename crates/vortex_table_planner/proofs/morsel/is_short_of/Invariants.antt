use Rattle.std.proofs.Common.{◌≡◌, false, take}
use Rattle.vortex_table_planner.specs.Morsels.{lacks}
use Rattle.vortex_table_planner.proofs.morsel.is_short_of.Given as goal

abbrev pub invariant-loop-column : goal.invariant-loop-column
invariant-loop-column l = lacks (take l.column-index l.needed) l.chunks ≡ false
