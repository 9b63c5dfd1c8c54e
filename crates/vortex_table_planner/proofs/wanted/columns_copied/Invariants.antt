use Rattle.std.proofs.Common.{◌≡◌, take}
use Rattle.vortex_table_planner.proofs.wanted.columns_copied.Given as goal

abbrev pub invariant-loop-column : goal.invariant-loop-column
invariant-loop-column l = l.copy.items ≡ take l.column-index l.columns
