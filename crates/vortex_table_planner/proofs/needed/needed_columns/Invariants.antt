use Rattle.std.proofs.Common.{◌≡◌, take}
use Rattle.vortex_table_planner.specs.Live.{columns_named, names_in}
use Rattle.vortex_table_planner.proofs.needed.needed_columns.Given as goal

abbrev pub invariant-loop-column : goal.invariant-loop-column
invariant-loop-column l = l.needed.items ≡ columns_named (take l.column l.columns) (names_in l.columns l.projection l.filter)
