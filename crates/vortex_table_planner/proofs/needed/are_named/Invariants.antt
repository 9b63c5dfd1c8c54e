use Rattle.std.proofs.Common.{◌≡◌, false, map, take}
use Rattle.std.specs.List.{list_any}
use Rattle.std.specs.Str.{bytes_eq}
use Rattle.vortex_table_planner.proofs.needed.are_named.Given as goal

abbrev pub invariant-loop-column : goal.invariant-loop-column
invariant-loop-column l = list_any (bytes_eq l.name) (map (λ column. column.name) (take l.column-index l.columns)) ≡ false
