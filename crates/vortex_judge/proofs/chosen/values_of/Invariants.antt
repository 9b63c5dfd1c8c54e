use Rattle.std.proofs.Common.{◌≡◌, map, take}
use Rattle.vortex_array_types.specs.Cells.{cell_of}
use Rattle.vortex_judge.proofs.chosen.values_of.Given as goal

abbrev pub invariant-loop-column : goal.invariant-loop-column
invariant-loop-column l = l.cells.items ≡ map (cell_of l.columns l.row) (map (λ column. column.name) (take l.column-index l.columns))
