use Rattle.std.proofs.Common.{◌≡◌, map, take}
use Rattle.vortex_array_types.specs.Cells.{cell_of}
use Rattle.vortex_judge.proofs.chosen.values_under.Given as goal

abbrev pub invariant-loop-name : goal.invariant-loop-name
invariant-loop-name l = l.cells.items ≡ map (cell_of l.columns l.row) (take l.name-index l.names)
