use Rattle.std.proofs.Common.{◌≡◌, take}
use Rattle.vortex_judge.proofs.judge.row_copy.Given as goal

abbrev pub invariant-loop-cell : goal.invariant-loop-cell
invariant-loop-cell l = l.cells.items ≡ take l.cell-index l.row
