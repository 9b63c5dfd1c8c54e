use Rattle.std.proofs.Common.{length}
use Rattle.vortex_judge.proofs.truth.+cell.Given as goal

abbrev pub decreases-cell : goal.decreases-cell
decreases-cell l = length l.columns.now
