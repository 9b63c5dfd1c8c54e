use Rattle.std.proofs.Common.{length}
use Rattle.vortex_judge.proofs.fit.+fit_splits.Given as goal

abbrev pub decreases-fit_splits : goal.decreases-fit_splits
decreases-fit_splits l = length l.splits.now
