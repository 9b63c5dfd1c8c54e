use Rattle.std.proofs.Common.{length}
use Rattle.vortex_judge.proofs.asking.+push_splits.Given as goal

abbrev pub decreases-push_splits : goal.decreases-push_splits
decreases-push_splits l = length l.splits.now
