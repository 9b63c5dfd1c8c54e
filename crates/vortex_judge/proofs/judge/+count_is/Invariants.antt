use Rattle.std.proofs.Common.{length}
use Rattle.vortex_judge.proofs.judge.+count_is.Given as goal

abbrev pub decreases-count_is : goal.decreases-count_is
decreases-count_is l = length l.batches.now
