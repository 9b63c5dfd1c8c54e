use Rattle.std.proofs.Common.{length}
use Rattle.vortex_judge.proofs.asking.+push_partitions.Given as goal

abbrev pub decreases-push_partitions : goal.decreases-push_partitions
decreases-push_partitions l = length l.partitions.now
