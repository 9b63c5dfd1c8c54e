use Rattle.std.proofs.Common.{length}
use Rattle.vortex_judge.proofs.asking.+push_all_types.Given as goal

abbrev pub decreases-push_all_types : goal.decreases-push_all_types
decreases-push_all_types l = length l.named.now
