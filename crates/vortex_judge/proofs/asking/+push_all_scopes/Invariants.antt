use Rattle.std.proofs.Common.{length}
use Rattle.vortex_judge.proofs.asking.+push_all_scopes.Given as goal

abbrev pub decreases-push_all_scopes : goal.decreases-push_all_scopes
decreases-push_all_scopes l = length l.partitions.now
