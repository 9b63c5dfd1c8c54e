use Rattle.std.proofs.Common.{length}
use Rattle.vortex_judge.proofs.asking.+push_scopes.Given as goal

abbrev pub decreases-push_scopes : goal.decreases-push_scopes
decreases-push_scopes l = length l.splits.now
