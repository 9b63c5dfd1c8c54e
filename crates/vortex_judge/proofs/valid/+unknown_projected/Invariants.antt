use Rattle.std.proofs.Common.{length}
use Rattle.vortex_judge.proofs.valid.+unknown_projected.Given as goal

abbrev pub decreases-unknown_projected : goal.decreases-unknown_projected
decreases-unknown_projected l = length l.names.now
