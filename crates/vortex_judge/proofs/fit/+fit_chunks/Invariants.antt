use Rattle.std.proofs.Common.{length}
use Rattle.vortex_judge.proofs.fit.+fit_chunks.Given as goal

abbrev pub decreases-fit_chunks : goal.decreases-fit_chunks
decreases-fit_chunks l = length l.described.now
