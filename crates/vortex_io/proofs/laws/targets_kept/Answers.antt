use Rattle.vortex_io.proofs.Targets.{kept}
use Rattle.vortex_io.proofs.laws.targets_kept.Goals as goal

pub returns : goal.returns
returns c = kept
