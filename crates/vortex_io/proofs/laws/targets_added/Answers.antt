use Rattle.vortex_io.proofs.Targets.{added}
use Rattle.vortex_io.proofs.laws.targets_added.Goals as goal

pub returns : goal.returns
returns c = added
