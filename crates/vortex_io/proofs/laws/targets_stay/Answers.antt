use Rattle.vortex_io.proofs.Targets.{stay}
use Rattle.vortex_io.proofs.laws.targets_stay.Goals as goal

pub returns : goal.returns
returns c = stay
