use Rattle.vortex_io.proofs.Targets.{released}
use Rattle.vortex_io.proofs.laws.targets_released.Goals as goal

pub returns : goal.returns
returns c = released
