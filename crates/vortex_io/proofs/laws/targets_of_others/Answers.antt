use Rattle.vortex_io.proofs.Targets.{none_of_others}
use Rattle.vortex_io.proofs.laws.targets_of_others.Goals as goal

pub returns : goal.returns
returns c = none_of_others
