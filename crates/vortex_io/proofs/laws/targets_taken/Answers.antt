use Rattle.vortex_io.proofs.Targets.{taken_from}
use Rattle.vortex_io.proofs.laws.targets_taken.Goals as goal

pub returns : goal.returns
returns c = taken_from
