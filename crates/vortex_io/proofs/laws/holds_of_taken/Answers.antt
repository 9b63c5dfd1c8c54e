use Rattle.vortex_io.proofs.Targets.{taken_holds}
use Rattle.vortex_io.proofs.laws.holds_of_taken.Goals as goal

pub returns : goal.returns
returns c = taken_holds
