use Rattle.vortex_io.proofs.Targets.{fewer_one}
use Rattle.vortex_io.proofs.laws.one_fewer.Goals as goal

pub returns : goal.returns
returns c = fewer_one
