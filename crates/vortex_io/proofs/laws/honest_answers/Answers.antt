use Rattle.vortex_io.proofs.Targets.{honest_answer}
use Rattle.vortex_io.proofs.laws.honest_answers.Goals as goal

pub returns : goal.returns
returns g c = honest_answer g.C.Payload.means
