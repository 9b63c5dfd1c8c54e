use Rattle.vortex_io.proofs.Targets.{honest_parts}
use Rattle.vortex_io.proofs.laws.honest_in_parts.Goals as goal

pub returns : goal.returns
returns c = honest_parts
