use Rattle.vortex_io.proofs.Targets.{rose_whole}
use Rattle.vortex_io.proofs.laws.rose_in_whole.Goals as goal

pub returns : goal.returns
returns c = rose_whole
