use Rattle.vortex_scan.proofs.Ended.{ended_are_silent}
use Rattle.vortex_scan.proofs.laws.ended_roots_are_silent.Goals as goal

pub returns : goal.returns
returns g c = ended_are_silent _ g.S.IoSource _
