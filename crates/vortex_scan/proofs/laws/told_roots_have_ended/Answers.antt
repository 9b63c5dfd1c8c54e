use Rattle.vortex_scan.proofs.Ended.{told_have_ended}
use Rattle.vortex_scan.proofs.laws.told_roots_have_ended.Goals as goal

pub returns : goal.returns
returns g c = told_have_ended _ g.S.IoSource _
