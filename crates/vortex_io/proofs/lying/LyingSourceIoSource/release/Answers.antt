use Rattle.vortex_io.proofs.Covered.{covered_released}
use Rattle.vortex_io.proofs.lying.LyingSourceIoSource.release.Goals as goal

pub invariant_of-self : goal.invariant_of-self
invariant_of-self g c = rw (c.remove_fetches.ensures, c.release.ensures.accounts) (covered_released (g.S.IoSource.outstanding c.self.inside.inner) c.self.inside.own.outstanding.items c.args.owner c.self.invariant)
