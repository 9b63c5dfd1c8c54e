use Rattle.vortex_array_cast.proofs.CastRows.{counted-valid}
use Rattle.vortex_array_cast.proofs.refusals.nulls_fit.Goals as goal

pub returns-in-Bits : goal.returns-in-Bits
returns-in-Bits c = λ e i l. rw c.in-Bits.is (counted-valid _ c.args.len _ (rw c.in-Bits.is at c.requires) (rw (c.count.ensures, c.len.ensures) at e) i l)
