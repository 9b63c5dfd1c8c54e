use Rattle.std.proofs.Common.{sym, true, false, not}
use Rattle.vortex_buffer.proofs.Bits.{map-replicate}
use Rattle.vortex_buffer.proofs.mask.Mask.not.Goals as goal

pub returns-in-AllTrue : goal.returns-in-AllTrue
returns-in-AllTrue c = rw c.in-AllTrue.is (sym (map-replicate not c.in-AllTrue.len true))

pub returns-in-AllFalse : goal.returns-in-AllFalse
returns-in-AllFalse c = rw c.in-AllFalse.is (sym (map-replicate not c.in-AllFalse.len false))
