use Rattle.std.proofs.Common.{refl}
use Rattle.vortex_buffer.proofs.Bits.{length-bits_of}
use Rattle.vortex_buffer.proofs.bit_buffer.BitBuffer.len.Goals as goal

pub returns : goal.returns
returns c = rw (← c.self.view_is, length-bits_of) refl
