use Rattle.std.proofs.Common.{◌≡◌, take}
use Rattle.vortex_buffer.specs.Bits.{bits_of}
use Rattle.vortex_buffer.specs.Mask.{bits_at}
use Rattle.vortex_buffer.proofs.words.set_places.Given as goal

abbrev pub invariant-loop-place : goal.invariant-loop-place
invariant-loop-place l = bits_of l.len l.words ≡ bits_at l.len (take l.place-index l.places)
