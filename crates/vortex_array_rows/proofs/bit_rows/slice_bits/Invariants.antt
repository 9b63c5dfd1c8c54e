use Rattle.std.proofs.Common.{◌≡◌, take, drop}
use Rattle.vortex_buffer.specs.Bits.{words_of}
use Rattle.vortex_array_rows.proofs.bit_rows.slice_bits.Given as goal

abbrev pub invariant-loop-k : goal.invariant-loop-k
invariant-loop-k l = l.words.items ≡ take l.k (words_of (drop l.start l.bits))
