use Rattle.std.proofs.Common.{ℕ, ◌<◌, ◌≡◌}
use Rattle.vortex_buffer.specs.Bits.{word_of}
use Rattle.vortex_array_rows.proofs.set_bits.first_set.Given as goal

abbrev pub invariant-loop-k : goal.invariant-loop-k
invariant-loop-k l = (j : ℕ) → j < l.k → word_of l.bits j ≡ 0
