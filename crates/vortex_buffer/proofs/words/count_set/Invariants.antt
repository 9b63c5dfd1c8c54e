use Rattle.std.proofs.Common.{◌≡◌, ◌*◌, take}
use Rattle.std.specs.List.{count_by}
use Rattle.vortex_buffer.specs.Bits.{bits_of}
use Rattle.vortex_buffer.proofs.words.count_set.Given as goal

abbrev pub invariant-loop-word : goal.invariant-loop-word
invariant-loop-word l = l.total ≡ count_by (λ b. b) (take (64 * l.word-index) (bits_of l.len l.words))
