use Rattle.std.proofs.Common.{◌≡◌, ℕ, ◌+◌, ◌&&◌, not, take}
use Rattle.vortex_buffer.specs.Bits.{word_bit}
use Rattle.vortex_scan_types.specs.Members.{is_listed}
use Rattle.vortex_scan_types.proofs.listed_words.clear_listed.Given as goal

abbrev pub invariant-loop-place : goal.invariant-loop-place
invariant-loop-place l = (i : ℕ) → word_bit l.words i ≡ (word_bit l.initial.words i && not (is_listed (take l.place-index l.listed) (l.start + i)))
