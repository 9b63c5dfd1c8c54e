use Rattle.std.specs.Prelude.{ℕ, ◌+◌, ◌-◌, ◌*◌, ◌/◌, ◌%◌, ◌^◌, ◌<◌, ◌≡◌, ◌==◌, Bool, List, ◌++◌, length, get_or, take, drop, map, min}
use Rattle.std.specs.Int.{bit_at}
use Rattle.std.specs.List.{range_with_len}
use Rattle.std.specs.Simd.Lanes.{mask_l}

-- bit i of words of 64 bits: bit i % 64 of word i / 64, least significant bit first
abbrev pub word_bit : List ℕ → ℕ → Bool
word_bit words i = bit_at (get_or words (i / 64) 0) (i % 64) == 1

-- the first n bits of words, as a list
unfoldable pub bits_of : ℕ → List ℕ → List Bool
bits_of n words = map (λ i. word_bit words i) (range_with_len 0 n)

-- how many words n bits take
abbrev pub words_for : ℕ → ℕ
words_for n = (n + 63) / 64

-- word k of a list of bits: the bits from 64 * k on, least significant first; bits past the end count as 0
unfoldable pub word_of : List Bool → ℕ → ℕ
word_of bits k = mask_l (take 64 (drop (64 * k) bits))

-- the words of a list of bits, as many as it takes; spare bits of the last word are 0
unfoldable pub words_of : List Bool → List ℕ
words_of bits = map (λ k. word_of bits k) (range_with_len 0 (words_for (length bits)))

-- the words of a list of bits, written over the first of these words; all further ones stay
abbrev pub packed_over : List Bool → List ℕ → List ℕ
packed_over bits old = words_of bits ++ drop (words_for (length bits)) old

-- words hold n bits and no more: they are as many as n bits take, and every spare bit is 0
pub record HoldsBits (n : ℕ) (words : List ℕ) : Type 0 where
  pub count : length words ≡ words_for n
  pub clear : (k : ℕ) → get_or words k 0 < 2 ^ min 64 (n - 64 * k)
