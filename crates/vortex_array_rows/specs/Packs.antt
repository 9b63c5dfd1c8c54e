-- Bits packed into words, the last of which is still open.
use Rattle.std.specs.Prelude.{ℕ, ◌+◌, ◌*◌, ◌^◌, ◌<◌, ◌≤◌, ◌≡◌, Bool, List, [], ◌∷◌, ◌++◌, length}
use Rattle.std.specs.List.{All}
use Rattle.std.specs.Simd.Lanes.{mask_l}
use Rattle.vortex_array_rows.specs.Kept.{kept_in}

-- the number that words spell, the first of them lowest
abbrev pub number_of : List ℕ → ℕ
number_of [] = 0
number_of (word ∷ words) = number_of words * 2 ^ 64 + word

-- the bits stand in full words, and what is left of them in an open one
pub record Packs (bits : List Bool) (words : List ℕ) (open_word open_len : ℕ) : Type 0 where
  pub spelled : number_of words + 2 ^ (64 * length words) * open_word ≡ mask_l bits
  pub long : 64 * length words + open_len ≡ length bits
  pub full : All (λ word. word < 2 ^ 64) words
  pub small : open_word < 2 ^ open_len
  pub partial : open_len < 64

-- whatever bits were packed before, these come behind them
pub record PacksMore (more : ℕ) (count : ℕ) (words : List ℕ) (open_word open_len : ℕ) (words_after : List ℕ) (open_after len_after : ℕ) : Type 0 where
  pub behind : (before bits : List Bool) → Packs before words open_word open_len → more ≡ mask_l bits → count ≡ length bits → Packs (before ++ bits) words_after open_after len_after

-- a word of bits and a mask of as many keep these bits, packed
pub record KeepsOfWord (word set packed count : ℕ) : Type 0 where
  pub of : (bits : List Bool) → length bits ≤ 64 → word ≡ mask_l bits → set < 2 ^ length bits → (packed ≡ mask_l (kept_in set bits)) × (count ≡ length (kept_in set bits))
