-- The first bit that is set, found by words.
use Rattle.std.proofs.Common.{ℕ, zero, suc, ◌+◌, ◌*◌, ◌/◌, ◌%◌, ◌<◌, ◌≤◌, ◌≡◌, cond, take, get_or, Bool, true, false, List, [], ◌∷◌, length, replicate, refl, sym, ap, ◌∙◌, arith, inl, inr}
use Rattle.std.specs.Prelude.{◌⊎◌}
use Rattle.std.specs.Int.{bit_at, trailing_zeros, w64}
use Rattle.std.proofs.lemmas.Bool.{cases_lt, true≢false}
use Rattle.std.proofs.lemmas.List.{get_or_past}
use Rattle.std.proofs.lemmas.Nat.Bits.{bit_at_above, bit_at-trailing_zeros}
use Rattle.vortex_buffer.specs.Bits.{word_of}
use Rattle.vortex_buffer.proofs.Bits.{bit_at-word_of, word_of-lt}

bit_set : (b : Bool) → cond {A = ℕ} b 1 0 ≡ 1 → b ≡ true
bit_set true e = refl
bit_set false e = absurd (omega (arith, e))

bit_unset : (b : Bool) → cond {A = ℕ} b 1 0 ≡ 0 → b ≡ false
bit_unset true e = absurd (omega (arith, e))
bit_unset false e = refl

-- a bit is not set where its place in its word is 0
unset_bit : (bits : List Bool) (i : ℕ) → bit_at (word_of bits (i / 64)) (i % 64) ≡ 0 → get_or bits i false ≡ false
unset_bit bits i e =
    let at : 64 * (i / 64) + i % 64 ≡ i = omega arith in
    let within : i % 64 < 64 = omega arith in
    let here = bit_at-word_of bits (i / 64) (i % 64) within in
    bit_unset (get_or bits i false) (sym (rw at at here) ∙ e)

-- no bit of a word that is 0 is set
unset_word : (bits : List Bool) (i k : ℕ) → i / 64 ≡ k → word_of bits k ≡ 0 → get_or bits i false ≡ false
unset_word bits i k e zeroes =
    unset_bit bits i (ap (λ j. bit_at (word_of bits j) (i % 64)) e ∙ ap (λ w. bit_at w (i % 64)) zeroes ∙ bit_at_above 0 0 (i % 64) (omega arith) (omega arith))

-- the front of a list of bits of which none is set
unset_front : (bits : List Bool) (n : ℕ) → n ≤ length bits → ((i : ℕ) → i < n → get_or bits i false ≡ false) → take n bits ≡ replicate n false
unset_front bits zero l h = refl
unset_front [] (suc n) l h = absurd (omega (arith, l))
unset_front (b ∷ bits) (suc n) l h =
    ap (λ c. c ∷ take n bits) (h 0 (omega arith)) ∙ ap (λ bs. false ∷ bs) (unset_front bits n (omega (arith, l)) (λ i m. h (suc i) (omega (arith, m))))

unset_all : (bits : List Bool) → ((i : ℕ) → i < length bits → get_or bits i false ≡ false) → bits ≡ replicate (length bits) false
unset_all [] h = refl
unset_all (b ∷ bits) h =
    ap (λ c. c ∷ bits) (h 0 (omega arith)) ∙ ap (λ bs. false ∷ bs) (unset_all bits (λ i m. h (suc i) (omega (arith, m))))

-- a bit that is set lies within the list
pub set_within : (bits : List Bool) (i : ℕ) → get_or bits i false ≡ true → i < length bits
set_within bits i e = by_place (cases_lt i (length bits))
  where
    by_place : (i < length bits) ⊎ (length bits ≤ i) → i < length bits
    by_place (inl l) = l
    by_place (inr l) = absurd (true≢false (sym e ∙ get_or_past bits i false l))

-- where all words are 0, no bit is set
pub no_word : (bits : List Bool) (n : ℕ) → ((j : ℕ) → j < n → word_of bits j ≡ 0) → length bits ≤ 64 * n → bits ≡ replicate (length bits) false
no_word bits n h l = unset_all bits (λ i m. unset_word bits i (i / 64) refl (h (i / 64) (omega (arith, l, m))))

-- the lowest bit of a word that is not 0 is set
pub first_is_set : (bits : List Bool) (k word first : ℕ) → word ≡ word_of bits k → 0 < word → first ≡ 64 * k + trailing_zeros w64 word → get_or bits first false ≡ true
first_is_set bits k word first e some f =
    let found = bit_at-trailing_zeros w64 (word_of bits k) (omega (arith, e, some)) (word_of-lt bits k) in
    rw (f, e) (bit_set (get_or bits (64 * k + trailing_zeros w64 (word_of bits k)) false) (sym (bit_at-word_of bits k (trailing_zeros w64 (word_of bits k)) found.0) ∙ found.1))

-- and no bit before it is, where all words before are 0
pub none_before : (bits : List Bool) (k word first : ℕ) → ((j : ℕ) → j < k → word_of bits j ≡ 0) → word ≡ word_of bits k → 0 < word → first ≡ 64 * k + trailing_zeros w64 word → take first bits ≡ replicate first false
none_before bits k word first h e some f =
    let found = bit_at-trailing_zeros w64 (word_of bits k) (omega (arith, e, some)) (word_of-lt bits k) in
    let tail : trailing_zeros w64 word ≡ trailing_zeros w64 (word_of bits k) = ap (λ w. trailing_zeros w64 w) e in
    let within : first < length bits = set_within bits first (first_is_set bits k word first e some f) in
    unset_front bits first (omega (arith, within)) (λ i m. by_word i (cases_lt (i / 64) k) (omega (arith, m, f, tail, found.0)) found.2)
  where
    by_word : (i : ℕ) → (i / 64 < k) ⊎ (k ≤ i / 64) → i < 64 * k + trailing_zeros w64 (word_of bits k) → ((j : ℕ) → j < trailing_zeros w64 (word_of bits k) → bit_at (word_of bits k) j ≡ 0) → get_or bits i false ≡ false
    by_word i (inl l) m low = unset_word bits i (i / 64) refl (h (i / 64) l)
    by_word i (inr l) m low =
        let same : i / 64 ≡ k = omega (arith, l, m, (bit_at-trailing_zeros w64 (word_of bits k) (omega (arith, e, some)) (word_of-lt bits k)).0) in
        unset_bit bits i (ap (λ j. bit_at (word_of bits j) (i % 64)) same ∙ low (i % 64) (omega (arith, same, m)))
