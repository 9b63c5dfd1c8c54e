use Rattle.std.proofs.Common.{ℕ, ◌-◌, ◌*◌, ◌/◌, ◌%◌, ◌<◌, ◌≤◌, ◌≡◌, Bool, true, false, ◌&&◌, List, [], ◌∷◌, eqb, length, get_or, replicate, min, refl, sym, ap, ◌∙◌, arith, ⊎_elim}
use Rattle.std.specs.Int.{bit_at}
use Rattle.std.specs.Simd.Lanes.{zip2}
use Rattle.std.proofs.lemmas.Nat.{pow_pos}
use Rattle.std.proofs.lemmas.Nat.Bits.{bit_at-zero}
use Rattle.std.proofs.lemmas.List.{length-replicate, get_or-replicate, get_or_past, ext_get_or}
use Rattle.std.proofs.lemmas.Bool.{cases_lt}
use Rattle.vortex_buffer.specs.Bits.{bits_of, words_for, HoldsBits}
use Rattle.vortex_buffer.proofs.Bits.{length-bits_of, get_or-bits_of}

-- each word of unset words is 0, and so is what is past them
zero_word : (m k : ℕ) → get_or {A = ℕ} (replicate m 0) k 0 ≡ 0
zero_word m k =
    ⊎_elim
    (λ (inside : k < m). get_or-replicate m k 0 0 inside)
    (λ (past : m ≤ k). get_or_past (replicate m 0) k 0 (omega (arith, length-replicate {A = ℕ} m 0, past)))
    (cases_lt k m)

-- words of 0 have no bit set
pub bits_of-unset : (n m : ℕ) → bits_of n (replicate m 0) ≡ replicate n false
bits_of-unset n m =
    ext_get_or false (bits_of n (replicate m 0)) (replicate n false) (length-bits_of n (replicate m 0) ∙ sym (length-replicate n false))
    (λ i h.
    let l : i < n = omega (arith, length-bits_of n (replicate m 0), h) in
    get_or-bits_of n (replicate m 0) i l
    ∙ ap (λ w. eqb (bit_at w (i % 64)) 1) (zero_word m (i / 64))
    ∙ ap (λ b. eqb b 1) (bit_at-zero (i % 64))
    ∙ sym (get_or-replicate n i false false l))

-- words of 0 have no spare bit set
pub holds-unset : (n : ℕ) → HoldsBits n (replicate (words_for n) 0)
holds-unset n = record {
  count = length-replicate (words_for n) 0;
  clear = λ k. rw zero_word (pow_pos (min 64 (n - 64 * k)));
}

-- and with all bits set changes nothing
pub and-all_left : (n : ℕ) (bits : List Bool) → n ≡ length bits → zip2 ◌&&◌ (replicate n true) bits ≡ bits
and-all_left n [] e = rw e refl
and-all_left n (b ∷ bits) e = rw e (ap (λ zs. b ∷ zs) (and-all_left (length bits) bits refl))

-- and with true
and_true : (b : Bool) → (b && true) ≡ b
and_true true = refl
and_true false = refl

-- and with all bits set changes nothing
pub and-all_right : (n : ℕ) (bits : List Bool) → length bits ≡ n → zip2 ◌&&◌ bits (replicate n true) ≡ bits
and-all_right n [] e = refl
and-all_right n (b ∷ bits) e = rw (← e, and_true b) (ap (λ zs. b ∷ zs) (and-all_right (length bits) bits refl))

-- and with no bit set leaves none
pub and-none_left : (n : ℕ) (bits : List Bool) → n ≡ length bits → zip2 ◌&&◌ (replicate n false) bits ≡ replicate n false
and-none_left n [] e = rw e refl
and-none_left n (b ∷ bits) e = rw e (ap (λ zs. false ∷ zs) (and-none_left (length bits) bits refl))

-- and with false
and_false : (b : Bool) → (b && false) ≡ false
and_false true = refl
and_false false = refl

-- and with no bit set leaves none
pub and-none_right : (n : ℕ) (bits : List Bool) → length bits ≡ n → zip2 ◌&&◌ bits (replicate n false) ≡ replicate n false
and-none_right n [] e = rw (← e) refl
and-none_right n (b ∷ bits) e = rw (← e, and_false b) (ap (λ zs. false ∷ zs) (and-none_right (length bits) bits refl))
