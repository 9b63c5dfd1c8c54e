-- Words of bits that grow by one bit, and the first of their bits.
use Rattle.std.proofs.Common.{ℕ, suc, ◌+◌, ◌-◌, ◌*◌, ◌/◌, ◌%◌, ◌^◌, ◌<◌, ◌≤◌, ◌≡◌, ◌≢◌, Bool, true, false, List, [], ◌∷◌, ◌++◌, eqb, length, get_or, set, take, min, max, refl, sym, ap, ◌∙◌, arith, length-append, length-take, lt_of_lt_of_le, ⊎_elim}
use Rattle.std.specs.Int.RustNames.{bit_or}
use Rattle.std.specs.Int.{bit_at}
use Rattle.std.proofs.Math.Nat.{pow-suc}
use Rattle.std.proofs.Math.Pow.{pow_mono}
use Rattle.std.proofs.lemmas.Nat.{one_shl, or_lt, pow_pos}
use Rattle.std.proofs.lemmas.Nat.Bits.{bit_at_above, bit_at_or, bit_at-zero}
use Rattle.std.proofs.lemmas.List.{get_or-append-add, get_or_append_left, get_or_past, get_or-set_other, get_or-set_same, get_or-take, ext_get_or, length-set}
use Rattle.std.proofs.lemmas.Bool.{cases_eq, cases_lt}
use Rattle.vortex_buffer.specs.Bits.{bits_of, word_bit, words_for, HoldsBits}
use Rattle.vortex_buffer.proofs.Bits.{bits_of-same, get_or-bits_of, length-bits_of}
use mir.Val.{bool_byte}
use Rattle.vortex_buffer.proofs.Places.{or_none, or_some, other_place, same_place, word_bit-set}

-- the first bits of more
pub bits_of-first : (n m : ℕ) (words : List ℕ) → n ≤ m → bits_of n words ≡ take n (bits_of m words)
bits_of-first n m words h =
    let long : length (take n (bits_of m words)) ≡ n = omega (arith, length-take n (bits_of m words), length-bits_of m words, h) in
    ext_get_or false (bits_of n words) (take n (bits_of m words)) (length-bits_of n words ∙ sym long)
    (λ i l.
    let inside : i < n = omega (arith, length-bits_of n words, l) in
    get_or-bits_of n words i inside ∙ sym (get_or-take n (bits_of m words) i false inside ∙ get_or-bits_of m words i (omega arith)))

-- words with the bits of others and one more behind them
bits_of-more : (n : ℕ) (words others : List ℕ) (bit : Bool) → ((i : ℕ) → i < n → word_bit others i ≡ word_bit words i) → word_bit others n ≡ bit → bits_of (n + 1) others ≡ bits_of n words ++ bit ∷ []
bits_of-more n words others bit same last =
    let long : length (bits_of n words ++ bit ∷ []) ≡ n + 1 = omega (arith, length-append (bits_of n words) (bit ∷ []), length-bits_of n words) in
    ext_get_or false (bits_of (n + 1) others) (bits_of n words ++ bit ∷ []) (length-bits_of (n + 1) others ∙ sym long)
    (λ i l.
    let inside : i < n + 1 = omega (arith, length-bits_of (n + 1) others, l) in
    get_or-bits_of (n + 1) others i inside
    ∙ ⊎_elim
    (λ (before : i < n).
    same i before
    ∙ sym (get_or_append_left (bits_of n words) (bit ∷ []) false i (omega (arith, length-bits_of n words, before)) ∙ get_or-bits_of n words i before))
    (λ (behind : n ≤ i).
    let at : i ≡ n = omega (arith, inside, behind) in
    let place : i ≡ length (bits_of n words) + 0 = omega (arith, length-bits_of n words, at) in
    ap (word_bit others) at ∙ last ∙ sym (ap (λ j. get_or (bits_of n words ++ bit ∷ []) j false) place ∙ get_or-append-add (bits_of n words) (bit ∷ []) 0 false))
    (cases_lt i n))

-- the test of a bit that is 0
zero_unset : (b : ℕ) → b ≡ 0 → eqb b 1 ≡ false
zero_unset b e = rw e refl

-- a number that is 0 is below every power of two
zero_fits : (word k : ℕ) → word ≡ 0 → word < 2 ^ k
zero_fits word k e = rw e (pow_pos k)

-- the bit behind the last, where the last word has room for it, is not set
pub unset_in_last : (n : ℕ) (words : List ℕ) → HoldsBits n words → word_bit words n ≡ false
unset_in_last n words h = zero_unset _ (bit_at_above (get_or words (n / 64) 0) (min 64 (n - 64 * (n / 64))) (n % 64) (h.clear (n / 64)) (omega arith))

-- such words hold one more bit
pub holds_in_last : (n : ℕ) (words : List ℕ) → n % 64 ≢ 0 → HoldsBits n words → HoldsBits (n + 1) words
holds_in_last n words room h =
    let count : words_for n ≡ words_for (n + 1) = omega (arith, room) in
    record {
      count = h.count ∙ count;
      clear = λ k. lt_of_lt_of_le (h.clear k) (pow_mono {i = min 64 (n - 64 * k)} {j = min 64 (n + 1 - 64 * k)} (omega arith));
    }

-- behind the last of more words stands 0
zero_behind : (words : List ℕ) (k : ℕ) → length words ≤ k → get_or (words ++ 0 ∷ []) k 0 ≡ 0
zero_behind words k h =
    ⊎_elim
    (λ (last : k < length words + 1).
    let at : k ≡ length words + 0 = omega (arith, h, last) in
    ap (λ j. get_or (words ++ 0 ∷ []) j 0) at ∙ get_or-append-add words (0 ∷ []) 0 0)
    (λ (past : length words + 1 ≤ k). get_or_past (words ++ 0 ∷ []) k 0 (omega (arith, length-append words (0 ∷ []), past)))
    (cases_lt k (length words + 1))

-- a word of 0 more keeps the bits
pub bits_with_zero : (n : ℕ) (words : List ℕ) → HoldsBits n words → bits_of n (words ++ 0 ∷ []) ≡ bits_of n words
bits_with_zero n words h =
    let long = h.count in
    bits_of-same n (words ++ 0 ∷ []) words (λ i l. ap (λ w. eqb (bit_at w (i % 64)) 1) (get_or_append_left words (0 ∷ []) 0 (i / 64) (omega (arith, long, l))))

-- where all words are full, the first bit of a word of 0 behind them is not set
pub unset_in_new : (n : ℕ) (words : List ℕ) → n % 64 ≡ 0 → HoldsBits n words → word_bit (words ++ 0 ∷ []) n ≡ false
unset_in_new n words full h =
    let long = h.count in
    ap (λ w. eqb (bit_at w (n % 64)) 1) (zero_behind words (n / 64) (omega (arith, long, full))) ∙ zero_unset _ (bit_at-zero (n % 64))

-- such words hold one more bit
pub holds_in_new : (n : ℕ) (words : List ℕ) → n % 64 ≡ 0 → HoldsBits n words → HoldsBits (n + 1) (words ++ 0 ∷ [])
holds_in_new n words full h =
    let long = h.count in
    record {
      count = omega (arith, length-append words (0 ∷ []), long, full);
      clear = λ k.
          ⊎_elim
          (λ (before : k < length words). rw (get_or_append_left words (0 ∷ []) 0 k before) (lt_of_lt_of_le (h.clear k) (pow_mono {i = min 64 (n - 64 * k)} {j = min 64 (n + 1 - 64 * k)} (omega arith))))
          (λ (behind : length words ≤ k). zero_fits _ _ (zero_behind words k behind))
          (cases_lt k (length words));
    }

-- a bit in its place in a word
abbrev pub placed : Bool → ℕ → ℕ
placed bit p = bool_byte bit * 2 ^ (p % 64) % 2 ^ 64

-- with a word of 0 joined by or nothing changes
same_word : (words : List ℕ) (k i m : ℕ) → m ≡ 0 → k < length words → word_bit (set words k (bit_or (get_or words k 0) m)) i ≡ word_bit words i
same_word words k i m none within =
    ⊎_elim
    (λ (here : i / 64 ≡ k).
    ap (λ w. eqb (bit_at w (i % 64)) 1) (ap (λ j. get_or (set words k (bit_or (get_or words k 0) m)) j 0) here ∙ get_or-set_same words k _ 0 within)
    ∙ ap (λ b. eqb b 1) (bit_at_or (get_or words k 0) m (i % 64) ∙ no_more _ _ (ap (λ w. bit_at w (i % 64)) none ∙ bit_at-zero (i % 64)))
    ∙ ap (λ j. eqb (bit_at (get_or words j 0) (i % 64)) 1) (sym here))
    (λ (away : i / 64 ≢ k). ap (λ w. eqb (bit_at w (i % 64)) 1) (get_or-set_other words k (i / 64) _ 0 away))
    (cases_eq (i / 64) k)
  where
    no_more : (a b : ℕ) → b ≡ 0 → max a b ≡ a
    no_more a b e = omega arith

-- a bit put in its place keeps those before it
put_before : (words : List ℕ) (n i : ℕ) (bit : Bool) → n / 64 < length words → i < n → word_bit (set words (n / 64) (bit_or (get_or words (n / 64) 0) (placed bit n))) i ≡ word_bit words i
put_before words n i true within l = word_bit-set words n i within ∙ sym (or_none _ _ (other_place n i (omega arith)))
put_before words n i false within l = same_word words (n / 64) i _ (omega arith) within

-- and it is set there where it was not before
put_there : (words : List ℕ) (n : ℕ) (bit : Bool) → n / 64 < length words → word_bit words n ≡ false → word_bit (set words (n / 64) (bit_or (get_or words (n / 64) 0) (placed bit n))) n ≡ bit
put_there words n true within unset = word_bit-set words n n within ∙ sym (or_some _ _ (same_place n n refl))
put_there words n false within unset = same_word words (n / 64) n _ (omega arith) within ∙ unset

-- the bits with one more put behind them
pub bits_put : (words : List ℕ) (n : ℕ) (bit : Bool) → HoldsBits (n + 1) words → word_bit words n ≡ false → bits_of (n + 1) (set words (n / 64) (bit_or (get_or words (n / 64) 0) (placed bit n))) ≡ bits_of n words ++ bit ∷ []
bits_put words n bit h unset =
    let long = h.count in
    let within : n / 64 < length words = omega (arith, long) in
    bits_of-more n words _ bit (λ i l. put_before words n i bit within l) (put_there words n bit within unset)

-- a bit in its place reaches no further
placed_fits : (bit : Bool) (n : ℕ) → placed bit n < 2 ^ (n % 64 + 1)
placed_fits true n =
    let small : n % 64 < 64 = omega arith in
    let next : n % 64 + 1 ≡ suc (n % 64) = omega arith in
    rw (one_shl (n % 64) 64 small, next, pow-suc 2 (n % 64)) (omega (arith, pow_pos (n % 64)))
placed_fits false n = zero_fits _ _ (omega arith)

-- one more word at one place
word_fits : (words : List ℕ) (n k : ℕ) (bit : Bool) → HoldsBits (n + 1) words → get_or (set words (n / 64) (bit_or (get_or words (n / 64) 0) (placed bit n))) k 0 < 2 ^ min 64 (n + 1 - 64 * k)
word_fits words n k bit h =
    let long = h.count in
    ⊎_elim
    (λ (here : k ≡ n / 64).
    let reach : min 64 (n + 1 - 64 * k) ≡ n % 64 + 1 = omega (arith, here) in
    let word : get_or words (n / 64) 0 < 2 ^ (n % 64 + 1) = rw (← reach, ← here) (h.clear k) in
    rw (reach, here, get_or-set_same words (n / 64) _ 0 (omega (arith, long))) (or_lt (n % 64 + 1) (get_or words (n / 64) 0) (placed bit n) word (placed_fits bit n)))
    (λ (away : k ≢ n / 64). rw (get_or-set_other words (n / 64) k (bit_or (get_or words (n / 64) 0) (placed bit n)) 0 away) (h.clear k))
    (cases_eq k (n / 64))

-- the words hold it
pub holds_put : (words : List ℕ) (n : ℕ) (bit : Bool) → HoldsBits (n + 1) words → HoldsBits (n + 1) (set words (n / 64) (bit_or (get_or words (n / 64) 0) (placed bit n)))
holds_put words n bit h = record { count = length-set words (n / 64) _ ∙ h.count; clear = λ k. word_fits words n k bit h }
