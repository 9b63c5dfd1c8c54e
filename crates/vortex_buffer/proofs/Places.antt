use Rattle.std.proofs.Common.{ℕ, ◌+◌, ◌*◌, ◌/◌, ◌%◌, ◌^◌, ◌<◌, ◌≡◌, ◌≢◌, Bool, true, false, ◌||◌, List, [], eqb, length, get_or, take, set, replicate, refl, sym, ap, ◌∙◌, arith, ⊎_elim}
use Rattle.std.specs.List.{list_any}
use Rattle.std.specs.Int.RustNames.{bit_or}
use Rattle.std.specs.Int.{bit_at, w64}
use Rattle.std.proofs.lemmas.List.{get_or-set_same, get_or-set_other, get_or-replicate, ext_get_or, length-replicate}
use Rattle.std.proofs.lemmas.List.FromFn.{length-map-range_with_len, get_or-map-range_with_len}
use Rattle.std.proofs.lemmas.List.Folds.{list_any_more}
use Rattle.std.proofs.lemmas.Nat.Bits.{bit_at_set_same, bit_at_set_other}
use Rattle.std.proofs.lemmas.Bool.{cases_eq}
use Rattle.vortex_buffer.specs.Bits.{word_bit, bits_of}
use Rattle.vortex_buffer.specs.Mask.{bits_at}
use Rattle.vortex_buffer.proofs.Bits.{length-bits_of, get_or-bits_of}

-- the bits at places are as many as asked for
pub length-bits_at : (n : ℕ) (places : List ℕ) → length (bits_at n places) ≡ n
unfolding bits_at
length-bits_at n places = length-map-range_with_len (λ i. list_any (λ place. eqb place i) places) 0 n

-- bit i of the bits at places
pub get_or-bits_at : (n : ℕ) (places : List ℕ) (i : ℕ) → i < n → get_or (bits_at n places) i false ≡ list_any (λ place. eqb place i) places
unfolding bits_at
get_or-bits_at n places i h = get_or-map-range_with_len (λ j. list_any (λ place. eqb place j) places) 0 n i i false h (omega arith)

-- at no places no bit is set
pub bits_at-none : (n : ℕ) → bits_at n [] ≡ replicate n false
unfolding bits_at
bits_at-none n =
    ext_get_or false (bits_at n []) (replicate n false) (length-bits_at n [] ∙ sym (length-replicate n false))
    (λ i h. let l : i < n = omega (arith, length-bits_at n [], h) in get_or-bits_at n [] i l ∙ sym (get_or-replicate n i false false l))

-- or with a truth that does not hold
pub or_none : (b c : Bool) → c ≡ false → b ≡ (b || c)
or_none true c e = refl
or_none false c e = sym e

-- or with a truth that holds
pub or_some : (b c : Bool) → c ≡ true → true ≡ (b || c)
or_some true c e = refl
or_some false c e = sym e

-- the test that finds a place
pub same_place : (p i : ℕ) → p ≡ i → eqb p i ≡ true
same_place p i e = grind arith

-- the test that passes a place over
pub other_place : (p i : ℕ) → p ≢ i → eqb p i ≡ false
other_place p i e = grind arith

-- one bit set in its word: that bit is set, and all others stay
pub word_bit-set : (words : List ℕ) (p i : ℕ) → p / 64 < length words → word_bit (set words (p / 64) (bit_or (get_or words (p / 64) 0) (1 * 2 ^ (p % 64) % 2 ^ 64))) i ≡ (word_bit words i || eqb p i)
word_bit-set words p i within =
    let small : p % 64 < 64 = omega arith in
    ⊎_elim
    (λ (here : i / 64 ≡ p / 64).
    ap (λ w. eqb (bit_at w (i % 64)) 1) (ap (λ k. get_or (set words (p / 64) (bit_or (get_or words (p / 64) 0) (1 * 2 ^ (p % 64) % 2 ^ 64))) k 0) here ∙ get_or-set_same words (p / 64) _ 0 within)
    ∙ ⊎_elim
    (λ (bit : i % 64 ≡ p % 64).
    ap (λ b. eqb b 1) (ap (bit_at (bit_or (get_or words (p / 64) 0) (1 * 2 ^ (p % 64) % 2 ^ 64))) bit ∙ bit_at_set_same w64 (get_or words (p / 64) 0) (p % 64) small)
    ∙ or_some _ _ (same_place p i (omega arith)))
    (λ (bit : i % 64 ≢ p % 64).
    ap (λ b. eqb b 1) (bit_at_set_other w64 (get_or words (p / 64) 0) (p % 64) small (i % 64) bit)
    ∙ ap (λ k. eqb (bit_at (get_or words k 0) (i % 64)) 1) (sym here)
    ∙ or_none _ _ (other_place p i (λ e. bit (ap (λ n. n % 64) (sym e)))))
    (cases_eq (i % 64) (p % 64)))
    (λ (away : i / 64 ≢ p / 64).
    ap (λ w. eqb (bit_at w (i % 64)) 1) (get_or-set_other words (p / 64) (i / 64) _ 0 away)
    ∙ or_none _ _ (other_place p i (λ e. away (ap (λ n. n / 64) (sym e)))))
    (cases_eq (i / 64) (p / 64))

-- one more place, at one bit
more_bit : (n : ℕ) (words places : List ℕ) (k p i : ℕ) → p / 64 < length words → k < length places → p ≡ get_or places k 0 → bits_of n words ≡ bits_at n (take k places) → i < n → get_or (bits_of n (set words (p / 64) (bit_or (get_or words (p / 64) 0) (1 * 2 ^ (p % 64) % 2 ^ 64)))) i false ≡ get_or (bits_at n (take (k + 1) places)) i false
more_bit n words places k p i within inside read so_far l =
    get_or-bits_of n _ i l
    ∙ word_bit-set words p i within
    ∙ ap (λ b. b || eqb p i) (sym (get_or-bits_of n words i l) ∙ ap (λ bs. get_or bs i false) so_far ∙ get_or-bits_at n (take k places) i l)
    ∙ ap (λ q. list_any (λ place. eqb place i) (take k places) || eqb q i) read
    ∙ sym (list_any_more (λ place. eqb place i) places k 0 inside)
    ∙ sym (get_or-bits_at n (take (k + 1) places) i l)

-- one more place
pub place_more : (n : ℕ) (words places : List ℕ) (k p : ℕ) → p / 64 < length words → k < length places → p ≡ get_or places k 0 → bits_of n words ≡ bits_at n (take k places) → bits_of n (set words (p / 64) (bit_or (get_or words (p / 64) 0) (1 * 2 ^ (p % 64) % 2 ^ 64))) ≡ bits_at n (take (k + 1) places)
place_more n words places k p within inside read so_far =
    ext_get_or false (bits_of n (set words (p / 64) (bit_or (get_or words (p / 64) 0) (1 * 2 ^ (p % 64) % 2 ^ 64)))) (bits_at n (take (k + 1) places))
    (length-bits_of n _ ∙ sym (length-bits_at n (take (k + 1) places)))
    (λ i h. more_bit n words places k p i within inside read so_far (omega (arith, length-bits_of n (set words (p / 64) (bit_or (get_or words (p / 64) 0) (1 * 2 ^ (p % 64) % 2 ^ 64))), h)))
