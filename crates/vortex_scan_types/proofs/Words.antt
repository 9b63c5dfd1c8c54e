-- Bits of words at the listed places, counted from a start.
use Rattle.std.proofs.Common.{ℕ, ◌+◌, ◌-◌, ◌*◌, ◌/◌, ◌%◌, ◌^◌, ◌<◌, ◌≤◌, ◌≡◌, ◌≢◌, Bool, true, false, not, ◌&&◌, ◌||◌, eqb, List, length, get_or, set, map, replicate, take, refl, sym, ap, ◌∙◌, arith, ⊎_elim}
use Rattle.std.specs.List.{list_any, range_with_len}
use Rattle.std.specs.Int.RustNames.{bit_or}
use Rattle.std.specs.Prelude.{bit_and}
use Rattle.std.specs.Int.{bit_at, bit_not, w64}
use Rattle.std.proofs.lemmas.List.{get_or-set_same, get_or-set_other, get_or-replicate, ext_get_or}
use Rattle.std.proofs.lemmas.List.FromFn.{length-map-range_with_len, get_or-map-range_with_len}
use Rattle.std.proofs.lemmas.List.Folds.{list_any_more}
use Rattle.std.proofs.lemmas.Nat.Bits.{bit_at_clear_same, bit_at_clear_other, bit_at_ones, bit_at-zero}
use Rattle.std.proofs.lemmas.Bool.{cases_eq}
use Rattle.vortex_buffer.specs.Bits.{word_bit, bits_of}
use Rattle.vortex_buffer.proofs.Bits.{length-bits_of, get_or-bits_of}
use Rattle.vortex_buffer.proofs.Places.{word_bit-set, same_place, other_place}

-- and with a truth, or with its opposite
and_all : (b c : Bool) → c ≡ false → b ≡ (b && not c)
and_all true c e = ap not (sym e)
and_all false c e = refl

and_none : (b c : Bool) → c ≡ true → false ≡ (b && not c)
and_none true c e = ap not (sym e)
and_none false c e = refl

-- one bit cleared in its word: that bit is not set, and all others stay
pub word_bit-clear : (words : List ℕ) (p i : ℕ) → p / 64 < length words → word_bit (set words (p / 64) (bit_and (get_or words (p / 64) 0) (bit_not w64 (1 * 2 ^ (p % 64) % 2 ^ 64)))) i ≡ (word_bit words i && not (eqb p i))
word_bit-clear words p i within =
    let small : p % 64 < 64 = omega arith in
    let low : i % 64 < 64 = omega arith in
    ⊎_elim
    (λ (here : i / 64 ≡ p / 64).
    ap (λ w. eqb (bit_at w (i % 64)) 1) (ap (λ k. get_or (set words (p / 64) (bit_and (get_or words (p / 64) 0) (bit_not w64 (1 * 2 ^ (p % 64) % 2 ^ 64)))) k 0) here ∙ get_or-set_same words (p / 64) _ 0 within)
    ∙ ⊎_elim
    (λ (bit : i % 64 ≡ p % 64).
    ap (λ b. eqb b 1) (ap (bit_at (bit_and (get_or words (p / 64) 0) (bit_not w64 (1 * 2 ^ (p % 64) % 2 ^ 64)))) bit ∙ bit_at_clear_same w64 (get_or words (p / 64) 0) (p % 64) small)
    ∙ and_none _ _ (same_place p i (omega arith)))
    (λ (bit : i % 64 ≢ p % 64).
    ap (λ b. eqb b 1) (bit_at_clear_other w64 (get_or words (p / 64) 0) (p % 64) small (i % 64) low bit)
    ∙ ap (λ k. eqb (bit_at (get_or words k 0) (i % 64)) 1) (sym here)
    ∙ and_all _ _ (other_place p i (λ e. bit (ap (λ n. n % 64) (sym e)))))
    (cases_eq (i % 64) (p % 64)))
    (λ (away : i / 64 ≢ p / 64).
    ap (λ w. eqb (bit_at w (i % 64)) 1) (get_or-set_other words (p / 64) (i / 64) _ 0 away)
    ∙ and_all _ _ (other_place p i (λ e. away (ap (λ n. n / 64) (sym e)))))
    (cases_eq (i / 64) (p / 64))

-- a place and the number of its bit name one another
pub same_bit : (start place i : ℕ) → start ≤ place → eqb (place - start) i ≡ eqb place (start + i)
same_bit start place i l = grind arith

-- a truth among three, grouped another way
or_assoc : (a b c : Bool) → ((a || b) || c) ≡ (a || (b || c))
or_assoc true b c = refl
or_assoc false b c = refl

not_both : (a b c : Bool) → ((a && not b) && not c) ≡ (a && not (b || c))
not_both true true c = refl
not_both true false c = refl
not_both false b c = refl

-- one more listed place set
pub set_one_more : (words olds listed : List ℕ) (start k place i : ℕ) → start ≤ place → (place - start) / 64 < length words → k < length listed → place ≡ get_or listed k 0 → word_bit words i ≡ (word_bit olds i || list_any (λ x. eqb x (start + i)) (take k listed)) → word_bit (set words ((place - start) / 64) (bit_or (get_or words ((place - start) / 64) 0) (1 * 2 ^ ((place - start) % 64) % 2 ^ 64))) i ≡ (word_bit olds i || list_any (λ x. eqb x (start + i)) (take (k + 1) listed))
set_one_more words olds listed start k place i from within inside read so_far =
    word_bit-set words (place - start) i within
    ∙ ap (λ b. b || eqb (place - start) i) so_far
    ∙ or_assoc (word_bit olds i) (list_any (λ x. eqb x (start + i)) (take k listed)) (eqb (place - start) i)
    ∙ ap (λ b. word_bit olds i || (list_any (λ x. eqb x (start + i)) (take k listed) || b)) (same_bit start place i from)
    ∙ ap (λ q. word_bit olds i || (list_any (λ x. eqb x (start + i)) (take k listed) || eqb q (start + i))) read
    ∙ ap (λ b. word_bit olds i || b) (sym (list_any_more (λ x. eqb x (start + i)) listed k 0 inside))

-- one more listed place cleared
pub clear_one_more : (words olds listed : List ℕ) (start k place i : ℕ) → start ≤ place → (place - start) / 64 < length words → k < length listed → place ≡ get_or listed k 0 → word_bit words i ≡ (word_bit olds i && not (list_any (λ x. eqb x (start + i)) (take k listed))) → word_bit (set words ((place - start) / 64) (bit_and (get_or words ((place - start) / 64) 0) (bit_not w64 (1 * 2 ^ ((place - start) % 64) % 2 ^ 64)))) i ≡ (word_bit olds i && not (list_any (λ x. eqb x (start + i)) (take (k + 1) listed)))
clear_one_more words olds listed start k place i from within inside read so_far =
    word_bit-clear words (place - start) i within
    ∙ ap (λ b. b && not (eqb (place - start) i)) so_far
    ∙ not_both (word_bit olds i) (list_any (λ x. eqb x (start + i)) (take k listed)) (eqb (place - start) i)
    ∙ ap (λ b. word_bit olds i && not (list_any (λ x. eqb x (start + i)) (take k listed) || b)) (same_bit start place i from)
    ∙ ap (λ q. word_bit olds i && not (list_any (λ x. eqb x (start + i)) (take k listed) || eqb q (start + i))) read
    ∙ ap (λ b. word_bit olds i && not b) (sym (list_any_more (λ x. eqb x (start + i)) listed k 0 inside))

-- words whose bits are the answers of a test
pub bits_of_test : (test : ℕ → Bool) (words : List ℕ) (start n : ℕ) → ((i : ℕ) → i < n → word_bit words i ≡ test (start + i)) → bits_of n words ≡ map test (range_with_len start n)
bits_of_test test words start n h =
    ext_get_or false (bits_of n words) (map test (range_with_len start n))
    (length-bits_of n words ∙ sym (length-map-range_with_len test start n))
    (λ i l. let m : i < n = omega (arith, length-bits_of n words, l) in get_or-bits_of n words i m ∙ h i m ∙ sym (get_or-map-range_with_len test start n i (start + i) false m refl))

-- words of which no bit is set, and of which each is
pub word_bit-none : (n i : ℕ) → i < 64 * n → word_bit (replicate n 0) i ≡ false
word_bit-none n i l =
    let m : i / 64 < n = omega arith in
    ap (λ w. eqb (bit_at w (i % 64)) 1) (get_or-replicate n (i / 64) 0 0 m) ∙ ap (λ b. eqb b 1) (bit_at-zero (i % 64))

pub word_bit-all : (n i : ℕ) → i < 64 * n → word_bit (replicate n (2 ^ 64 - 1)) i ≡ true
word_bit-all n i l =
    let m : i / 64 < n = omega arith in
    let low : i % 64 < 64 = omega arith in
    ap (λ w. eqb (bit_at w (i % 64)) 1) (get_or-replicate n (i / 64) (2 ^ 64 - 1) 0 m) ∙ ap (λ b. eqb b 1) (bit_at_ones 64 (i % 64) low)
