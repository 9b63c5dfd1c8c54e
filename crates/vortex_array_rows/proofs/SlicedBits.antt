-- Parts of a list of bits, by words that begin at any place.
use Rattle.std.proofs.Common.{ℕ, ◌+◌, ◌-◌, ◌*◌, ◌/◌, ◌%◌, ◌^◌, ◌<◌, ◌≤◌, ◌≡◌, Bool, false, cond, List, [], ◌∷◌, ◌++◌, length, get_or, take, drop, sym, ap, ◌∙◌, arith, length-take, length-drop, lt_of_lt_of_le, ⊎_elim}
use Rattle.std.proofs.Math.Pow.{pow_mono}
use Rattle.std.specs.Int.{bit_at}
use Rattle.std.specs.Simd.Lanes.{mask_l}
use Rattle.std.proofs.lemmas.Bool.{cases_lt}
use Rattle.std.proofs.lemmas.Simd.{mask_l-lt, bit_mask_l}
use Rattle.std.proofs.lemmas.Nat.Bits.{bit_at_cat_low, bit_at_cat_high, same_from_bits_below}
use Rattle.std.proofs.lemmas.List.{ext_get_or, drop-drop, get_or-drop, get_or-take, take_more}
use Rattle.vortex_buffer.specs.Bits.{bits_of, word_of, words_of, words_for}
use Rattle.vortex_buffer.proofs.Bits.{bit_at-word_of, bits_of-take, get_or-bits_of, length-bits_of, word_of-lt}
use Rattle.vortex_buffer.proofs.WordLaws.{bits_of-words_of, get_or-words_of, length-words_of}
use Rattle.vortex_array_rows.proofs.KeptWords.{shifted_bit}
use Rattle.vortex_array_rows.proofs.PackedBits.{word_spells}

-- 64 bits spell a word
spelled_fits : (bits : List Bool) (place : ℕ) → mask_l (take 64 (drop place bits)) < 2 ^ 64
spelled_fits bits place =
    let few : length (take 64 (drop place bits)) ≤ 64 = omega (arith, length-take 64 (drop place bits)) in
    lt_of_lt_of_le (mask_l-lt (take 64 (drop place bits))) (pow_mono few)

-- a bit of the low half of a number is a bit of the number
low_bit : (n i : ℕ) → i < 64 → bit_at (n % 2 ^ 64) i ≡ bit_at n i
low_bit n i h =
    let parts : n / 2 ^ 64 * 2 ^ 64 + n % 2 ^ 64 ≡ n = omega arith in
    sym (bit_at_cat_low (n / 2 ^ 64) 64 (n % 2 ^ 64) i h) ∙ ap (λ m. bit_at m i) parts

-- a bit of two words in a row is a bit of the list
bit_of_two : (bits : List Bool) (k i : ℕ) → i < 128 → bit_at (word_of bits (k + 1) * 2 ^ 64 + word_of bits k) i ≡ cond (get_or bits (64 * k + i) false) 1 0
bit_of_two bits k i h =
    ⊎_elim
    (λ (low : i < 64). bit_at_cat_low (word_of bits (k + 1)) 64 (word_of bits k) i low ∙ bit_at-word_of bits k i low)
    (λ (high : 64 ≤ i).
    let at : 64 * (k + 1) + (i - 64) ≡ 64 * k + i = omega arith in
    bit_at_cat_high (word_of bits (k + 1)) 64 (word_of bits k) i (word_of-lt bits k) high
    ∙ bit_at-word_of bits (k + 1) (i - 64) (omega arith)
    ∙ ap (λ m. cond (get_or bits m false) 1 0) at)
    (cases_lt i 64)

-- the word from a place on is cut out of the two words that it stands in
pub word_between : (bits : List Bool) (place : ℕ) → (word_of bits (place / 64 + 1) * 2 ^ 64 + word_of bits (place / 64)) / 2 ^ (place % 64) % 2 ^ 64 ≡ mask_l (take 64 (drop place bits))
word_between bits place =
    let k = place / 64 in
    let shift = place % 64 in
    let two = word_of bits (place / 64 + 1) * 2 ^ 64 + word_of bits (place / 64) in
    same_from_bits_below 64 (two / 2 ^ shift % 2 ^ 64) (mask_l (take 64 (drop place bits))) (omega arith) (spelled_fits bits place)
    (λ i l.
    let at : 64 * (place / 64) + (place % 64 + i) ≡ place + i = omega arith in
    low_bit (two / 2 ^ shift) i l
    ∙ shifted_bit two shift i
    ∙ bit_of_two bits k (shift + i) (omega arith)
    ∙ ap (λ m. cond (get_or bits m false) 1 0) at
    ∙ sym (bit_mask_l (take 64 (drop place bits)) i ∙ ap (λ b. cond b 1 0) (get_or-take 64 (drop place bits) i false l ∙ get_or-drop place bits i false)))

-- one more word of the bits from a place on
pub words_step : (bits : List Bool) (start k word : ℕ) (words now : List ℕ) → start + 64 * k < length bits → word ≡ mask_l (take 64 (drop (start + 64 * k) bits)) → words ≡ take k (words_of (drop start bits)) → now ≡ words ++ word ∷ [] → now ≡ take (k + 1) (words_of (drop start bits))
words_step bits start k word words now within is so_far pushed =
    let inside : k < length (words_of (drop start bits)) = omega (arith, length-words_of (drop start bits), length-drop start bits, within) in
    let next : word ≡ get_or (words_of (drop start bits)) k 0 =
    is ∙ ap (λ xs. mask_l (take 64 xs)) (sym (drop-drop (64 * k) start bits)) ∙ sym (word_spells (drop start bits) k) ∙ sym (get_or-words_of (drop start bits) k)
    in
    pushed ∙ ap (λ ws. ws ++ word ∷ []) so_far ∙ ap (λ w. take k (words_of (drop start bits)) ++ w ∷ []) next ∙ sym (take_more (words_of (drop start bits)) k 0 inside)

-- the first bits of a list, read from its words
first_bits : (n : ℕ) (bits : List Bool) → n ≤ length bits → bits_of n (words_of bits) ≡ take n bits
first_bits n bits within =
    ext_get_or false (bits_of n (words_of bits)) (take n bits) (omega (arith, length-bits_of n (words_of bits), length-take n bits, within))
    (λ i l.
    let inside : i < n = omega (arith, length-bits_of n (words_of bits), l) in
    get_or-bits_of n (words_of bits) i inside
    ∙ sym (get_or-bits_of (length bits) (words_of bits) i (omega (arith, inside, within)))
    ∙ ap (λ bs. get_or bs i false) (bits_of-words_of bits)
    ∙ sym (get_or-take n bits i false inside))

-- a part of a list of bits, read from its words
pub part_of_words : (bits : List Bool) (start end n count : ℕ) (words : List ℕ) → start ≤ end → end ≤ length bits → n ≡ end - start → count ≡ words_for n → words ≡ take count (words_of (drop start bits)) → (n ≤ length words * 64) × (bits_of n words ≡ take (end - start) (drop start bits))
part_of_words bits start end n count words order within long counted is =
    let some = length-take count (words_of (drop start bits)) in
    let room = length-words_of (drop start bits) in (
      omega (arith, ap length is, some, room, length-drop start bits, counted, long),
      ap (bits_of n) (is ∙ ap (λ m. take m (words_of (drop start bits))) counted)
          ∙ bits_of-take n (words_of (drop start bits))
          ∙ first_bits n (drop start bits) (omega (arith, length-drop start bits, long))
          ∙ ap (λ m. take m (drop start bits)) long,
    )
