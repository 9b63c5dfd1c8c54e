use Rattle.std.proofs.Common.{ℕ, zero, suc, ◌+◌, ◌-◌, ◌*◌, ◌^◌, ◌<◌, ◌≤◌, ◌≡◌, Bool, true, false, ◌&&◌, ◌||◌, not, cond, List, [], ◌∷◌, ◌++◌, length, get_or, take, drop, map, min, max, refl, sym, ap, ◌∙◌, arith, length-take, length-drop, length-append, ⊎_elim}
use Rattle.std.specs.Int.{bit_at, bit_not, w64}
use Rattle.std.specs.Prelude.{bit_and, bit_or, count_ones}
use Rattle.std.specs.List.{count_by, sum_by}
use Rattle.std.specs.Simd.Lanes.{mask_l, zip2}
use Rattle.std.proofs.lemmas.Simd.{mask_l-lt, get_or-zip2, length-zip2}
use Rattle.std.proofs.lemmas.List.{get_or-take, get_or-drop, get_or_past, get_or_append_left, get_or-append-add, get_or-map, ext_get_or, take_more, take_all}
use Rattle.std.proofs.lemmas.List.FromFn.{length-map-range_with_len, get_or-map-range_with_len}
use Rattle.std.proofs.lemmas.List.Sums.{sum_by-append, sum_by-cons}
use Rattle.std.proofs.lemmas.Nat.Bits.{same_from_bits_below, bit_at_and, bit_at_or, bit_at-zero, bit_at_not}
use Rattle.std.proofs.lemmas.Nat.{and_le_l, or_lt, pow_pos}
use Rattle.std.proofs.Math.Pow.{pow_mono}
use Rattle.std.proofs.Common.{lt_of_lt_of_le}
use Rattle.std.proofs.lemmas.Bool.{cases_lt}
use Rattle.vortex_buffer.specs.Bits.{word_of, words_of, words_for, bits_of, HoldsBits}
use Rattle.vortex_buffer.proofs.Bits.{bit_at-word_of, word_of-lt, word_of-bits_of, length-bits_of, same_bits, count-more}

-- a word is 64 bits of its list: lists that agree there have the same word there
pub word_of-agrees : (xs ys : List Bool) (k j : ℕ) → ((i : ℕ) → i < 64 → get_or xs (64 * k + i) false ≡ get_or ys (64 * j + i) false) → word_of xs k ≡ word_of ys j
word_of-agrees xs ys k j h = same_from_bits_below 64 (word_of xs k) (word_of ys j) (word_of-lt xs k) (word_of-lt ys j) (λ i l. bit_at-word_of xs k i l ∙ ap (λ b. cond b 1 0) (h i l) ∙ sym (bit_at-word_of ys j i l))

-- how many words a list of bits takes
pub length-words_of : (bits : List Bool) → length (words_of bits) ≡ words_for (length bits)
unfolding words_of
length-words_of bits = length-map-range_with_len (λ k. word_of bits k) 0 (words_for (length bits))

-- past its end a list of bits has only words of 0
pub word_of-past : (bits : List Bool) (k : ℕ) → length bits ≤ 64 * k → word_of bits k ≡ 0
word_of-past bits k h = same_from_bits_below 64 (word_of bits k) 0 (word_of-lt bits k) (pow_pos 64) (λ i l. bit_at-word_of bits k i l ∙ ap (λ b. cond b 1 0) (get_or_past bits (64 * k + i) false (omega arith)) ∙ sym (bit_at-zero i))

-- word k of the words of a list of bits, and 0 past their end
pub get_or-words_of : (bits : List Bool) (k : ℕ) → get_or (words_of bits) k 0 ≡ word_of bits k
unfolding words_of
get_or-words_of bits k =
    ⊎_elim
    (λ (inside : k < words_for (length bits)). get_or-map-range_with_len (λ j. word_of bits j) 0 (words_for (length bits)) k k 0 inside (omega arith))
    (λ (past : words_for (length bits) ≤ k). get_or_past (words_of bits) k 0 (omega (arith, length-words_of bits, past)) ∙ sym (word_of-past bits k (omega arith)))
    (cases_lt k (words_for (length bits)))

-- lists of words of one length with the same words are equal
same_words : (xs ys : List ℕ) → length xs ≡ length ys → ((k : ℕ) → k < length xs → get_or xs k 0 ≡ get_or ys k 0) → xs ≡ ys
same_words xs ys e h = ext_get_or 0 xs ys e h

-- words that hold n bits are the words of those bits
pub words_of-bits_of : (n : ℕ) (words : List ℕ) → HoldsBits n words → words_of (bits_of n words) ≡ words
words_of-bits_of n words h =
    same_words (words_of (bits_of n words)) words (length-words_of (bits_of n words) ∙ ap words_for (length-bits_of n words) ∙ sym h.count)
    (λ k l. get_or-words_of (bits_of n words) k ∙ word_of-bits_of n words k h)

-- a word is below the power of two that its bits reach
word_of-clear : (bits : List Bool) (k : ℕ) → word_of bits k < 2 ^ min 64 (length bits - 64 * k)
unfolding word_of
word_of-clear bits k =
    let reach : length (take 64 (drop (64 * k) bits)) ≤ min 64 (length bits - 64 * k) = omega (arith, length-take 64 (drop (64 * k) bits), length-drop (64 * k) bits) in
    lt_of_lt_of_le (mask_l-lt (take 64 (drop (64 * k) bits))) (pow_mono reach)

-- the words of a list of bits hold them, and spare bits are 0
pub holds-words_of : (bits : List Bool) → HoldsBits (length bits) (words_of bits)
holds-words_of bits = record {
  count = length-words_of bits;
  clear = λ k. rw get_or-words_of (word_of-clear bits k);
}

-- reading the words of a list of bits gives it back
pub bits_of-words_of : (bits : List Bool) → bits_of (length bits) (words_of bits) ≡ bits
bits_of-words_of bits =
    same_bits (bits_of (length bits) (words_of bits)) bits (length-bits_of (length bits) (words_of bits))
    (λ k. word_of-bits_of (length bits) (words_of bits) k (holds-words_of bits) ∙ get_or-words_of bits k)

-- append: the first of two lists is a whole number of words, and keeps its words
pub word_of-append_left : (xs ys : List Bool) (n k : ℕ) → length xs ≡ 64 * n → k < n → word_of (xs ++ ys) k ≡ word_of xs k
word_of-append_left xs ys n k long h = word_of-agrees (xs ++ ys) xs k k (λ i l. get_or_append_left xs ys false (64 * k + i) (omega arith))

-- append: after a whole number of words come the words of the second list
pub word_of-append_right : (xs ys : List Bool) (n k : ℕ) → length xs ≡ 64 * n → word_of (xs ++ ys) (n + k) ≡ word_of ys k
word_of-append_right xs ys n k long =
    word_of-agrees (xs ++ ys) ys (n + k) k
    (λ i l. let at : 64 * (n + k) + i ≡ length xs + (64 * k + i) = omega arith in ap (λ m. get_or (xs ++ ys) m false) at ∙ get_or-append-add xs ys (64 * k + i) false)

-- append: where the first list is a whole number of words, the words are joined too
pub words_of-append : (xs ys : List Bool) (n : ℕ) → length xs ≡ 64 * n → words_of (xs ++ ys) ≡ words_of xs ++ words_of ys
words_of-append xs ys n long =
    let first : length (words_of xs) ≡ n = omega (arith, length-words_of xs, long) in
    same_words (words_of (xs ++ ys)) (words_of xs ++ words_of ys)
    (omega (arith, length-words_of (xs ++ ys), length-append xs ys, length-append (words_of xs) (words_of ys), length-words_of ys, first, long))
    (λ k l.
    get_or-words_of (xs ++ ys) k
    ∙ ⊎_elim
    (λ (left : k < n). word_of-append_left xs ys n k long left ∙ sym (get_or-words_of xs k) ∙ sym (get_or_append_left (words_of xs) (words_of ys) 0 k (rw first left)))
    (λ (right : n ≤ k).
    let at : n + (k - n) ≡ k = omega arith in
    let place : length (words_of xs) + (k - n) ≡ k = omega arith in
    ap (word_of (xs ++ ys)) (sym at)
    ∙ word_of-append_right xs ys n (k - n) long
    ∙ sym (get_or-words_of ys (k - n))
    ∙ sym (get_or-append-add (words_of xs) (words_of ys) (k - n) 0)
    ∙ ap (λ m. get_or (words_of xs ++ words_of ys) m 0) place)
    (cases_lt k n))

-- at most 64 bits have one word
pub words_of-one : (bits : List Bool) → 0 < length bits → length bits ≤ 64 → words_of bits ≡ mask_l bits ∷ []
unfolding word_of
words_of-one bits some small =
    same_words (words_of bits) (mask_l bits ∷ []) (omega (arith, length-words_of bits))
    (λ k l.
    let first : k ≡ 0 = omega (arith, length-words_of bits, l) in
    ap (λ j. get_or (words_of bits) j 0) first ∙ get_or-words_of bits 0 ∙ ap mask_l (take_all 64 bits small) ∙ ap (λ j. get_or (mask_l bits ∷ []) j 0) (sym first))

-- take: the words of the first bits, as many as whole words hold, are the first words
pub words_of-take : (bits : List Bool) (n : ℕ) → words_of (take (64 * n) bits) ≡ take n (words_of bits)
words_of-take bits n =
    same_words (words_of (take (64 * n) bits)) (take n (words_of bits))
    (omega (arith, length-words_of (take (64 * n) bits), length-take (64 * n) bits, length-take n (words_of bits), length-words_of bits))
    (λ k l.
    let inside : k < n = omega (arith, length-words_of (take (64 * n) bits), length-take (64 * n) bits, l) in
    get_or-words_of (take (64 * n) bits) k
    ∙ word_of-agrees (take (64 * n) bits) bits k k (λ i h. get_or-take (64 * n) bits (64 * k + i) false (omega arith))
    ∙ sym (get_or-words_of bits k)
    ∙ sym (get_or-take n (words_of bits) k 0 inside))

-- drop: the words of the bits after whole words are the words after those
pub words_of-drop : (bits : List Bool) (n : ℕ) → words_of (drop (64 * n) bits) ≡ drop n (words_of bits)
words_of-drop bits n =
    same_words (words_of (drop (64 * n) bits)) (drop n (words_of bits))
    (omega (arith, length-words_of (drop (64 * n) bits), length-drop (64 * n) bits, length-drop n (words_of bits), length-words_of bits))
    (λ k l.
    get_or-words_of (drop (64 * n) bits) k
    ∙ word_of-agrees (drop (64 * n) bits) bits k (n + k)
    (λ i h. let at : 64 * n + (64 * k + i) ≡ 64 * (n + k) + i = omega arith in get_or-drop (64 * n) bits (64 * k + i) false ∙ ap (λ m. get_or bits m false) at)
    ∙ sym (get_or-words_of bits (n + k))
    ∙ sym (get_or-drop n (words_of bits) k 0))

-- a sum of one number
last_sum : (m n : ℕ) → m ≡ n + 0 → m ≡ n
last_sum m n e = omega arith

-- the set bits of the first k words
count-first : (bits : List Bool) (k : ℕ) → k ≤ words_for (length bits) → count_by (λ b. b) (take (64 * k) bits) ≡ sum_by count_ones (take k (words_of bits))
count-first bits zero h = refl
count-first bits (suc k) h =
    let inside : k < length (words_of bits) = omega (arith, length-words_of bits, h) in
    let next : suc k ≡ k + 1 = omega arith in
    count-more bits k (suc k) next
    ∙ ap (λ m. m + count_ones (word_of bits k)) (count-first bits k (omega arith))
    ∙ sym (ap (λ m. sum_by count_ones (take m (words_of bits))) next
    ∙ ap (sum_by count_ones) (take_more (words_of bits) k 0 inside)
    ∙ sum_by-append count_ones (take k (words_of bits)) (get_or (words_of bits) k 0 ∷ [])
    ∙ ap (λ m. sum_by count_ones (take k (words_of bits)) + m) (last_sum _ _ (sum_by-cons count_ones (get_or (words_of bits) k 0) []) ∙ ap count_ones (get_or-words_of bits k)))

-- count: the set bits of a list are those of its words
pub count-words_of : (bits : List Bool) → count_by (λ b. b) bits ≡ sum_by count_ones (words_of bits)
count-words_of bits =
    let n = words_for (length bits) in
    ap (count_by (λ b. b)) (sym (take_all (64 * n) bits (omega arith)))
    ∙ count-first bits n (omega arith)
    ∙ ap (sum_by count_ones) (take_all n (words_of bits) (omega (arith, length-words_of bits)))

-- two lists joined bit by bit, at one bit, past the end too
zip_at : (g : Bool → Bool → Bool) → g false false ≡ false → (xs ys : List Bool) (i : ℕ) → length xs ≡ length ys → get_or (zip2 g xs ys) i false ≡ g (get_or xs i false) (get_or ys i false)
zip_at g none xs ys i same =
    ⊎_elim
    (λ (inside : i < length xs). get_or-zip2 g xs ys i false false false inside (omega (arith, same, inside)))
    (λ (past : length xs ≤ i).
    get_or_past (zip2 g xs ys) i false (omega (arith, length-zip2 g xs ys same, past))
    ∙ sym (ap (λ b. g b (get_or ys i false)) (get_or_past xs i false past) ∙ ap (g false) (get_or_past ys i false (omega (arith, same, past))) ∙ none))
    (cases_lt i (length xs))

-- and as the lesser of two bits
both_set : (a b : Bool) → cond {A = ℕ} (a && b) 1 0 ≡ min (cond a 1 0) (cond b 1 0)
both_set true true = refl
both_set true false = refl
both_set false true = refl
both_set false false = refl

-- or as the greater of two bits
one_set : (a b : Bool) → cond {A = ℕ} (a || b) 1 0 ≡ max (cond a 1 0) (cond b 1 0)
one_set true true = refl
one_set true false = refl
one_set false true = refl
one_set false false = refl

-- and: word k of two lists joined bit by bit is the words k joined
pub word_of-and : (xs ys : List Bool) (k : ℕ) → length xs ≡ length ys → word_of (zip2 ◌&&◌ xs ys) k ≡ bit_and (word_of xs k) (word_of ys k)
word_of-and xs ys k same =
    same_from_bits_below 64 (word_of (zip2 ◌&&◌ xs ys) k) (bit_and (word_of xs k) (word_of ys k)) (word_of-lt _ k) (omega (arith, and_le_l (word_of xs k) (word_of ys k), word_of-lt xs k))
    (λ i l.
    bit_at-word_of (zip2 ◌&&◌ xs ys) k i l
    ∙ ap (λ b. cond b 1 0) (zip_at ◌&&◌ refl xs ys (64 * k + i) same)
    ∙ both_set (get_or xs (64 * k + i) false) (get_or ys (64 * k + i) false)
    ∙ ap (λ b. min b (cond (get_or ys (64 * k + i) false) 1 0)) (sym (bit_at-word_of xs k i l))
    ∙ ap (min (bit_at (word_of xs k) i)) (sym (bit_at-word_of ys k i l))
    ∙ sym (bit_at_and (word_of xs k) (word_of ys k) i))

-- or: word k of two lists joined bit by bit is the words k joined
pub word_of-or : (xs ys : List Bool) (k : ℕ) → length xs ≡ length ys → word_of (zip2 ◌||◌ xs ys) k ≡ bit_or (word_of xs k) (word_of ys k)
word_of-or xs ys k same =
    same_from_bits_below 64 (word_of (zip2 ◌||◌ xs ys) k) (bit_or (word_of xs k) (word_of ys k)) (word_of-lt _ k) (or_lt 64 (word_of xs k) (word_of ys k) (word_of-lt xs k) (word_of-lt ys k))
    (λ i l.
    bit_at-word_of (zip2 ◌||◌ xs ys) k i l
    ∙ ap (λ b. cond b 1 0) (zip_at ◌||◌ refl xs ys (64 * k + i) same)
    ∙ one_set (get_or xs (64 * k + i) false) (get_or ys (64 * k + i) false)
    ∙ ap (λ b. max b (cond (get_or ys (64 * k + i) false) 1 0)) (sym (bit_at-word_of xs k i l))
    ∙ ap (max (bit_at (word_of xs k) i)) (sym (bit_at-word_of ys k i l))
    ∙ sym (bit_at_or (word_of xs k) (word_of ys k) i))

-- not as 1 less a bit
flipped : (b : Bool) → cond {A = ℕ} (not b) 1 0 ≡ 1 - cond b 1 0
flipped true = refl
flipped false = refl

-- a word turned over has 64 bits
flipped_fits : (word : ℕ) → bit_not w64 word < 2 ^ 64
flipped_fits word = omega arith

-- not: word k of the bits turned over is word k turned over, where all 64 bits of it are bits of the list
pub word_of-not : (bits : List Bool) (k : ℕ) → 64 * k + 64 ≤ length bits → word_of (map not bits) k ≡ bit_not w64 (word_of bits k)
word_of-not bits k whole =
    same_from_bits_below 64 (word_of (map not bits) k) (bit_not w64 (word_of bits k)) (word_of-lt (map not bits) k) (flipped_fits (word_of bits k))
    (λ i l.
    let inside : 64 * k + i < length bits = omega arith in
    bit_at-word_of (map not bits) k i l
    ∙ ap (λ b. cond b 1 0) (get_or-map not bits (64 * k + i) false false inside)
    ∙ flipped (get_or bits (64 * k + i) false)
    ∙ ap (λ b. 1 - b) (sym (bit_at-word_of bits k i l))
    ∙ sym (bit_at_not w64 (word_of bits k) i (word_of-lt bits k) l))
