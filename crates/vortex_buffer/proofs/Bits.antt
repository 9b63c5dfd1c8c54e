use Rattle.std.proofs.Common.{ℕ, ◌+◌, ◌-◌, ◌*◌, ◌/◌, ◌%◌, ◌^◌, ◌<◌, ◌≤◌, ◌≡◌, Bool, true, false, not, ◌&&◌, ◌||◌, cond, eqb, List, [], ◌∷◌, ◌++◌, length, get_or, take, drop, map, min, max, set, ◌≢◌, refl, sym, ap, ◌∙◌, arith, length-take, ⊎_elim, lt_of_lt_of_le, replicate, zero, suc}
use Rattle.std.proofs.Math.Pow.{pow_mono}
use Rattle.std.specs.Int.{bit_at, div_ceil, bit_not, w64}
use Rattle.std.specs.Prelude.{bit_and, bit_or, count_by, count_ones}
use Rattle.std.specs.List.{zip}
use Rattle.std.specs.Simd.Lanes.{mask_l, zip2}
use Rattle.std.proofs.lemmas.Simd.{ones-mask_l, mask_l-lt, bit_mask_l, get_or-zip2, length-zip2}
use Rattle.std.proofs.lemmas.List.{length-map, get_or-map, map-id, take-append-drop, take-take, drop-take, get_or-set_same, get_or-set_other, get_or-take, get_or-drop, get_or_past, ext_get_or}
use Rattle.std.proofs.lemmas.List.FromFn.{length-map-range_with_len, get_or-map-range_with_len}
use Rattle.std.proofs.lemmas.Nat.Bits.{bit_at_ones, bit_at_not, same_from_bits_below, bit_at_above, bit_at_and, bit_at_or, bit_at-lt}
use Rattle.std.proofs.lemmas.List.Sums.{sum_by-append}
use Rattle.std.proofs.lemmas.Bool.{cases_lt, cases_eq}
use Rattle.std.proofs.lemmas.Nat.{pow_pos, and_le_l, or_lt}
use Rattle.vortex_buffer.specs.Bits.{word_bit, bits_of, word_of, words_for, HoldsBits}

-- the first n bits of words are n
pub length-bits_of : (n : ℕ) (ws : List ℕ) → length (bits_of n ws) ≡ n
unfolding bits_of
length-bits_of n ws = length-map-range_with_len (λ i. word_bit ws i) 0 n

-- bit i of the first n bits is bit i of the words
pub get_or-bits_of : (n : ℕ) (ws : List ℕ) (i : ℕ) → i < n → get_or (bits_of n ws) i false ≡ word_bit ws i
unfolding bits_of
get_or-bits_of n ws i h = get_or-map-range_with_len (λ j. word_bit ws j) 0 n i i false h (omega arith)

-- a bit as a number and back
bit_back : (b : ℕ) → b < 2 → cond (eqb b 1) 1 0 ≡ b
bit_back b h = grind arith

-- bit i of word k is bit 64 * k + i
word_bit_at : (ws : List ℕ) (k i : ℕ) → i < 64 → word_bit ws (64 * k + i) ≡ eqb (bit_at (get_or ws k 0) i) 1
word_bit_at ws k i h =
    let q : (64 * k + i) / 64 ≡ k = omega arith in
    let r : (64 * k + i) % 64 ≡ i = omega arith in
    rw (q, r) refl

-- bit i of word k of a list of bits
pub bit_at-word_of : (bs : List Bool) (k i : ℕ) → i < 64 → bit_at (word_of bs k) i ≡ cond (get_or bs (64 * k + i) false) 1 0
unfolding word_of
bit_at-word_of bs k i h =
    bit_mask_l (take 64 (drop (64 * k) bs)) i
    ∙ ap (λ b. cond b 1 0) (get_or-take 64 (drop (64 * k) bs) i false h ∙ get_or-drop (64 * k) bs i false)

-- bit i of word k, where the words hold n bits: past the end it is 0
word_bit_same : (n : ℕ) (ws : List ℕ) (k i : ℕ) → HoldsBits n ws → i < 64 → cond (get_or (bits_of n ws) (64 * k + i) false) 1 0 ≡ bit_at (get_or ws k 0) i
word_bit_same n ws k i h l =
    ⊎_elim
    (λ (inside : 64 * k + i < n).
    ap (λ b. cond b 1 0) (get_or-bits_of n ws (64 * k + i) inside ∙ word_bit_at ws k i l)
    ∙ bit_back (bit_at (get_or ws k 0) i) (bit_at-lt (get_or ws k 0) i))
    (λ (past : n ≤ 64 * k + i).
    ap (λ b. cond b 1 0) (get_or_past (bits_of n ws) (64 * k + i) false (omega (arith, length-bits_of n ws)))
    ∙ sym (bit_at_above (get_or ws k 0) (min 64 (n - 64 * k)) i (h.clear k) (omega arith)))
    (cases_lt (64 * k + i) n)

-- two truths that are one number are one truth
bit_inj : (a b : Bool) → cond {A = ℕ} a 1 0 ≡ cond {A = ℕ} b 1 0 → a ≡ b
bit_inj true true e = refl
bit_inj true false e = absurd (omega arith)
bit_inj false true e = absurd (omega arith)
bit_inj false false e = refl

-- lists of bits with the same words agree at each place
same_bit : (xs ys : List Bool) (i : ℕ) → word_of xs (i / 64) ≡ word_of ys (i / 64) → get_or xs i false ≡ get_or ys i false
same_bit xs ys i e =
    let at : 64 * (i / 64) + i % 64 ≡ i = omega arith in
    let within : i % 64 < 64 = omega arith in
    let x = bit_at-word_of xs (i / 64) (i % 64) within in
    let y = bit_at-word_of ys (i / 64) (i % 64) within in
    bit_inj _ _ (sym (rw at at x) ∙ ap (λ w. bit_at w (i % 64)) e ∙ rw at at y)

-- a word has 64 bits
pub word_of-lt : (bs : List Bool) (k : ℕ) → word_of bs k < 2 ^ 64
unfolding word_of
word_of-lt bs k =
    let m : mask_l (take 64 (drop (64 * k) bs)) < 2 ^ length (take 64 (drop (64 * k) bs)) = mask_l-lt _ in
    let l : length (take 64 (drop (64 * k) bs)) ≤ 64 = omega (arith, length-take 64 (drop (64 * k) bs)) in
    lt_of_lt_of_le m (pow_mono l)

-- the words of the bits of words that hold n bits are those words
pub word_of-bits_of : (n : ℕ) (ws : List ℕ) (k : ℕ) → HoldsBits n ws → word_of (bits_of n ws) k ≡ get_or ws k 0
word_of-bits_of n ws k h =
    same_from_bits_below 64 (word_of (bits_of n ws) k) (get_or ws k 0) (word_of-lt _ k) (lt_of_lt_of_le (h.clear k) (pow_mono {i = min 64 (n - 64 * k)} {j = 64} (omega arith)))
    (λ i l. bit_at-word_of (bits_of n ws) k i l ∙ word_bit_same n ws k i h l)

-- two lists of bits of one length with the same words are equal
pub same_bits : (xs ys : List Bool) → length xs ≡ length ys → ((k : ℕ) → word_of xs k ≡ word_of ys k) → xs ≡ ys
same_bits xs ys e h = ext_get_or false xs ys e (λ i l. same_bit xs ys i (h (i / 64)))

-- words that agree on the first n bits have the same n bits
pub bits_of-same : (n : ℕ) (xs ys : List ℕ) → ((i : ℕ) → i < n → word_bit xs i ≡ word_bit ys i) → bits_of n xs ≡ bits_of n ys
bits_of-same n xs ys h =
    ext_get_or false (bits_of n xs) (bits_of n ys) (length-bits_of n xs ∙ sym (length-bits_of n ys))
    (λ i l. get_or-bits_of n xs i (rw (← length-bits_of n xs) l) ∙ h i (rw (← length-bits_of n xs) l) ∙ sym (get_or-bits_of n ys i (rw (← length-bits_of n xs) l)))

-- the code's rounding up is the definition's
pub div_ceil-64 : (n : ℕ) → div_ceil n 64 ≡ words_for n
div_ceil-64 n = grind arith

-- 0 is below every power of two
zero_below : (w k : ℕ) → w ≡ 0 → w < 2 ^ k
zero_below w k e = rw e (pow_pos k)

-- where n bits fill their words, no bit is spare
clear_whole : (n : ℕ) (ws : List ℕ) → length ws ≡ words_for n → ((k : ℕ) → get_or ws k 0 < 2 ^ 64) → n % 64 ≡ 0 → (k : ℕ) → get_or ws k 0 < 2 ^ min 64 (n - 64 * k)
clear_whole n ws count fits whole k =
    ⊎_elim
    (λ (inside : k < length ws). let e : min 64 (n - 64 * k) ≡ 64 = omega arith in rw e (fits k))
    (λ (past : length ws ≤ k). zero_below _ _ (get_or_past ws k 0 past))
    (cases_lt k (length ws))

-- a bit joined with 1 stays
min_one : (b : ℕ) → b < 2 → min b 1 ≡ b
min_one b h = omega arith

-- the last word without its spare bits
cleared_bit : (n : ℕ) (ws : List ℕ) (m i : ℕ) → length ws ≡ words_for n → m ≡ 2 ^ (n % 64) - 1 → i < n → word_bit (set ws (n / 64) (bit_and (get_or ws (n / 64) 0) m)) i ≡ word_bit ws i
cleared_bit n ws m i count is l =
    ⊎_elim
    (λ (last : i / 64 ≡ n / 64).
    let r : i % 64 < n % 64 = omega arith in
    let w : n / 64 < length ws = omega arith in
    rw (last, get_or-set_same ws (n / 64) _ 0 w, bit_at_and, is, bit_at_ones (n % 64) (i % 64) r) (ap (λ b. eqb b 1) (min_one _ (bit_at-lt _ _))))
    (λ (other : i / 64 ≢ n / 64). rw (get_or-set_other ws (n / 64) (i / 64) (bit_and (get_or ws (n / 64) 0) m) 0 other) refl)
    (cases_eq (i / 64) (n / 64))

-- clearing the spare bits keeps the first n
pub bits_of-cleared : (n : ℕ) (ws : List ℕ) (m : ℕ) → length ws ≡ words_for n → m ≡ 2 ^ (n % 64) - 1 → bits_of n (set ws (n / 64) (bit_and (get_or ws (n / 64) 0) m)) ≡ bits_of n ws
bits_of-cleared n ws m count is = bits_of-same n _ ws (λ i l. cleared_bit n ws m i count is l)

-- words of which none is spare
pub holds_whole : (n : ℕ) (ws : List ℕ) → length ws ≡ words_for n → ((k : ℕ) → get_or ws k 0 < 2 ^ 64) → n % 64 ≡ 0 → HoldsBits n ws
holds_whole n ws count fits whole = record { count = count; clear = λ k. clear_whole n ws count fits whole k }

-- words past those of n bits do not count
pub bits_of-take : (n : ℕ) (ws : List ℕ) → bits_of n (take (words_for n) ws) ≡ bits_of n ws
bits_of-take n ws =
    bits_of-same n (take (words_for n) ws) ws
    (λ i l. let k : i / 64 < words_for n = omega arith in rw (get_or-take (words_for n) ws (i / 64) 0 k) refl)

-- joining two lists pair by pair is a map over the pairs
pub zip2_as_map : {A B C : Type 0} (f : A → B → C) (xs : List A) (ys : List B) → zip2 f xs ys ≡ map (λ p. f p.0 p.1) (zip xs ys)
zip2_as_map f [] ys = refl
zip2_as_map f (x ∷ xs) [] = refl
zip2_as_map f (x ∷ xs) (y ∷ ys) = ap (λ zs. f x y ∷ zs) (zip2_as_map f xs ys)

-- f on words does at each bit what g does on bits
pub record IsBitwise (f : ℕ → ℕ → ℕ) (g : Bool → Bool → Bool) : Type 0 where
  pub at : (a b i : ℕ) → eqb (bit_at (f a b) i) 1 ≡ g (eqb (bit_at a i) 1) (eqb (bit_at b i) 1)
  pub below : (a b k : ℕ) → a < 2 ^ k → b < 2 ^ k → f a b < 2 ^ k

-- bit i of words joined word by word
zip_bit : (f : ℕ → ℕ → ℕ) (g : Bool → Bool → Bool) → IsBitwise f g → (n : ℕ) (xs ys : List ℕ) → HoldsBits n xs → HoldsBits n ys → (i : ℕ) → i < n → get_or (bits_of n (zip2 f xs ys)) i false ≡ get_or (zip2 g (bits_of n xs) (bits_of n ys)) i false
zip_bit f g h n xs ys hx hy i l =
    let kx : i / 64 < length xs = omega (arith, hx.count) in
    let ky : i / 64 < length ys = omega (arith, hy.count) in
    let ix : i < length (bits_of n xs) = rw length-bits_of l in
    let iy : i < length (bits_of n ys) = rw length-bits_of l in
    get_or-bits_of n (zip2 f xs ys) i l
    ∙ ap (λ w. eqb (bit_at w (i % 64)) 1) (get_or-zip2 f xs ys (i / 64) 0 0 0 kx ky)
    ∙ h.at _ _ _
    ∙ ap (λ b. g b (word_bit ys i)) (sym (get_or-bits_of n xs i l))
    ∙ ap (λ b. g (get_or (bits_of n xs) i false) b) (sym (get_or-bits_of n ys i l))
    ∙ sym (get_or-zip2 g (bits_of n xs) (bits_of n ys) i false false false ix iy)

-- words joined word by word keep their spare bits 0
zip_clear : (f : ℕ → ℕ → ℕ) (g : Bool → Bool → Bool) → IsBitwise f g → (n : ℕ) (xs ys : List ℕ) → HoldsBits n xs → HoldsBits n ys → (k : ℕ) → get_or (zip2 f xs ys) k 0 < 2 ^ min 64 (n - 64 * k)
zip_clear f g h n xs ys hx hy k =
    let same : length xs ≡ length ys = hx.count ∙ sym hy.count in
    ⊎_elim
    (λ (inside : k < length xs). rw (get_or-zip2 f xs ys k 0 0 0 inside (rw (← same) inside)) (h.below _ _ _ (hx.clear k) (hy.clear k)))
    (λ (past : length xs ≤ k). zero_below _ _ (get_or_past (zip2 f xs ys) k 0 (rw (length-zip2 f xs ys same) past)))
    (cases_lt k (length xs))

-- joining word by word joins bit by bit
pub bits_of-zip2 : (f : ℕ → ℕ → ℕ) (g : Bool → Bool → Bool) → IsBitwise f g → (n : ℕ) (xs ys : List ℕ) → HoldsBits n xs → HoldsBits n ys → bits_of n (zip2 f xs ys) ≡ zip2 g (bits_of n xs) (bits_of n ys)
bits_of-zip2 f g h n xs ys hx hy =
    let lx = length-bits_of n xs in
    let ly = length-bits_of n ys in
    ext_get_or false (bits_of n (zip2 f xs ys)) (zip2 g (bits_of n xs) (bits_of n ys))
    (length-bits_of n (zip2 f xs ys) ∙ sym lx ∙ sym (length-zip2 g (bits_of n xs) (bits_of n ys) (lx ∙ sym ly)))
    (λ i l. zip_bit f g h n xs ys hx hy i (rw (← length-bits_of n (zip2 f xs ys)) l))

-- joining word by word keeps the length and the spare bits
pub holds-zip2 : (f : ℕ → ℕ → ℕ) (g : Bool → Bool → Bool) → IsBitwise f g → (n : ℕ) (xs ys : List ℕ) → HoldsBits n xs → HoldsBits n ys → HoldsBits n (zip2 f xs ys)
holds-zip2 f g h n xs ys hx hy =
    let same : length xs ≡ length ys = hx.count ∙ sym hy.count in
    record {
      count = length-zip2 f xs ys same ∙ hx.count;
      clear = λ k. zip_clear f g h n xs ys hx hy k;
    }

-- the lesser of two bits is set where both are
min_bits : (a b : ℕ) → a < 2 → b < 2 → eqb (min a b) 1 ≡ (eqb a 1 && eqb b 1)
min_bits a b p q = grind arith

-- the greater of two bits is set where one is
max_bits : (a b : ℕ) → a < 2 → b < 2 → eqb (max a b) 1 ≡ (eqb a 1 || eqb b 1)
max_bits a b p q = grind arith

-- 1 less a bit is set where the bit is not
flip_bit : (a : ℕ) → a < 2 → eqb (1 - a) 1 ≡ not (eqb a 1)
flip_bit a p = grind arith

-- and, at one bit
and_at : (a b i : ℕ) → eqb (bit_at (bit_and a b) i) 1 ≡ (eqb (bit_at a i) 1 && eqb (bit_at b i) 1)
and_at a b i = rw bit_at_and (min_bits _ _ (bit_at-lt a i) (bit_at-lt b i))

-- or, at one bit
or_at : (a b i : ℕ) → eqb (bit_at (bit_or a b) i) 1 ≡ (eqb (bit_at a i) 1 || eqb (bit_at b i) 1)
or_at a b i = rw bit_at_or (max_bits _ _ (bit_at-lt a i) (bit_at-lt b i))

-- not, at one bit
not_bit : (n : ℕ) (xs : List ℕ) → HoldsBits n xs → (i : ℕ) → i < n → get_or (bits_of n (map (λ x. bit_not w64 x) xs)) i false ≡ get_or (map not (bits_of n xs)) i false
not_bit n xs h i l =
    let k : i / 64 < length xs = omega (arith, h.count) in
    let fits : get_or xs (i / 64) 0 < 2 ^ 64 = lt_of_lt_of_le (h.clear (i / 64)) (pow_mono {i = min 64 (n - 64 * (i / 64))} {j = 64} (omega arith)) in
    let m : i % 64 < 64 = omega arith in
    let ix : i < length (bits_of n xs) = rw length-bits_of l in
    get_or-bits_of n (map (λ x. bit_not w64 x) xs) i l
    ∙ ap (λ w. eqb (bit_at w (i % 64)) 1) (get_or-map (λ x. bit_not w64 x) xs (i / 64) 0 0 k)
    ∙ ap (λ b. eqb b 1) (bit_at_not w64 (get_or xs (i / 64) 0) (i % 64) fits m)
    ∙ flip_bit _ (bit_at-lt _ _)
    ∙ ap not (sym (get_or-bits_of n xs i l))
    ∙ sym (get_or-map not (bits_of n xs) i false false ix)

-- and on words is and on bits
pub and_bitwise : IsBitwise bit_and ◌&&◌
and_bitwise = record { at = λ a b i. and_at a b i; below = λ a b k p q. omega (arith, and_le_l a b) }

-- or on words is or on bits
pub or_bitwise : IsBitwise bit_or ◌||◌
or_bitwise = record { at = λ a b i. or_at a b i; below = λ a b k p q. or_lt k a b p q }

-- turning words over turns their bits over
pub bits_of-not : (n : ℕ) (xs : List ℕ) → HoldsBits n xs → bits_of n (map (λ x. bit_not w64 x) xs) ≡ map not (bits_of n xs)
bits_of-not n xs h =
    ext_get_or false (bits_of n (map (λ x. bit_not w64 x) xs)) (map not (bits_of n xs))
    (length-bits_of n (map (λ x. bit_not w64 x) xs) ∙ sym (length-bits_of n xs) ∙ sym (length-map (bits_of n xs) not))
    (λ i l. not_bit n xs h i (rw (← length-bits_of n (map (λ x. bit_not w64 x) xs)) l))

-- the first n + m of a list in two parts
take-add : {X : Type 0} (n m : ℕ) (xs : List X) → take (n + m) xs ≡ take n xs ++ take m (drop n xs)
take-add n m xs =
    let n_le : n ≤ n + m = omega arith in
    sym (take-append-drop n (take (n + m) xs))
    ∙ ap (λ ys. ys ++ drop n (take (n + m) xs)) (take-take n (n + m) xs n_le)
    ∙ ap (λ ys. take n xs ++ ys) (drop-take n m xs)

-- a count over two joined lists
count_by-append : {X : Type 0} (p : X → Bool) (xs ys : List X) → count_by p (xs ++ ys) ≡ count_by p xs + count_by p ys
count_by-append p xs ys = sum_by-append (λ x. cond (p x) 1 0) xs ys

-- the set bits up to the end of word k
pub count-more : (bs : List Bool) (k j : ℕ) → j ≡ k + 1 → count_by (λ b. b) (take (64 * j) bs) ≡ count_by (λ b. b) (take (64 * k) bs) + count_ones (word_of bs k)
unfolding word_of
count-more bs k j e =
    let m : 64 * j ≡ 64 * k + 64 = omega arith in
    let ms = take 64 (drop (64 * k) bs) in
    ap (λ n. count_by (λ b. b) (take n bs)) m
    ∙ ap (count_by (λ b. b)) (take-add (64 * k) 64 bs)
    ∙ count_by-append (λ b. b) (take (64 * k) bs) ms
    ∙ ap (λ n. count_by (λ b. b) (take (64 * k) bs) + n) (sym (ap (λ zs. count_ones (mask_l zs)) (sym (map-id ms)) ∙ ones-mask_l (λ b. b) ms))

-- what a loop over the words and a reader need of them
pub ruleset bit_lemmas = (length-bits_of, get_or-bits_of, word_of-bits_of, div_ceil-64)

-- a map over equal items
pub map-replicate : {A B : Type 0} (f : A → B) (n : ℕ) (x : A) → map f (replicate n x) ≡ replicate n (f x)
map-replicate f zero x = refl
map-replicate f (suc n) x = ap (λ ys. f x ∷ ys) (map-replicate f n x)
