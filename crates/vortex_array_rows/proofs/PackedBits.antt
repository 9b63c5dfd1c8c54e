use Rattle.std.proofs.Common.{ℕ, suc, ◌+◌, ◌-◌, ◌*◌, ◌/◌, ◌%◌, ◌^◌, ◌<◌, ◌≤◌, ◌≡◌, Bool, true, false, cond, eqb, List, [], ◌∷◌, ◌++◌, length, get_or, take, drop, refl, sym, subst, ap, ◌∙◌, arith, length-append, length-drop, length-take, min, ⊎_elim, lt_of_lt_of_le}
use Rattle.std.proofs.Math.Nat.{mul_comm, mul_assoc, mul-add}
use Rattle.std.proofs.Math.Pow.{pow_mono}
use Rattle.std.specs.Int.{bit_at}
use Rattle.std.specs.List.{All}
use Rattle.std.specs.Simd.Lanes.{mask_l}
use Rattle.std.proofs.lemmas.Bool.{cases_lt}
use Rattle.std.proofs.lemmas.Simd.{bit_mask_l}
use Rattle.std.proofs.lemmas.Nat.{pow-add, mul-add-lt, div_below}
use Rattle.std.proofs.lemmas.Nat.Bits.{bit_at_cat_low, bit_at_cat_high, bit_at-zero}
use Rattle.std.specs.List.{count_by}
use Rattle.std.proofs.lemmas.List.{ext_get_or, drop-drop, get_or-drop, take_all}
use Rattle.std.proofs.lemmas.List.Elements.{All-head, All-tail, All-push}
use Rattle.vortex_buffer.specs.Bits.{bits_of, word_of}
use Rattle.vortex_buffer.proofs.Bits.{length-bits_of, get_or-bits_of}
use Rattle.vortex_array_rows.specs.Kept.{kept_by, kept_in}
use Rattle.vortex_array_rows.specs.Packs.{number_of, Packs, PacksMore, KeepsOfWord}
use Rattle.vortex_array_rows.proofs.Kept.{length-kept_by}
use Rattle.vortex_array_rows.proofs.KeptWords.{kept_in-first, kept_in-none, kept_word_more, LowestBit, shorter, word_below}

-- twice a product
twice : (p m q : ℕ) → q ≡ 2 * p → q * m ≡ 2 * (p * m)
twice p m q e = ap (λ n. n * m) e ∙ mul_assoc 2 p m

-- one more power of two
pow_next : (n : ℕ) → 2 ^ suc n ≡ 2 * 2 ^ n
pow_next n = grind arith

-- bits behind bits count from where those end
pub mask_l-append : (xs ys : List Bool) → mask_l (xs ++ ys) ≡ mask_l xs + 2 ^ length xs * mask_l ys
mask_l-append [] ys = omega arith
mask_l-append (b ∷ xs) ys =
    let rest = mask_l-append xs ys in
    let more = twice (2 ^ length xs) (mask_l ys) (2 ^ suc (length xs)) (pow_next (length xs)) in
    omega (arith, rest, more)

-- a product with a sum
spread : (p a b q : ℕ) → p * (a + b * q) ≡ p * a + p * q * b
spread p a b q = mul-add p a (b * q) ∙ ap (λ n. p * a + n) (ap (λ n. p * n) (mul_comm b q) ∙ sym (mul_assoc p q b))

-- one more word
number-push : (words : List ℕ) (word : ℕ) → number_of (words ++ word ∷ []) ≡ number_of words + 2 ^ (64 * length words) * word
number-push [] word = omega arith
number-push (w ∷ words) word =
    let rest = number-push words word in
    let long : 64 * suc (length words) ≡ 64 + 64 * length words = omega arith in
    let step : 2 ^ (64 * suc (length words)) * word ≡ 2 ^ 64 * (2 ^ (64 * length words) * word) =
    ap (λ n. 2 ^ n * word) long ∙ ap (λ n. n * word) (pow-add 2 64 (64 * length words)) ∙ mul_assoc (2 ^ 64) (2 ^ (64 * length words)) word
    in
    omega (arith, rest, step)

-- a bit of the number that words spell is a bit of one of them
bit_at-number : (words : List ℕ) (i : ℕ) → All (λ word. word < 2 ^ 64) words → bit_at (number_of words) i ≡ bit_at (get_or words (i / 64) 0) (i % 64)
bit_at-number [] i full = bit_at-zero i ∙ sym (bit_at-zero (i % 64))
bit_at-number (w ∷ words) i full =
    ⊎_elim
    (λ (low : i < 64).
    let q : i / 64 ≡ 0 = omega arith in
    let r : i % 64 ≡ i = omega arith in
    bit_at_cat_low (number_of words) 64 w i low ∙ rw (q, r) refl)
    (λ (high : 64 ≤ i).
    let q : i / 64 ≡ suc ((i - 64) / 64) = omega arith in
    let r : i % 64 ≡ (i - 64) % 64 = omega arith in
    bit_at_cat_high (number_of words) 64 w i (All-head (λ word. word < 2 ^ 64) w words full) high
    ∙ bit_at-number words (i - 64) (All-tail (λ word. word < 2 ^ 64) w words full)
    ∙ rw (q, r) refl)
    (cases_lt i 64)

-- a truth as a number and back
truth_back : (b : Bool) → eqb (cond {A = ℕ} b 1 0) 1 ≡ b
truth_back true = refl
truth_back false = refl

-- the words with the open one behind them hold the bits that were packed
pub packed_is : (bits : List Bool) (words : List ℕ) (open_word open_len n : ℕ) → Packs bits words open_word open_len → n ≡ length bits → bits ≡ bits_of n (words ++ open_word ∷ [])
packed_is bits words open_word open_len n p e =
    let room : open_word < 2 ^ 64 = lt_of_lt_of_le p.small (pow_mono {i = open_len} {j = 64} (omega (arith, p.partial))) in
    let full = All-push (λ word. word < 2 ^ 64) words open_word p.full room in
    let same : number_of (words ++ open_word ∷ []) ≡ mask_l bits = number-push words open_word ∙ p.spelled in
    ext_get_or false bits (bits_of n (words ++ open_word ∷ [])) (sym e ∙ sym (length-bits_of n (words ++ open_word ∷ [])))
    (λ i h.
    sym (get_or-bits_of n (words ++ open_word ∷ []) i (omega (arith, e, h))
    ∙ ap (λ b. eqb b 1) (sym (bit_at-number (words ++ open_word ∷ []) i full) ∙ ap (λ m. bit_at m i) same ∙ bit_mask_l bits i)
    ∙ truth_back (get_or bits i false)))

-- what more bits add to the number that is spelled
spelled_more : (bits more : List Bool) (words : List ℕ) (open_word open_len : ℕ) (joined : ℕ) → Packs bits words open_word open_len → joined ≡ open_word + mask_l more * 2 ^ open_len → number_of words + 2 ^ (64 * length words) * joined ≡ mask_l (bits ++ more)
spelled_more bits more words open_word open_len joined p is =
    let far : 2 ^ length bits ≡ 2 ^ (64 * length words) * 2 ^ open_len = ap (λ n. 2 ^ n) (sym p.long) ∙ pow-add 2 (64 * length words) open_len in
    let parts : 2 ^ (64 * length words) * joined ≡ 2 ^ (64 * length words) * open_word + 2 ^ length bits * mask_l more =
    ap (λ n. 2 ^ (64 * length words) * n) is ∙ spread (2 ^ (64 * length words)) open_word (mask_l more) (2 ^ open_len) ∙ ap (λ n. 2 ^ (64 * length words) * open_word + n * mask_l more) (sym far)
    in
    omega (arith, parts, p.spelled, mask_l-append bits more)

-- what is joined to the open word is below the power of two that it reaches
pub joined_small : (open_word open_len more count : ℕ) → open_word < 2 ^ open_len → more < 2 ^ count → open_word + more * 2 ^ open_len < 2 ^ (open_len + count)
joined_small open_word open_len more count small few =
    let below = mul-add-lt more (2 ^ open_len) open_word (2 ^ count) few small in
    rw (pow-add 2 open_len count) (omega (arith, below))

-- more bits that stay within the open word
pub packs_within : (bits more : List Bool) (words : List ℕ) (open_word open_len count joined next len : ℕ) → Packs bits words open_word open_len → mask_l more < 2 ^ count → count ≡ length more → joined ≡ open_word + mask_l more * 2 ^ open_len → next ≡ joined % 2 ^ 64 → len ≡ open_len + count → len < 64 → Packs (bits ++ more) words next len
packs_within bits more words open_word open_len count joined next len p few counted is low end within =
    let small : joined < 2 ^ len = rw (is, end) (joined_small open_word open_len (mask_l more) count p.small few) in
    let below : joined < 2 ^ 64 = lt_of_lt_of_le small (pow_mono {i = len} {j = 64} (omega arith)) in
    let whole : next ≡ joined = omega (arith, low, below) in
    rw whole
    record {
      spelled = spelled_more bits more words open_word open_len joined p is;
      long = omega (arith, p.long, end, counted, length-append bits more);
      full = p.full;
      small = small;
      partial = within;
    }

-- more bits that fill the open word
pub packs_past : (bits more : List Bool) (words : List ℕ) (open_word open_len count joined word next len : ℕ) → Packs bits words open_word open_len → mask_l more < 2 ^ count → count ≡ length more → joined ≡ open_word + mask_l more * 2 ^ open_len → word ≡ joined % 2 ^ 64 → next ≡ joined / 2 ^ 64 → open_len + count ≡ 64 + len → len < 64 → Packs (bits ++ more) (words ++ word ∷ []) next len
packs_past bits more words open_word open_len count joined word next len p few counted is low high end within =
    let n = length words in
    let bound : joined < 2 ^ (64 + len) = rw (is, sym end) (joined_small open_word open_len (mask_l more) count p.small few) in
    let longer : length (words ++ word ∷ []) ≡ n + 1 = length-append words (word ∷ []) in
    let reach : 2 ^ (64 * length (words ++ word ∷ [])) ≡ 2 ^ 64 * 2 ^ (64 * n) = ap (λ m. 2 ^ m) (omega (arith, longer)) ∙ pow-add 2 64 (64 * n) in
    let parts : joined ≡ word + next * 2 ^ 64 = omega (arith, low, high) in
    let far : 2 ^ (64 * n) * joined ≡ 2 ^ (64 * n) * word + 2 ^ (64 * length (words ++ word ∷ [])) * next =
    ap (λ m. 2 ^ (64 * n) * m) parts ∙ spread (2 ^ (64 * n)) word next (2 ^ 64) ∙ ap (λ m. 2 ^ (64 * n) * word + m * next) (mul_comm (2 ^ (64 * n)) (2 ^ 64) ∙ sym reach)
    in
    record {
      spelled = omega (arith, number-push words word, far, spelled_more bits more words open_word open_len joined p is);
      long = omega (arith, p.long, end, counted, longer, length-append bits more);
      full = All-push (λ w. w < 2 ^ 64) words word p.full (omega (arith, low));
      small = rw high (div_below joined (2 ^ 64) (2 ^ len) (omega arith) (rw (mul_comm (2 ^ len) (2 ^ 64), ← pow-add 2 64 len) bound));
      partial = within;
    }

-- the walk over the set bits of a mask of one word: what is packed so far, and what the rest of the mask keeps
pub record Walk (set : ℕ) (group : List Bool) (rest at packed count : ℕ) : Type 0 where
  pub within : at ≤ length group
  pub small : rest < 2 ^ (length group - at)
  pub spelled : packed + 2 ^ count * mask_l (kept_in rest (drop at group)) ≡ mask_l (kept_in set group)
  pub counted : count + length (kept_in rest (drop at group)) ≡ length (kept_in set group)

-- all is packed where no set bit is left
pub walk_end : (set : ℕ) (group : List Bool) (rest at packed count : ℕ) → rest ≡ 0 → Walk set group rest at packed count → (packed ≡ mask_l (kept_in set group)) × (count ≡ length (kept_in set group))
walk_end set group rest at packed count none w =
    let nothing = kept_in-none rest (drop at group) none in
    let spelled : packed + 2 ^ count * 0 ≡ mask_l (kept_in set group) = rw nothing at w.spelled in
    let counted : count + 0 ≡ length (kept_in set group) = rw nothing at w.counted in
    (omega (arith, spelled), omega (arith, counted))

-- one more bit is packed
pub walk_next : (word set : ℕ) (group : List Bool) (rest at packed count t place bit : ℕ) → Walk set group rest at packed count → LowestBit rest t (length group - at) → place ≡ at + t → word ≡ mask_l group → bit ≡ bit_at word place → Walk set group (rest / 2 ^ t / 2) (place + 1) (packed + bit * 2 ^ count) (count + 1)
walk_next word set group rest at packed count t place bit w low there is read =
    let left = kept_in (rest / 2 ^ t / 2) (drop (place + 1) group) in
    let inside : t < length (drop at group) = omega (arith, low.within, length-drop at group) in
    let behind : at + suc t ≡ place + 1 = omega arith in
    let item : get_or (drop at group) t false ≡ get_or group place false = get_or-drop at group t false ∙ ap (λ n. get_or group n false) (sym there) in
    let first : kept_in rest (drop at group) ≡ get_or group place false ∷ left =
    kept_in-first t rest (drop at group) false low.here low.before inside
    ∙ ap (λ b. b ∷ kept_in (rest / 2 ^ t / 2) (drop (suc t) (drop at group))) item
    ∙ ap (λ bs. get_or group place false ∷ kept_in (rest / 2 ^ t / 2) bs) (drop-drop (suc t) at group ∙ ap (λ n. drop n group) behind)
    in
    let truth : cond (get_or group place false) 1 0 ≡ bit = sym (read ∙ ap (λ m. bit_at m place) is ∙ bit_mask_l group place) in
    let number : mask_l (kept_in rest (drop at group)) ≡ bit + 2 * mask_l left = ap mask_l first ∙ ap (λ b. b + 2 * mask_l left) truth in
    let parts : 2 ^ count * mask_l (kept_in rest (drop at group)) ≡ 2 ^ count * bit + 2 ^ count * (2 * mask_l left) = ap (λ m. 2 ^ count * m) number ∙ mul-add (2 ^ count) bit (2 * mask_l left) in
    let next : count + 1 ≡ suc count = omega arith in
    let power : 2 ^ (count + 1) * mask_l left ≡ 2 * (2 ^ count * mask_l left) = ap (λ n. 2 ^ n * mask_l left) next ∙ twice (2 ^ count) (mask_l left) (2 ^ suc count) (pow_next count) in
    let swapped : 2 ^ count * (2 * mask_l left) ≡ 2 * (2 ^ count * mask_l left) = sym (mul_assoc (2 ^ count) 2 (mask_l left)) ∙ ap (λ n. n * mask_l left) (mul_comm (2 ^ count) 2) ∙ mul_assoc 2 (2 ^ count) (mask_l left) in
    let size : length (kept_in rest (drop at group)) ≡ suc (length left) = ap length first in
    let remains : length group - at - (t + 1) ≡ length group - (place + 1) = omega arith in
    record {
      within = omega (arith, low.within, w.within);
      small = rw remains at (shorter rest t (length group - at) w.small low.within);
      spelled = omega (arith, parts, power, swapped, w.spelled, mul_comm bit (2 ^ count));
      counted = omega (arith, size, w.counted);
    }

-- one more bit stays below the next power of two
pub bit_more : (packed count bit : ℕ) → packed < 2 ^ count → bit < 2 → packed + bit * 2 ^ count < 2 ^ (count + 1)
bit_more packed count bit small few = let below = mul-add-lt bit (2 ^ count) packed 2 few small in rw (pow-add 2 count 1) (omega (arith, below))

-- word k of a list of bits spells its 64 bits from 64 * k on
pub word_spells : (bits : List Bool) (k : ℕ) → word_of bits k ≡ mask_l (take 64 (drop (64 * k) bits))
unfolding word_of
word_spells bits k = refl

-- one more word of bits, of which those that the mask keeps are packed behind the others
pub packs_step : (set bits : List Bool) (k word mask kept count : ℕ) (words after : List ℕ) (open_word len open_after len_after : ℕ) → length set ≡ length bits → word ≡ word_of bits k → mask ≡ word_of set k → KeepsOfWord word mask kept count → PacksMore kept count words open_word len after open_after len_after → Packs (kept_by (take (64 * k) set) (take (64 * k) bits)) words open_word len → Packs (kept_by (take (64 * (k + 1)) set) (take (64 * (k + 1)) bits)) after open_after len_after
packs_step set bits k word mask kept count words after open_word len open_after len_after same is masks keeps more so_far =
    let group = take 64 (drop (64 * k) bits) in
    let long : length group ≡ min 64 (length set - 64 * k) = omega (arith, length-take 64 (drop (64 * k) bits), length-drop (64 * k) bits, same) in
    let few : length group ≤ 64 = omega (arith, long) in
    let of = keeps.of group few (is ∙ word_spells bits k) (rw masks (word_below set k (length group) long)) in
    let kept_is : kept ≡ mask_l (kept_in (word_of set k) group) = of.0 ∙ ap (λ m. mask_l (kept_in m group)) masks in
    let count_is : count ≡ length (kept_in (word_of set k) group) = of.1 ∙ ap (λ m. length (kept_in m group)) masks in
    rw (kept_word_more set bits k same) (more.behind (kept_by (take (64 * k) set) (take (64 * k) bits)) (kept_in (word_of set k) group) so_far kept_is count_is)

-- all that a mask keeps, where every word has been packed
pub all_packed : (set bits : List Bool) (k : ℕ) (words : List ℕ) (open_word len count : ℕ) → length set ≡ length bits → length bits ≤ 64 * k → count ≡ count_by (λ bit. bit) set → Packs (kept_by (take (64 * k) set) (take (64 * k) bits)) words open_word len → (count ≤ length (words ++ open_word ∷ []) * 64) × (bits_of count (words ++ open_word ∷ []) ≡ kept_by set bits)
all_packed set bits k words open_word len count same past counted p =
    let all : kept_by (take (64 * k) set) (take (64 * k) bits) ≡ kept_by set bits =
    ap (λ s. kept_by s (take (64 * k) bits)) (take_all (64 * k) set (omega (arith, same, past))) ∙ ap (kept_by set) (take_all (64 * k) bits past)
    in
    let packs : Packs (kept_by set bits) words open_word len = subst (λ kept. Packs kept words open_word len) all p in
    let long : count ≡ length (kept_by set bits) = counted ∙ sym (length-kept_by set bits same) in
    (omega (arith, long, packs.long, packs.partial, length-append words (open_word ∷ [])), sym (packed_is (kept_by set bits) words open_word len count packs long))
