use Rattle.std.proofs.Common.{ℕ, zero, suc, ◌+◌, ◌-◌, ◌*◌, ◌/◌, ◌%◌, ◌^◌, ◌<◌, ◌≤◌, ◌≡◌, Bool, true, false, cond, eqb, List, [], ◌∷◌, ◌++◌, length, get_or, take, drop, set, min, refl, sym, ap, ◌∙◌, arith, length-take, length-drop, append-nil, append_assoc, ⊎_elim}
use Rattle.std.specs.Int.{bit_at, w64}
use Rattle.std.specs.Int.Count.{count_trailing_zeros}
use Rattle.std.proofs.Math.Pow.{pow_mono}
use Rattle.std.proofs.Common.{lt_of_lt_of_le}
use Rattle.std.specs.Prelude.{slice_range}
use Rattle.std.specs.Simd.Lanes.{mask_l}
use Rattle.std.proofs.lemmas.Bool.{cases_lt}
use Rattle.std.proofs.lemmas.Simd.{mask_l-lt}
use Rattle.std.proofs.lemmas.Nat.{shr-shr, pow-add, div_below, pow_pos}
use Rattle.std.proofs.lemmas.Nat.Bits.{bit_at-suc, bit_at_lowest, bit_at-lt, bit_at_above, bit_at-trailing_zeros}
use Rattle.std.proofs.lemmas.List.{take_more, take_more_set, take-set, take_min, take-append-drop, take-take, drop-take, length-take-le, get_or-drop, drop-drop}
use Rattle.vortex_buffer.specs.Bits.{word_of}
use Rattle.vortex_array_rows.specs.Kept.{kept_by, kept_in}
use Rattle.vortex_array_rows.proofs.Kept.{kept_by-append}

-- a word of no set bit keeps nothing
pub kept_in-none : {X : Type 0} (word : ℕ) (xs : List X) → word ≡ 0 → kept_in word xs ≡ []
kept_in-none word [] e = refl
kept_in-none word (x ∷ xs) e = rw e (kept_in-none 0 xs refl)

-- a bit tested
odd_true : (word : ℕ) → word % 2 ≡ 1 → eqb (word % 2) 1 ≡ true
odd_true word e = rw e refl

-- a bit tested
odd_false : (word : ℕ) → word % 2 ≡ 0 → eqb (word % 2) 1 ≡ false
odd_false word e = rw e refl

-- a word whose lowest bit is set keeps the first item
pub kept_in-odd : {X : Type 0} (word : ℕ) (x : X) (xs : List X) → word % 2 ≡ 1 → kept_in word (x ∷ xs) ≡ x ∷ kept_in (word / 2) xs
kept_in-odd word x xs e = ap (λ b. cond b (x ∷ kept_in (word / 2) xs) (kept_in (word / 2) xs)) (odd_true word e)

-- a word whose lowest bit is not set does not keep the first item
pub kept_in-even : {X : Type 0} (word : ℕ) (x : X) (xs : List X) → word % 2 ≡ 0 → kept_in word (x ∷ xs) ≡ kept_in (word / 2) xs
kept_in-even word x xs e = ap (λ b. cond b (x ∷ kept_in (word / 2) xs) (kept_in (word / 2) xs)) (odd_false word e)

-- one more power of two
pub pow_more : (n : ℕ) → 2 ^ suc n ≡ 2 * 2 ^ n
pow_more n = grind arith

-- a word of so many set bits keeps so many items
pub kept_in-all : {X : Type 0} (word : ℕ) (xs : List X) → word + 1 ≡ 2 ^ length xs → kept_in word xs ≡ xs
kept_in-all word [] e = refl
kept_in-all word (x ∷ xs) e =
    let twice = pow_more (length xs) in
    let some = pow_pos (length xs) in
    kept_in-odd word x xs (omega (arith, twice, e, some)) ∙ ap (λ ys. x ∷ ys) (kept_in-all (word / 2) xs (omega (arith, twice, e, some)))

-- an item before a list and what is put behind it
kept_step : {X : Type 0} (zs us vs : List X) (b : Bool) (y : X) → zs ≡ us ++ vs → cond b (y ∷ zs) zs ≡ cond b (y ∷ us) us ++ vs
kept_step zs us vs true y e = ap (λ ws. y ∷ ws) e
kept_step zs us vs false y e = e

-- one more item
pub kept_in-push : {X : Type 0} (word : ℕ) (xs : List X) (x : X) → kept_in word (xs ++ x ∷ []) ≡ kept_in word xs ++ cond (eqb (bit_at word (length xs)) 1) (x ∷ []) []
kept_in-push word [] x = ap (λ n. cond (eqb n 1) (x ∷ []) []) (sym (bit_at_lowest word))
kept_in-push word (y ∷ xs) x =
    kept_step _ _ _ (eqb (word % 2) 1) y
    (kept_in-push (word / 2) xs x ∙ ap (λ n. kept_in (word / 2) xs ++ cond (eqb n 1) (x ∷ []) []) (sym (bit_at-suc word (length xs))))

-- the items that a word keeps are those that its bits keep
pub kept_in-mask : {X : Type 0} (ms : List Bool) (xs : List X) → length ms ≡ length xs → kept_in (mask_l ms) xs ≡ kept_by ms xs
kept_in-mask [] [] e = refl
kept_in-mask [] (x ∷ xs) e = absurd (omega arith)
kept_in-mask (m ∷ ms) [] e = refl
kept_in-mask (true ∷ ms) (x ∷ xs) e =
    let half : (1 + 2 * mask_l ms) / 2 ≡ mask_l ms = omega arith in
    kept_in-odd (1 + 2 * mask_l ms) x xs (omega arith) ∙ ap (λ ys. x ∷ ys) (ap (λ w. kept_in w xs) half ∙ kept_in-mask ms xs (omega arith))
kept_in-mask (false ∷ ms) (x ∷ xs) e =
    let half : (0 + 2 * mask_l ms) / 2 ≡ mask_l ms = omega arith in
    kept_in-even (0 + 2 * mask_l ms) x xs (omega arith) ∙ ap (λ w. kept_in w xs) half ∙ kept_in-mask ms xs (omega arith)

-- the first item that a word keeps, and the rest
pub kept_in-first : {X : Type 0} (t word : ℕ) (xs : List X) (d : X) → bit_at word t ≡ 1 → ((i : ℕ) → i < t → bit_at word i ≡ 0) → t < length xs → kept_in word xs ≡ get_or xs t d ∷ kept_in (word / 2 ^ t / 2) (drop (suc t) xs)
kept_in-first t word [] d here before within = absurd (omega arith)
kept_in-first zero word (x ∷ xs) d here before within =
    let same : word ≡ word / 2 ^ 0 = omega arith in
    kept_in-odd word x xs (sym (bit_at_lowest word) ∙ here) ∙ ap (λ w. x ∷ kept_in (w / 2) xs) same
kept_in-first (suc t) word (x ∷ xs) d here before within =
    let low : bit_at word 0 ≡ 0 = before 0 (omega arith) in
    let next : 1 + t ≡ suc t = omega arith in
    kept_in-even word x xs (sym (bit_at_lowest word) ∙ low)
    ∙ kept_in-first t (word / 2) xs d (sym (bit_at-suc word t) ∙ here) (λ i l. sym (bit_at-suc word i) ∙ before (suc i) (omega arith)) (omega arith)
    ∙ ap (λ w. get_or xs t d ∷ kept_in (w / 2) (drop (suc t) xs)) (shr-shr word 1 t ∙ ap (λ n. word / 2 ^ n) next)

-- a set bit of a word stands within its bits
pub set_bit_within : (word t n : ℕ) → bit_at word t ≡ 1 → word < 2 ^ n → t < n
set_bit_within word t n here small =
    ⊎_elim (λ (inside : t < n). inside) (λ (past : n ≤ t). absurd (let none = bit_at_above word n t small past in omega (arith, here, none))) (cases_lt t n)

-- a bit of a number that was shifted
pub shifted_bit : (n shift i : ℕ) → bit_at (n / 2 ^ shift) i ≡ bit_at n (shift + i)
shifted_bit n shift i = ap (λ m. m % 2) (shr-shr n shift i)

-- the lowest set bit of a word of n bits
pub record LowestBit (word t n : ℕ) : Type 0 where
  pub here : bit_at word t ≡ 1
  pub before : (i : ℕ) → i < t → bit_at word i ≡ 0
  pub within : t < n

-- a word that is not 0 has a lowest set bit, after its trailing zeros
pub lowest : (word n : ℕ) → 0 < word → word < 2 ^ n → n ≤ 64 → LowestBit word (count_trailing_zeros 64 word) n
lowest word n some small few =
    let bit = bit_at-trailing_zeros w64 word some (lt_of_lt_of_le small (pow_mono {i = n} {j = 64} few)) in
    record { here = bit.1; before = bit.2; within = set_bit_within word (count_trailing_zeros 64 word) n bit.1 small }

-- a word of ones that is no longer than its items has as many bits as there are items
pub full_word : (word n : ℕ) → word ≡ 18446744073709551615 → word < 2 ^ n → n ≤ 64 → word + 1 ≡ 2 ^ n
full_word word n ones small few =
    ⊎_elim
    (λ (less : n < 64). absurd (let half : 2 ^ n ≤ 2 ^ 63 = pow_mono {i = n} {j = 63} (omega arith) in omega (arith, half, small, ones)))
    (λ (full : 64 ≤ n). let all : n ≡ 64 = omega arith in rw all (omega (arith, ones)))
    (cases_lt n 64)

-- a word without its first bits is as much shorter
pub shorter : (word t n : ℕ) → word < 2 ^ n → t < n → word / 2 ^ t / 2 < 2 ^ (n - (t + 1))
shorter word t n small within =
    let parts : n - (t + 1) + (t + 1) ≡ n = omega arith in
    rw (shr-shr word t 1) (div_below word (2 ^ (t + 1)) (2 ^ (n - (t + 1))) (pow_pos (t + 1)) (rw (← pow-add 2 (n - (t + 1)) (t + 1), parts) small))

-- one item pushed, and the walk goes on behind it
pub walk_more : {X : Type 0} (before now goal_is : List X) (group : List X) (rest at t place next : ℕ) (x : X) → bit_at rest t ≡ 1 → ((i : ℕ) → i < t → bit_at rest i ≡ 0) → place ≡ at + t → next ≡ place + 1 → at ≤ length group → rest < 2 ^ (length group - at) → x ≡ get_or group place x → now ≡ before ++ x ∷ [] → before ++ kept_in rest (drop at group) ≡ goal_is → now ++ kept_in (rest / 2 ^ t / 2) (drop next group) ≡ goal_is
walk_more before now goal_is group rest at t place next x here lower is after room small read pushed so_far =
    let within : t < length (drop at group) = omega (arith, set_bit_within rest t (length group - at) here small, length-drop at group) in
    let behind : at + suc t ≡ next = omega arith in
    let item : get_or (drop at group) t x ≡ x = get_or-drop at group t x ∙ ap (λ n. get_or group n x) (sym is) ∙ sym read in
    let rest_is : drop (suc t) (drop at group) ≡ drop next group = drop-drop (suc t) at group ∙ ap (λ n. drop n group) behind in
    ap (λ ys. ys ++ kept_in (rest / 2 ^ t / 2) (drop next group)) pushed
    ∙ append_assoc before (x ∷ []) (kept_in (rest / 2 ^ t / 2) (drop next group))
    ∙ ap (λ ys. before ++ ys) (sym (kept_in-first t rest (drop at group) x here lower within ∙ ap (λ y. y ∷ kept_in (rest / 2 ^ t / 2) (drop (suc t) (drop at group))) item ∙ ap (λ ys. x ∷ kept_in (rest / 2 ^ t / 2) ys) rest_is))
    ∙ so_far

-- an item written behind those that were packed counts where the bit is set
packed_one : {X : Type 0} (room : List X) (count bit : ℕ) (x : X) → bit < 2 → count < length room → take (count + bit) (set room count x) ≡ take count room ++ cond (eqb bit 1) (x ∷ []) []
packed_one room count zero x small space =
    let stays : count + 0 ≡ count = omega arith in
    ap (λ n. take n (set room count x)) stays ∙ take-set room count x ∙ sym (append-nil (take count room))
packed_one room count (suc zero) x small space = take_more_set room count x space
packed_one room count (suc (suc n)) x small space = absurd (omega arith)

-- one more item packed: written behind those that were kept, and kept itself where its bit is set
pub pack_more : {X : Type 0} (word : ℕ) (group room : List X) (i count bit : ℕ) (x : X) → i < length group → count < length room → x ≡ get_or group i x → bit ≡ bit_at word i → take count room ≡ kept_in word (take i group) → take (count + bit) (set room count x) ≡ kept_in word (take (i + 1) group)
pack_more word group room i count bit x within space read is so_far =
    let small : bit < 2 = omega (arith, is, bit_at-lt word i) in
    let long : length (take i group) ≡ i = length-take-le i group (omega arith) in
    let next : take (i + 1) group ≡ take i group ++ x ∷ [] = take_more group i x within ∙ ap (λ y. take i group ++ y ∷ []) (sym read) in
    packed_one room count bit x small space
    ∙ ap (λ ys. ys ++ cond (eqb bit 1) (x ∷ []) []) so_far
    ∙ ap (λ b. kept_in word (take i group) ++ cond (eqb b 1) (x ∷ []) []) (is ∙ ap (bit_at word) (sym long))
    ∙ sym (ap (kept_in word) next ∙ kept_in-push word (take i group) x)

-- the first n + m of a list in two parts
pub take-add : {X : Type 0} (n m : ℕ) (xs : List X) → take (n + m) xs ≡ take n xs ++ take m (drop n xs)
take-add n m xs =
    let n_le : n ≤ n + m = omega arith in
    sym (take-append-drop n (take (n + m) xs))
    ∙ ap (λ ys. ys ++ drop n (take (n + m) xs)) (take-take n (n + m) xs n_le)
    ∙ ap (λ ys. take n xs ++ ys) (drop-take n m xs)

-- word k of a list of bits is below the power of two that its bits reach
pub word_below : (bits : List Bool) (k n : ℕ) → n ≡ min 64 (length bits - 64 * k) → word_of bits k < 2 ^ n
unfolding word_of
word_below bits k n is =
    let reach : length (take 64 (drop (64 * k) bits)) ≡ n = omega (arith, length-take 64 (drop (64 * k) bits), length-drop (64 * k) bits, is) in
    rw reach at (mask_l-lt (take 64 (drop (64 * k) bits)))

-- word k of a list of bits is below the power of two that the rest of the list reaches
pub word_reach : (bits : List Bool) (k n word : ℕ) → word ≡ word_of bits k → length bits - 64 * k ≤ n → word < 2 ^ n
word_reach bits k n word is reach =
    let few : min 64 (length bits - 64 * k) ≤ n = omega arith in
    rw is (lt_of_lt_of_le (word_below bits k (min 64 (length bits - 64 * k)) refl) (pow_mono few))

-- what word k keeps of its group of items is what its bits keep
pub kept_group : {X : Type 0} (bits : List Bool) (items : List X) (k : ℕ) → length bits ≡ length items → kept_in (word_of bits k) (take 64 (drop (64 * k) items)) ≡ kept_by (take 64 (drop (64 * k) bits)) (take 64 (drop (64 * k) items))
unfolding word_of
kept_group bits items k same =
    kept_in-mask (take 64 (drop (64 * k) bits)) (take 64 (drop (64 * k) items))
    (omega (arith, length-take 64 (drop (64 * k) bits), length-drop (64 * k) bits, length-take 64 (drop (64 * k) items), length-drop (64 * k) items, same))

-- what a mask keeps of one more word of items
pub kept_word_more : {X : Type 0} (set : List Bool) (items : List X) (k : ℕ) → length set ≡ length items → kept_by (take (64 * (k + 1)) set) (take (64 * (k + 1)) items) ≡ kept_by (take (64 * k) set) (take (64 * k) items) ++ kept_in (word_of set k) (take 64 (drop (64 * k) items))
kept_word_more set items k same =
    let next : 64 * (k + 1) ≡ 64 * k + 64 = omega arith in
    let fronts : length (take (64 * k) set) ≡ length (take (64 * k) items) = omega (arith, length-take (64 * k) set, length-take (64 * k) items, same) in
    ap (λ n. kept_by (take n set) (take n items)) next
    ∙ ap (λ s. kept_by s (take (64 * k + 64) items)) (take-add (64 * k) 64 set)
    ∙ ap (kept_by (take (64 * k) set ++ take 64 (drop (64 * k) set))) (take-add (64 * k) 64 items)
    ∙ kept_by-append (take (64 * k) set) (take 64 (drop (64 * k) set)) (take (64 * k) items) (take 64 (drop (64 * k) items)) fronts
    ∙ ap (λ ys. kept_by (take (64 * k) set) (take (64 * k) items) ++ ys) (sym (kept_group set items k same))

-- a group is 64 items, or as many as there are
group_is : {X : Type 0} (items : List X) (at start end : ℕ) → start ≡ at → end ≡ start + min (length items - start) 64 → slice_range items start end ≡ take 64 (drop at items)
group_is items at start end from to =
    let long : end - start ≡ min 64 (length (drop start items)) = omega (arith, to, length-drop start items) in
    ap (λ n. take n (drop start items)) long ∙ take_min 64 (drop start items) ∙ ap (λ n. take 64 (drop n items)) from

-- one more group of items: what its word keeps comes behind what was kept before
pub group_more : {X : Type 0} (bits : List Bool) (items : List X) (k start end next word : ℕ) (before now : List X) → length bits ≡ length items → start ≡ 64 * k → start ≤ length items → end ≡ start + min (length items - start) 64 → next ≡ 64 * (k + 1) → word ≡ word_of bits k → before ≡ kept_by (take (64 * k) bits) (take (64 * k) items) → now ≡ before ++ kept_in word (slice_range items start end) → now ≡ kept_by (take next bits) (take next items)
group_more bits items k start end next word before now same from room to after is so_far more =
    more
    ∙ ap (λ ys. ys ++ kept_in word (slice_range items start end)) so_far
    ∙ ap (λ w. kept_by (take (64 * k) bits) (take (64 * k) items) ++ kept_in w (slice_range items start end)) is
    ∙ ap (λ ys. kept_by (take (64 * k) bits) (take (64 * k) items) ++ kept_in (word_of bits k) ys) (group_is items (64 * k) start end from to)
    ∙ sym (kept_word_more bits items k same)
    ∙ ap (λ n. kept_by (take n bits) (take n items)) (sym after)
