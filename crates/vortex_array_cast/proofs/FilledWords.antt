-- Items that are filled word by word.
use Rattle.std.proofs.Common.{ℕ, zero, suc, ◌+◌, ◌-◌, ◌*◌, ◌/◌, ◌%◌, ◌<◌, ◌≡◌, Bool, true, false, cond, eqb, List, [], ◌∷◌, ◌++◌, length, get_or, take, drop, set, min, refl, sym, ap, ◌∙◌, arith, length-take, length-drop, take-add}
use Rattle.std.specs.Int.{bit_at}
use Rattle.std.specs.Prelude.{slice_range}
use Rattle.std.specs.Simd.Lanes.{mask_l}
use Rattle.std.proofs.lemmas.Nat.Bits.{bit_at-suc, bit_at_lowest}
use Rattle.std.proofs.lemmas.List.{take_more, take_more_set, take_min}
use Rattle.vortex_buffer.specs.Bits.{word_of}
use Rattle.vortex_array_cast.specs.Filled.{filled_in, filled_items}

pub length-filled_in : {X : Type 0} (fill : X) (word : ℕ) (xs : List X) → length (filled_in fill word xs) ≡ length xs
length-filled_in fill word [] = refl
length-filled_in fill word (x ∷ xs) = let rest = length-filled_in fill (word / 2) xs in omega (arith, rest)

-- an item that is filled by a word
get_or-filled_in : {X : Type 0} (fill : X) (word : ℕ) (xs : List X) (i : ℕ) (d e : X) → i < length xs → get_or (filled_in fill word xs) i e ≡ cond (eqb (bit_at word i) 1) (get_or xs i d) fill
get_or-filled_in fill word [] i d e l = absurd (omega (arith, l))
get_or-filled_in fill word (x ∷ xs) zero d e l = ap (λ n. cond (eqb n 1) x fill) (sym (bit_at_lowest word))
get_or-filled_in fill word (x ∷ xs) (suc i) d e l =
    get_or-filled_in fill (word / 2) xs i d e (omega (arith, l))
    ∙ ap (λ n. cond (eqb n 1) (get_or xs i d) fill) (sym (bit_at-suc word i))

-- one more item written, behind those that stand there
pub write-more : {X : Type 0} (fill : X) (word : ℕ) (group room : List X) (i bit : ℕ) (x y : X) → i < length group → i < length room → x ≡ get_or group i x → bit ≡ bit_at word i → y ≡ cond (eqb bit 1) x fill → take i room ≡ take i (filled_in fill word group) → take (i + 1) (set room i y) ≡ take (i + 1) (filled_in fill word group)
write-more fill word group room i bit x y inside space read is made so_far =
    let all = filled_in fill word group in
    let here : y ≡ get_or all i y = made ∙ ap (λ n. cond (eqb n 1) x fill) is ∙ ap (λ z. cond (eqb (bit_at word i) 1) z fill) read ∙ sym (get_or-filled_in fill word group i x y inside) in
    take_more_set room i y space
    ∙ ap (λ zs. zs ++ y ∷ []) so_far
    ∙ ap (λ z. take i all ++ z ∷ []) here
    ∙ sym (take_more all i y (omega (arith, inside, length-filled_in fill word group)))

-- what a word fills is what its bits fill
filled_in-mask : {X : Type 0} (fill : X) (ms : List Bool) (xs : List X) → length ms ≡ length xs → filled_in fill (mask_l ms) xs ≡ filled_items fill xs ms
filled_in-mask fill [] [] e = refl
filled_in-mask fill [] (x ∷ xs) e = absurd (omega (arith, e))
filled_in-mask fill (m ∷ ms) [] e = refl
filled_in-mask fill (true ∷ ms) (x ∷ xs) e =
    let odd : (1 + 2 * mask_l ms) % 2 ≡ 1 = omega arith in
    let half : (1 + 2 * mask_l ms) / 2 ≡ mask_l ms = omega arith in
    ap (λ n. cond (eqb n 1) x fill ∷ filled_in fill ((1 + 2 * mask_l ms) / 2) xs) odd
    ∙ ap (λ w. x ∷ filled_in fill w xs) half
    ∙ ap (λ ys. x ∷ ys) (filled_in-mask fill ms xs (omega (arith, e)))
filled_in-mask fill (false ∷ ms) (x ∷ xs) e =
    let even : (0 + 2 * mask_l ms) % 2 ≡ 0 = omega arith in
    let half : (0 + 2 * mask_l ms) / 2 ≡ mask_l ms = omega arith in
    ap (λ n. cond (eqb n 1) x fill ∷ filled_in fill ((0 + 2 * mask_l ms) / 2) xs) even
    ∙ ap (λ w. fill ∷ filled_in fill w xs) half
    ∙ ap (λ ys. fill ∷ ys) (filled_in-mask fill ms xs (omega (arith, e)))

-- what is filled of two lists in a row
filled-append : {X : Type 0} (fill : X) (xs ys : List X) (as₁ bs₁ : List Bool) → length as₁ ≡ length xs → filled_items fill (xs ++ ys) (as₁ ++ bs₁) ≡ filled_items fill xs as₁ ++ filled_items fill ys bs₁
filled-append fill [] ys [] bs₁ e = refl
filled-append fill [] ys (a ∷ as₁) bs₁ e = absurd (omega (arith, e))
filled-append fill (x ∷ xs) ys [] bs₁ e = absurd (omega (arith, e))
filled-append fill (x ∷ xs) ys (a ∷ as₁) bs₁ e = ap (λ zs. cond a x fill ∷ zs) (filled-append fill xs ys as₁ bs₁ (omega (arith, e)))

-- what word k fills of its group of items is what its bits fill
filled_group : {X : Type 0} (fill : X) (bits : List Bool) (items : List X) (k : ℕ) → length bits ≡ length items → filled_in fill (word_of bits k) (take 64 (drop (64 * k) items)) ≡ filled_items fill (take 64 (drop (64 * k) items)) (take 64 (drop (64 * k) bits))
unfolding word_of
filled_group fill bits items k same =
    filled_in-mask fill (take 64 (drop (64 * k) bits)) (take 64 (drop (64 * k) items))
    (omega (arith, length-take 64 (drop (64 * k) bits), length-drop (64 * k) bits, length-take 64 (drop (64 * k) items), length-drop (64 * k) items, same))

-- what bits fill of one more word of items
filled_word_more : {X : Type 0} (fill : X) (bits : List Bool) (items : List X) (k : ℕ) → length bits ≡ length items → filled_items fill (take (64 * (k + 1)) items) (take (64 * (k + 1)) bits) ≡ filled_items fill (take (64 * k) items) (take (64 * k) bits) ++ filled_in fill (word_of bits k) (take 64 (drop (64 * k) items))
filled_word_more fill bits items k same =
    let next : 64 * (k + 1) ≡ 64 * k + 64 = omega arith in
    let fronts : length (take (64 * k) bits) ≡ length (take (64 * k) items) = omega (arith, length-take (64 * k) bits, length-take (64 * k) items, same) in
    ap (λ n. filled_items fill (take n items) (take n bits)) next
    ∙ ap (λ s. filled_items fill (take (64 * k + 64) items) s) (take-add (64 * k) 64 bits)
    ∙ ap (λ s. filled_items fill s (take (64 * k) bits ++ take 64 (drop (64 * k) bits))) (take-add (64 * k) 64 items)
    ∙ filled-append fill (take (64 * k) items) (take 64 (drop (64 * k) items)) (take (64 * k) bits) (take 64 (drop (64 * k) bits)) fronts
    ∙ ap (λ ys. filled_items fill (take (64 * k) items) (take (64 * k) bits) ++ ys) (sym (filled_group fill bits items k same))

-- a group is 64 items, or as many as there are
group_is : {X : Type 0} (items : List X) (at start end : ℕ) → start ≡ at → end ≡ start + min (length items - start) 64 → slice_range items start end ≡ take 64 (drop at items)
group_is items at start end from to =
    let long : end - start ≡ min 64 (length (drop start items)) = omega (arith, to, length-drop start items) in
    ap (λ n. take n (drop start items)) long ∙ take_min 64 (drop start items) ∙ ap (λ n. take 64 (drop n items)) from

-- one more group of items: what its word fills comes behind what was filled before
pub fill-group : {X : Type 0} (fill : X) (bits : List Bool) (items : List X) (k start end next word : ℕ) (before now : List X) → length bits ≡ length items → start ≡ 64 * k → end ≡ start + min (length items - start) 64 → next ≡ 64 * (k + 1) → word ≡ word_of bits k → before ≡ filled_items fill (take (64 * k) items) (take (64 * k) bits) → now ≡ before ++ filled_in fill word (slice_range items start end) → now ≡ filled_items fill (take next items) (take next bits)
fill-group fill bits items k start end next word before now same from to after is so_far more =
    more
    ∙ ap (λ ys. ys ++ filled_in fill word (slice_range items start end)) so_far
    ∙ ap (λ w. filled_items fill (take (64 * k) items) (take (64 * k) bits) ++ filled_in fill w (slice_range items start end)) is
    ∙ ap (λ ys. filled_items fill (take (64 * k) items) (take (64 * k) bits) ++ filled_in fill (word_of bits k) ys) (group_is items (64 * k) start end from to)
    ∙ sym (filled_word_more fill bits items k same)
    ∙ ap (λ n. filled_items fill (take n items) (take n bits)) (sym after)
