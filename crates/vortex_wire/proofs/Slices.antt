-- Parts of a list by place.
use Rattle.std.proofs.Common.{◌≡◌, ◌≤◌, ◌+◌, ◌-◌, ◌++◌, ◌∙◌, ap, arith, ℕ, List, [], ◌∷◌, length, length-drop, length-take, take, drop, refl}
use Rattle.std.proofs.Math.Seq.{take-add}
use Rattle.std.proofs.lemmas.List.{take_all, take-append-le, drop-drop}
use Rattle.std.specs.List.{slice_range}

-- the part from a place to the end
pub slice_to_end : (xs : List ℕ) (at : ℕ) → slice_range xs at (length xs) ≡ drop at xs
slice_to_end xs at = take_all (length xs - at) (drop at xs) (omega (arith, length-drop at xs))

pub length_slice : (xs : List ℕ) (at end : ℕ) → at ≤ end → end ≤ length xs → length (slice_range xs at end) + at ≡ end
length_slice xs at end order inside = omega (arith, length-take (end - at) (drop at xs), length-drop at xs)

-- a part is a nearer part and what is behind that
pub slice_join : (xs : List ℕ) (at middle end : ℕ) → at ≤ middle → middle ≤ end → slice_range xs at end ≡ slice_range xs at middle ++ slice_range xs middle end
slice_join xs at middle end first second =
    let sum : end - at ≡ (middle - at) + (end - middle) = omega arith in
    let place : at + (middle - at) ≡ middle = omega arith in
    ap (λ n. take n (drop at xs)) sum
    ∙ take-add (middle - at) (end - middle) (drop at xs)
    ∙ ap (λ l. take (middle - at) (drop at xs) ++ take (end - middle) l) (drop-drop (middle - at) at xs ∙ ap (λ n. drop n xs) place)

-- the front of a part
pub slice_front : (xs : List ℕ) (at count end : ℕ) → at + count ≤ end → end ≤ length xs → take count (slice_range xs at end) ≡ slice_range xs at (at + count)
slice_front xs at count end inside all =
    let split = slice_join xs at (at + count) end (omega arith) inside in
    let size : count ≤ length (slice_range xs at (at + count)) = omega (arith, length_slice xs at (at + count) (omega arith) (omega arith)) in
    let exact : length (slice_range xs at (at + count)) ≤ count = omega (arith, length_slice xs at (at + count) (omega arith) (omega arith)) in
    ap (take count) split ∙ take-append-le count (slice_range xs at (at + count)) (slice_range xs (at + count) end) size ∙ take_all count _ exact

-- what is behind one front
pub same_rest : (a x y : List ℕ) → a ++ x ≡ a ++ y → x ≡ y
same_rest [] x y e = e
same_rest (p ∷ ps) x y e = same_rest ps x y (let tails : ps ++ x ≡ ps ++ y = cc in tails)

-- fronts of one length
pub same_front : (a b x y : List ℕ) → length a ≡ length b → a ++ x ≡ b ++ y → a ≡ b
same_front [] [] x y size e = refl
same_front [] (q ∷ qs) x y size e = absurd (omega (arith, size))
same_front (p ∷ ps) [] x y size e = absurd (omega (arith, size))
same_front (p ∷ ps) (q ∷ qs) x y size e =
    let tails : ps ++ x ≡ qs ++ y = cc in
    let heads : p ≡ q = cc in
    let r = same_front ps qs x y (omega (arith, size)) tails in
    cc
