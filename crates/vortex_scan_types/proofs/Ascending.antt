-- Lists of places that ascend, and the part of one that lies in a range.
use Rattle.std.proofs.Common.{ℕ, suc, ◌+◌, ◌-◌, ◌<◌, ◌≤◌, ◌≡◌, Bool, true, false, ◌&&◌, cond, leb, ltb, List, [], ◌∷◌, length, get_or, take, drop, max, All, refl, sym, ap, ◌∙◌, subst, arith, ⊎_elim}
use Rattle.std.specs.List.{filter, prefix_len}
use Rattle.std.specs.List.Sorted.{IsNonDecreasingBy}
use Rattle.std.specs.Ordering.{nat_cmp}
use Rattle.std.specs.declared.cmp.Ordering.TheVariants.{Less}
use Rattle.std.proofs.lemmas.List.Elements.{All-nil, All-cons, All-head, All-tail, All-weaker}
use Rattle.std.proofs.lemmas.List.Sorted.{IsNonDecreasingBy-from_all_adjacent}
use Rattle.std.proofs.lemmas.Bool.{cases_lt}
use Rattle.vortex_scan_types.specs.Sorted.{Increases}

-- each item is less than all after it
abbrev pub Ascends : List ℕ → Type 0
Ascends [] = Unit {0}
Ascends (x ∷ xs) = All (λ y. x < y) xs × Ascends xs

-- what a comparison says
pub less_by_cmp : (x y : ℕ) → nat_cmp x y ≡ Less → x < y
less_by_cmp x y e = grind arith

-- what increases still does so behind its first item
increases_tail : (x y : ℕ) (ys : List ℕ) → Increases nat_cmp (x ∷ y ∷ ys) → Increases nat_cmp (y ∷ ys)
increases_tail x y ys h k d l =
    let e : suc k + 1 ≡ suc (k + 1) = omega arith in
    let m : suc k + 1 < length (x ∷ y ∷ ys) = omega arith in
    subst (λ n. nat_cmp (get_or (y ∷ ys) k d) (get_or (x ∷ y ∷ ys) n d) ≡ Less) e (h (suc k) d m)

-- from neighbours to all pairs
pub ascends : (xs : List ℕ) → Increases nat_cmp xs → Ascends xs
ascends [] h = tt
ascends (x ∷ []) h = (All-nil (λ y. x < y), tt)
ascends (x ∷ y ∷ ys) h =
    let rest = ascends (y ∷ ys) (increases_tail x y ys h) in
    let less : x < y = less_by_cmp x y (h 0 x (omega arith)) in
    (All-cons (λ z. x < z) y ys less (All-weaker (λ z. y < z) (λ z. x < z) (λ z l. omega (arith, less, l)) ys rest.0), rest)

-- whether a place is one of a stretch
abbrev pub between : ℕ → ℕ → ℕ → Bool
between first end place = leb first place && ltb place end

-- past the end of a stretch there is none of its places
pub filter_past : (first end : ℕ) (xs : List ℕ) → All (λ y. end ≤ y) xs → filter (between first end) xs ≡ []
filter_past first end [] h = refl
filter_past first end (x ∷ xs) h =
    let past : end ≤ x = All-head (λ y. end ≤ y) x xs h in
    let out : between first end x ≡ false = grind arith in
    ap (λ b. cond b (x ∷ filter (between first end) xs) (filter (between first end) xs)) out
    ∙ filter_past first end xs (All-tail (λ y. end ≤ y) x xs h)

-- from a bound on there is nothing below it
pub nothing_below : (bound : ℕ) (xs : List ℕ) → All (λ y. bound ≤ y) xs → prefix_len (λ y. ltb y bound) xs ≡ 0
nothing_below bound [] h = refl
nothing_below bound (x ∷ xs) h =
    let past : bound ≤ x = All-head (λ y. bound ≤ y) x xs h in
    let out : ltb x bound ≡ false = grind arith in
    ap (λ b. cond b (1 + prefix_len (λ y. ltb y bound) xs) 0) out

-- a number is below another, or not, as the test says
pub below_yes : (x y : ℕ) → x < y → ltb x y ≡ true
below_yes x y l = grind arith

below_no : (x y : ℕ) → y ≤ x → ltb x y ≡ false
below_no x y l = grind arith

between_yes : (first end x : ℕ) → first ≤ x → x < end → between first end x ≡ true
between_yes first end x l m = grind arith

before_it : (first end x : ℕ) → x < first → between first end x ≡ false
before_it first end x l = grind arith

after_it : (first end x : ℕ) → end ≤ x → between first end x ≡ false
after_it first end x l = grind arith

-- the items that come after one are not below what is no greater than it
rest_past : (bound x : ℕ) (xs : List ℕ) → bound ≤ x → All (λ y. x < y) xs → All (λ y. bound ≤ y) xs
rest_past bound x xs l h = All-weaker (λ y. x < y) (λ y. bound ≤ y) (λ y m. omega (arith, l, m)) xs h

-- a prefix that takes the first item, and one that does not
prefix_yes : (bound x : ℕ) (xs : List ℕ) → x < bound → prefix_len (λ y. ltb y bound) (x ∷ xs) ≡ suc (prefix_len (λ y. ltb y bound) xs)
prefix_yes bound x xs l =
    ap (λ b. cond b (1 + prefix_len (λ y. ltb y bound) xs) 0) (below_yes x bound l) ∙ omega arith

prefix_no : (bound x : ℕ) (xs : List ℕ) → bound ≤ x → prefix_len (λ y. ltb y bound) (x ∷ xs) ≡ 0
prefix_no bound x xs l = ap (λ b. cond b (1 + prefix_len (λ y. ltb y bound) xs) 0) (below_no x bound l)

-- a part of a list from one place to another, by where it begins and ends
abbrev part : ℕ → ℕ → List ℕ → List ℕ
part a b xs = take (b - a) (drop a xs)

part_skips : (a b x : ℕ) (xs : List ℕ) → part (suc a) (suc b) (x ∷ xs) ≡ part a b xs
part_skips a b x xs = let e : suc b - suc a ≡ b - a = omega arith in ap (λ n. take n (drop a xs)) e

part_ends : (a : ℕ) (xs : List ℕ) → part a 0 xs ≡ []
part_ends a xs = let e : 0 - a ≡ 0 = omega arith in ap (λ n. take n (drop a xs)) e

part_takes : (b x : ℕ) (xs : List ℕ) → part 0 (suc b) (x ∷ xs) ≡ x ∷ part 0 b xs
part_takes b x xs =
    let e : suc b - 0 ≡ suc b = omega arith in
    let f : b ≡ b - 0 = omega arith in
    ap (λ n. take n (x ∷ xs)) e ∙ ap (λ n. x ∷ take n xs) f

-- the part of an ascending list between two bounds
pub part_between : (first end : ℕ) (xs : List ℕ) → Ascends xs → filter (between first end) xs ≡ take (prefix_len (λ y. ltb y end) xs - prefix_len (λ y. ltb y first) xs) (drop (prefix_len (λ y. ltb y first) xs) xs)
part_between first end [] h = let e : 0 - 0 ≡ 0 = omega arith in ap (λ n. take n []) (sym e)
part_between first end (x ∷ xs) h =
    let more = part_between first end xs h.1 in
    let kept = filter (between first end) xs in
    let a = prefix_len (λ y. ltb y first) xs in
    let b = prefix_len (λ y. ltb y end) xs in
    ⊎_elim
    (λ (before : x < first).
    ap (λ t. cond t (x ∷ kept) kept) (before_it first end x before)
    ∙ ⊎_elim
    (λ (low : x < end). more ∙ sym (part_skips a b x xs) ∙ sym (ap (λ n. part (suc a) n (x ∷ xs)) (prefix_yes end x xs low)) ∙ sym (ap (λ n. part n (prefix_len (λ y. ltb y end) (x ∷ xs)) (x ∷ xs)) (prefix_yes first x xs before)))
    (λ (high : end ≤ x). filter_past first end xs (rest_past end x xs high h.0) ∙ sym (part_ends (prefix_len (λ y. ltb y first) (x ∷ xs)) (x ∷ xs)) ∙ sym (ap (λ n. part (prefix_len (λ y. ltb y first) (x ∷ xs)) n (x ∷ xs)) (prefix_no end x xs high)))
    (cases_lt x end))
    (λ (from : first ≤ x).
    ⊎_elim
    (λ (low : x < end).
    ap (λ t. cond t (x ∷ kept) kept) (between_yes first end x from low)
    ∙ ap (λ ys. x ∷ ys) (more ∙ ap (λ n. part n b xs) (nothing_below first xs (rest_past first x xs from h.0)))
    ∙ sym (part_takes b x xs)
    ∙ sym (ap (λ n. part 0 n (x ∷ xs)) (prefix_yes end x xs low))
    ∙ sym (ap (λ n. part n (prefix_len (λ y. ltb y end) (x ∷ xs)) (x ∷ xs)) (prefix_no first x xs from)))
    (λ (high : end ≤ x).
    ap (λ t. cond t (x ∷ kept) kept) (after_it first end x high)
    ∙ filter_past first end xs (rest_past end x xs high h.0)
    ∙ sym (part_ends (prefix_len (λ y. ltb y first) (x ∷ xs)) (x ∷ xs))
    ∙ sym (ap (λ n. part (prefix_len (λ y. ltb y first) (x ∷ xs)) n (x ∷ xs)) (prefix_no end x xs high)))
    (cases_lt x end))
    (cases_lt x first)

-- what increases strictly does not fall, as a search asks
pub rises : (xs : List ℕ) → Increases nat_cmp xs → IsNonDecreasingBy (λ x. x) xs
rises xs h = IsNonDecreasingBy-from_all_adjacent (λ x. x) xs (λ k d l. omega (arith, less_by_cmp (get_or xs k d) (get_or xs (k + 1) d) (h k d l)))

-- the part of a list that two searches find
pub part_found : (first end a b m : ℕ) (xs : List ℕ) → Increases nat_cmp xs → a ≡ prefix_len (λ y. ltb y first) xs → b ≡ prefix_len (λ y. ltb y end) xs → m ≡ max b a → take (m - a) (drop a xs) ≡ filter (between first end) xs
part_found first end a b m xs h at_first at_end most =
    let e : m - a ≡ b - a = omega (arith, most) in
    ap (λ n. take n (drop a xs)) e
    ∙ ap (λ n. part a n xs) at_end
    ∙ ap (λ n. part n (prefix_len (λ y. ltb y end) xs) xs) at_first
    ∙ sym (part_between first end xs (ascends xs h))
