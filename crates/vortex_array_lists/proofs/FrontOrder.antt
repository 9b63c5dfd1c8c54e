-- The fronts of lists of bytes as numbers, and how they say which list comes first.
use Rattle.std.proofs.Common.{ℕ, zero, suc, true, false, inl, inr, ◌≢◌, ◌<◌, ◌≤◌, ◌≡◌, ◌+◌, ◌-◌, ◌*◌, ◌/◌, ◌^◌, List, [], ◌∷◌, length, get_or, take, drop, min, refl, sym, ap, ◌∙◌, arith, length-drop}
use Rattle.std.specs.Prelude.{◌⊎◌, nat_eq, slice_range}
use Rattle.std.specs.Int.{from_be_bytes, w64}
use Rattle.std.specs.Ordering.{MatchOrdering, is_eq, nat_cmp, ordering_then}
use Rattle.std.specs.Cmp.Lexicographic.{pointwise, slice_cmp, texts_ties, unequal}
use Rattle.std.specs.declared.cmp.Ordering.{Ordering}
use Rattle.std.specs.declared.cmp.Ordering.TheVariants.{Less, Equal, Greater}
use Rattle.std.proofs.Math.Nat.{pow-suc}
use Rattle.std.specs.Cmp.{ranks}
use Rattle.std.proofs.lemmas.Nat.{div-mul-add, mul-add-lt, pow_pos}
use Rattle.std.proofs.lemmas.List.{get_or-drop, take_all}
use Rattle.std.proofs.lemmas.Bool.{cases_lt}
use Rattle.vortex_array_lists.specs.Fronts.{first_number, front_number}

-- numbers that are bytes
abbrev pub AllBytes : List ℕ → Type 0
AllBytes xs = (k : ℕ) → get_or xs k 0 < 256

-- the bytes of an array of eight, with zeros behind the end
pub eight-bytes : (xs : List ℕ) → from_be_bytes w64 (get_or xs 0 0 ∷ get_or xs 1 0 ∷ get_or xs 2 0 ∷ get_or xs 3 0 ∷ get_or xs 4 0 ∷ get_or xs 5 0 ∷ get_or xs 6 0 ∷ get_or xs 7 0 ∷ []) ≡ front_number xs
unfolding front_number first_number
eight-bytes [] = omega arith
eight-bytes (a ∷ []) = omega arith
eight-bytes (a ∷ b ∷ []) = omega arith
eight-bytes (a ∷ b ∷ c ∷ []) = omega arith
eight-bytes (a ∷ b ∷ c ∷ d ∷ []) = omega arith
eight-bytes (a ∷ b ∷ c ∷ d ∷ e ∷ []) = omega arith
eight-bytes (a ∷ b ∷ c ∷ d ∷ e ∷ f ∷ []) = omega arith
eight-bytes (a ∷ b ∷ c ∷ d ∷ e ∷ f ∷ g ∷ []) = omega arith
eight-bytes (a ∷ b ∷ c ∷ d ∷ e ∷ f ∷ g ∷ h ∷ xs) = omega arith

-- behind eight bytes nothing is cleared
uncleared : (word k : ℕ) → k ≡ 0 → word / 2 ^ k * 2 ^ k ≡ word
uncleared word k e = rw e (omega arith)

-- what lies behind the first bytes is cleared
clear : (word q w r : ℕ) → word ≡ q * w + r → r < w → word / w * w ≡ q * w
clear word q w r e l = rw e (ap (λ z. z * w) (div-mul-add q w r l))

pub shifted : (c : ℕ) → c < 8 → 18446744073709551615 / 2 ^ (8 * c) ≡ 2 ^ (64 - 8 * c) - 1
shifted zero l = refl
shifted (suc zero) l = refl
shifted (suc (suc zero)) l = refl
shifted (suc (suc (suc zero))) l = refl
shifted (suc (suc (suc (suc zero)))) l = refl
shifted (suc (suc (suc (suc (suc zero))))) l = refl
shifted (suc (suc (suc (suc (suc (suc zero)))))) l = refl
shifted (suc (suc (suc (suc (suc (suc (suc zero))))))) l = refl
shifted (suc (suc (suc (suc (suc (suc (suc (suc n)))))))) l = absurd (omega arith)

pub cleared : (xs : List ℕ) (c : ℕ) → AllBytes xs → 8 ≤ length xs → front_number (take 8 xs) / 2 ^ (64 - 8 * c) * 2 ^ (64 - 8 * c) ≡ front_number (take c xs)
unfolding front_number first_number
cleared [] n bytes l = absurd (omega arith)
cleared (a ∷ []) n bytes l = absurd (omega arith)
cleared (a ∷ b ∷ []) n bytes l = absurd (omega arith)
cleared (a ∷ b ∷ c ∷ []) n bytes l = absurd (omega arith)
cleared (a ∷ b ∷ c ∷ d ∷ []) n bytes l = absurd (omega arith)
cleared (a ∷ b ∷ c ∷ d ∷ e ∷ []) n bytes l = absurd (omega arith)
cleared (a ∷ b ∷ c ∷ d ∷ e ∷ f ∷ []) n bytes l = absurd (omega arith)
cleared (a ∷ b ∷ c ∷ d ∷ e ∷ f ∷ g ∷ []) n bytes l = absurd (omega arith)
cleared (a ∷ b ∷ c ∷ d ∷ e ∷ f ∷ g ∷ h ∷ xs) zero bytes l = clear _ (0) 18446744073709551616 (a * 72057594037927936 + b * 281474976710656 + c * 1099511627776 + d * 4294967296 + e * 16777216 + f * 65536 + g * 256 + h * 1) (omega arith) (omega (arith, bytes 0, bytes 1, bytes 2, bytes 3, bytes 4, bytes 5, bytes 6, bytes 7)) ∙ omega arith
cleared (a ∷ b ∷ c ∷ d ∷ e ∷ f ∷ g ∷ h ∷ xs) (suc zero) bytes l = clear _ (a * 1) 72057594037927936 (b * 281474976710656 + c * 1099511627776 + d * 4294967296 + e * 16777216 + f * 65536 + g * 256 + h * 1) (omega arith) (omega (arith, bytes 1, bytes 2, bytes 3, bytes 4, bytes 5, bytes 6, bytes 7)) ∙ omega arith
cleared (a ∷ b ∷ c ∷ d ∷ e ∷ f ∷ g ∷ h ∷ xs) (suc (suc zero)) bytes l = clear _ (a * 256 + b * 1) 281474976710656 (c * 1099511627776 + d * 4294967296 + e * 16777216 + f * 65536 + g * 256 + h * 1) (omega arith) (omega (arith, bytes 2, bytes 3, bytes 4, bytes 5, bytes 6, bytes 7)) ∙ omega arith
cleared (a ∷ b ∷ c ∷ d ∷ e ∷ f ∷ g ∷ h ∷ xs) (suc (suc (suc zero))) bytes l = clear _ (a * 65536 + b * 256 + c * 1) 1099511627776 (d * 4294967296 + e * 16777216 + f * 65536 + g * 256 + h * 1) (omega arith) (omega (arith, bytes 3, bytes 4, bytes 5, bytes 6, bytes 7)) ∙ omega arith
cleared (a ∷ b ∷ c ∷ d ∷ e ∷ f ∷ g ∷ h ∷ xs) (suc (suc (suc (suc zero)))) bytes l = clear _ (a * 16777216 + b * 65536 + c * 256 + d * 1) 4294967296 (e * 16777216 + f * 65536 + g * 256 + h * 1) (omega arith) (omega (arith, bytes 4, bytes 5, bytes 6, bytes 7)) ∙ omega arith
cleared (a ∷ b ∷ c ∷ d ∷ e ∷ f ∷ g ∷ h ∷ xs) (suc (suc (suc (suc (suc zero))))) bytes l = clear _ (a * 4294967296 + b * 16777216 + c * 65536 + d * 256 + e * 1) 16777216 (f * 65536 + g * 256 + h * 1) (omega arith) (omega (arith, bytes 5, bytes 6, bytes 7)) ∙ omega arith
cleared (a ∷ b ∷ c ∷ d ∷ e ∷ f ∷ g ∷ h ∷ xs) (suc (suc (suc (suc (suc (suc zero)))))) bytes l = clear _ (a * 1099511627776 + b * 4294967296 + c * 16777216 + d * 65536 + e * 256 + f * 1) 65536 (g * 256 + h * 1) (omega arith) (omega (arith, bytes 6, bytes 7)) ∙ omega arith
cleared (a ∷ b ∷ c ∷ d ∷ e ∷ f ∷ g ∷ h ∷ xs) (suc (suc (suc (suc (suc (suc (suc zero))))))) bytes l = clear _ (a * 281474976710656 + b * 1099511627776 + c * 4294967296 + d * 16777216 + e * 65536 + f * 256 + g * 1) 256 (h * 1) (omega arith) (omega (arith, bytes 7)) ∙ omega arith
cleared (a ∷ b ∷ c ∷ d ∷ e ∷ f ∷ g ∷ h ∷ xs) (suc (suc (suc (suc (suc (suc (suc (suc n)))))))) bytes l = uncleared _ _ (omega arith)

-- the mask that keeps what is not behind
pub mask-is : (k m : ℕ) → m ≡ 2 ^ k - 1 → k ≤ 64 → 18446744073709551615 - m ≡ 2 ^ 64 - 2 ^ k
mask-is k m e l = omega (arith, e, pow_pos k)

-- a front is below the number of lists of so many bytes
pub front-below : (n : ℕ) (xs : List ℕ) → AllBytes xs → first_number n xs < 256 ^ n
unfolding first_number
front-below zero xs b = omega arith
front-below (suc n) [] b = rw (pow-suc 256 n) (omega (arith, front-below n [] b))
front-below (suc n) (x ∷ xs) b = rw (pow-suc 256 n) (mul-add-lt x (256 ^ n) (first_number n xs) 256 (b 0) (front-below n xs (λ k. b (suc k))))

-- `nat_cmp`, by how its arguments lie
is_less : (x y : ℕ) (r : Ordering) → MatchOrdering r (x < y) (x ≡ y) (y < x) → x < y → r ≡ Less
is_less x y Less h l = refl
is_less x y Equal h l = let e : x ≡ y = h in absurd (omega arith)
is_less x y Greater h l = let e : y < x = h in absurd (omega arith)

is_equal : (x y : ℕ) (r : Ordering) → MatchOrdering r (x < y) (x ≡ y) (y < x) → x ≡ y → r ≡ Equal
is_equal x y Less h l = let e : x < y = h in absurd (omega arith)
is_equal x y Equal h l = refl
is_equal x y Greater h l = let e : y < x = h in absurd (omega arith)

is_greater : (x y : ℕ) (r : Ordering) → MatchOrdering r (x < y) (x ≡ y) (y < x) → y < x → r ≡ Greater
is_greater x y Less h l = let e : x < y = h in absurd (omega arith)
is_greater x y Equal h l = let e : x ≡ y = h in absurd (omega arith)
is_greater x y Greater h l = refl

pub cmp-less : (x y : ℕ) → x < y → nat_cmp x y ≡ Less
cmp-less x y l = is_less x y (nat_cmp x y) (ranks x y) l

pub cmp-greater : (x y : ℕ) → y < x → nat_cmp x y ≡ Greater
cmp-greater x y l = is_greater x y (nat_cmp x y) (ranks x y) l

cmp-equal : (x y : ℕ) → x ≡ y → nat_cmp x y ≡ Equal
cmp-equal x y l = is_equal x y (nat_cmp x y) (ranks x y) l

-- a greater first byte makes a greater front
not-below : (x y p f g : ℕ) → y < x → g < p → x * p + f < y * p + g → ⊥
not-below x y p f g l small h = omega (arith, l, small, h, mul-add-lt y p g x l small)

-- the lesser front comes first
pub front-less : (n : ℕ) (xs ys : List ℕ) → AllBytes xs → AllBytes ys → first_number n xs < first_number n ys → slice_cmp nat_cmp xs ys ≡ Less
unfolding first_number
front-less zero xs ys b d h = absurd (omega arith)
front-less (suc n) [] [] b d h = absurd (omega arith)
front-less (suc n) [] (y ∷ ys) b d h = refl
front-less (suc n) (x ∷ xs) [] b d h = absurd (omega arith)
front-less (suc n) (x ∷ xs) (y ∷ ys) b d h = by_first (cases_lt x y) (cases_lt y x) (λ k. front-less n xs ys (λ i. b (suc i)) (λ i. d (suc i)) k)
  where
    by_first : (x < y) ⊎ (y ≤ x) → (y < x) ⊎ (x ≤ y) → (first_number n xs < first_number n ys → slice_cmp nat_cmp xs ys ≡ Less) → slice_cmp nat_cmp (x ∷ xs) (y ∷ ys) ≡ Less
    by_first (inl l) k behind = ap (λ o. ordering_then o (slice_cmp nat_cmp xs ys)) (cmp-less x y l)
    by_first (inr l) (inl k) behind = absurd (not-below x y (256 ^ n) (first_number n xs) (first_number n ys) k (front-below n ys (λ i. d (suc i))) h)
    by_first (inr l) (inr k) behind =
        let same : x ≡ y = omega (arith, l, k) in
        let rest : first_number n xs < first_number n ys = omega (arith, rw same at h) in
        ap (λ o. ordering_then o (slice_cmp nat_cmp xs ys)) (cmp-equal x y same) ∙ behind rest

-- and the greater one behind
pub front-greater : (n : ℕ) (xs ys : List ℕ) → AllBytes xs → AllBytes ys → first_number n ys < first_number n xs → slice_cmp nat_cmp xs ys ≡ Greater
unfolding first_number
front-greater zero xs ys b d h = absurd (omega arith)
front-greater (suc n) [] [] b d h = absurd (omega arith)
front-greater (suc n) [] (y ∷ ys) b d h = absurd (omega arith)
front-greater (suc n) (x ∷ xs) [] b d h = refl
front-greater (suc n) (x ∷ xs) (y ∷ ys) b d h = by_first (cases_lt y x) (cases_lt x y) (λ k. front-greater n xs ys (λ i. b (suc i)) (λ i. d (suc i)) k)
  where
    by_first : (y < x) ⊎ (x ≤ y) → (x < y) ⊎ (y ≤ x) → (first_number n ys < first_number n xs → slice_cmp nat_cmp xs ys ≡ Greater) → slice_cmp nat_cmp (x ∷ xs) (y ∷ ys) ≡ Greater
    by_first (inl l) k behind = ap (λ o. ordering_then o (slice_cmp nat_cmp xs ys)) (cmp-greater x y l)
    by_first (inr l) (inl k) behind = absurd (not-below y x (256 ^ n) (first_number n ys) (first_number n xs) k (front-below n xs (λ i. b (suc i))) h)
    by_first (inr l) (inr k) behind =
        let same : x ≡ y = omega (arith, l, k) in
        let rest : first_number n ys < first_number n xs = omega (arith, rw same at h) in
        ap (λ o. ordering_then o (slice_cmp nat_cmp xs ys)) (cmp-equal x y same) ∙ behind rest

-- the bytes behind a place
pub bytes-behind : (xs : List ℕ) (start : ℕ) → AllBytes xs → AllBytes (drop start xs)
bytes-behind xs start b k = rw (get_or-drop start xs k 0) (b (start + k))

-- the first bytes of them
pub bytes-before : (n : ℕ) (xs : List ℕ) → AllBytes xs → AllBytes (take n xs)
bytes-before zero xs b k = omega arith
bytes-before (suc n) [] b k = omega arith
bytes-before (suc n) (x ∷ xs) b zero = b 0
bytes-before (suc n) (x ∷ xs) b (suc k) = bytes-before n xs (λ i. b (suc i)) k

-- the bytes between two places
pub bytes-between : (xs : List ℕ) (start end : ℕ) → AllBytes xs → AllBytes (slice_range xs start end)
bytes-between xs start end b = bytes-before (end - start) (drop start xs) (bytes-behind xs start b)

-- fronts that differ stand as their lists do
pub front-tells : (xs ys : List ℕ) (front other : ℕ) → AllBytes xs → AllBytes ys → front ≡ front_number xs → other ≡ front_number ys → (front ≡ other → ⊥) → nat_cmp front other ≡ slice_cmp nat_cmp xs ys
unfolding front_number
front-tells xs ys front other b d e f n = by_side (cases_lt front other) (cases_lt other front)
  where
    by_side : (front < other) ⊎ (other ≤ front) → (other < front) ⊎ (front ≤ other) → nat_cmp front other ≡ slice_cmp nat_cmp xs ys
    by_side (inl l) k = cmp-less front other l ∙ sym (front-less 8 xs ys b d (rw (sym e, sym f) l))
    by_side (inr l) (inl k) = cmp-greater front other k ∙ sym (front-greater 8 xs ys b d (rw (sym e, sym f) k))
    by_side (inr l) (inr k) = absurd (n (omega (arith, l, k)))

-- no list of bytes is two lists of different lengths
pub lengths-differ : (xs ys : List ℕ) → length xs ≢ length ys → is_eq (slice_cmp nat_cmp xs ys) ≡ false
lengths-differ xs ys n = sym (texts_ties xs ys) ∙ unequal nat_eq xs ys n

-- numbers that differ are not equal
cmp-differs : (x y : ℕ) → (x ≡ y → ⊥) → is_eq (nat_cmp x y) ≡ false
cmp-differs x y n = by_side (cases_lt x y) (cases_lt y x)
  where
    by_side : (x < y) ⊎ (y ≤ x) → (y < x) ⊎ (x ≤ y) → is_eq (nat_cmp x y) ≡ false
    by_side (inl l) k = ap is_eq (cmp-less x y l)
    by_side (inr l) (inl k) = ap is_eq (cmp-greater x y k)
    by_side (inr l) (inr k) = absurd (n (omega (arith, l, k)))

-- lists whose fronts differ are not equal
pub fronts-differ : (xs ys : List ℕ) (front other : ℕ) → AllBytes xs → AllBytes ys → front ≡ front_number xs → other ≡ front_number ys → (front ≡ other → ⊥) → is_eq (slice_cmp nat_cmp xs ys) ≡ false
fronts-differ xs ys front other b d e f n = ap is_eq (sym (front-tells xs ys front other b d e f n)) ∙ cmp-differs front other n

-- two numbers of one more each stand as they do
cmp-suc : (a b : ℕ) → nat_cmp a b ≡ nat_cmp (suc a) (suc b)
cmp-suc a b = by_side (cases_lt a b) (cases_lt b a)
  where
    by_side : (a < b) ⊎ (b ≤ a) → (b < a) ⊎ (a ≤ b) → nat_cmp a b ≡ nat_cmp (suc a) (suc b)
    by_side (inl l) k = cmp-less a b l ∙ sym (cmp-less (suc a) (suc b) (omega arith))
    by_side (inr l) (inl k) = cmp-greater a b k ∙ sym (cmp-greater (suc a) (suc b) (omega arith))
    by_side (inr l) (inr k) = cmp-equal a b (omega (arith, l, k)) ∙ sym (cmp-equal (suc a) (suc b) (omega (arith, l, k)))

-- equal fronts have equal first bytes
same-first : (x y p f g : ℕ) → f < p → g < p → x * p + f ≡ y * p + g → x ≡ y
same-first x y p f g small other e = by_side (cases_lt x y) (cases_lt y x)
  where
    by_side : (x < y) ⊎ (y ≤ x) → (y < x) ⊎ (x ≤ y) → x ≡ y
    by_side (inl l) k = absurd (omega (arith, mul-add-lt x p f y l small, e))
    by_side (inr l) (inl k) = absurd (omega (arith, mul-add-lt y p g x k other, e))
    by_side (inr l) (inr k) = omega (arith, l, k)

-- and equal rests
same-rest : (x y p f g : ℕ) → x ≡ y → x * p + f ≡ y * p + g → f ≡ g
same-rest x y p f g same e = omega (arith, rw same at e)

-- equal bytes leave it to what is behind them
then-equal : (x y : ℕ) (xs ys : List ℕ) → x ≡ y → slice_cmp nat_cmp (x ∷ xs) (y ∷ ys) ≡ slice_cmp nat_cmp xs ys
then-equal x y xs ys e = ap (λ o. ordering_then o (slice_cmp nat_cmp xs ys)) (cmp-equal x y e)

-- lists with the same first n bytes, of which one has no more, stand as their lengths do
by-lengths : (n : ℕ) (xs ys : List ℕ) → AllBytes xs → AllBytes ys → first_number n xs ≡ first_number n ys → min (length xs) (length ys) ≤ n → slice_cmp nat_cmp xs ys ≡ nat_cmp (length xs) (length ys)
unfolding first_number
by-lengths n [] [] b d e s = sym (cmp-equal 0 0 refl)
by-lengths n [] (y ∷ ys) b d e s = sym (cmp-less 0 (suc (length ys)) (omega arith))
by-lengths n (x ∷ xs) [] b d e s = sym (cmp-greater (suc (length xs)) 0 (omega arith))
by-lengths zero (x ∷ xs) (y ∷ ys) b d e s = absurd (omega (arith, s))
by-lengths (suc n) (x ∷ xs) (y ∷ ys) b d e s =
    let small = front-below n xs (λ i. b (suc i)) in
    let other = front-below n ys (λ i. d (suc i)) in
    let first : x ≡ y = same-first x y (256 ^ n) (first_number n xs) (first_number n ys) small other e in
    let rest : first_number n xs ≡ first_number n ys = same-rest x y (256 ^ n) (first_number n xs) (first_number n ys) first e in
    then-equal x y xs ys first ∙ by-lengths n xs ys (λ i. b (suc i)) (λ i. d (suc i)) rest (omega (arith, s)) ∙ cmp-suc (length xs) (length ys)

-- lists with the same first n bytes stand as what is behind these does
by-rests : (n : ℕ) (xs ys : List ℕ) → AllBytes xs → AllBytes ys → first_number n xs ≡ first_number n ys → n ≤ length xs → n ≤ length ys → slice_cmp nat_cmp xs ys ≡ slice_cmp nat_cmp (drop n xs) (drop n ys)
unfolding first_number
by-rests zero xs ys b d e l m = refl
by-rests (suc n) [] ys b d e l m = absurd (omega (arith, l))
by-rests (suc n) (x ∷ xs) [] b d e l m = absurd (omega (arith, m))
by-rests (suc n) (x ∷ xs) (y ∷ ys) b d e l m =
    let small = front-below n xs (λ i. b (suc i)) in
    let other = front-below n ys (λ i. d (suc i)) in
    let first : x ≡ y = same-first x y (256 ^ n) (first_number n xs) (first_number n ys) small other e in
    let rest : first_number n xs ≡ first_number n ys = same-rest x y (256 ^ n) (first_number n xs) (first_number n ys) first e in
    then-equal x y xs ys first ∙ by-rests n xs ys (λ i. b (suc i)) (λ i. d (suc i)) rest (omega (arith, l)) (omega (arith, m))

-- the same of fronts
pub front-by-lengths : (xs ys : List ℕ) → AllBytes xs → AllBytes ys → front_number xs ≡ front_number ys → min (length xs) (length ys) ≤ 8 → slice_cmp nat_cmp xs ys ≡ nat_cmp (length xs) (length ys)
unfolding front_number
front-by-lengths xs ys b d e s = by-lengths 8 xs ys b d e s

-- all from the ninth byte on
behind-front : (xs : List ℕ) → slice_range xs 8 (length xs) ≡ drop 8 xs
behind-front xs = take_all (length xs - 8) (drop 8 xs) (omega (arith, length-drop 8 xs))

pub front-by-rests : (xs ys : List ℕ) → AllBytes xs → AllBytes ys → front_number xs ≡ front_number ys → 8 ≤ length xs → 8 ≤ length ys → slice_cmp nat_cmp (slice_range xs 8 (length xs)) (slice_range ys 8 (length ys)) ≡ slice_cmp nat_cmp xs ys
unfolding front_number
front-by-rests xs ys b d e l m =
    ap (λ a. slice_cmp nat_cmp a (slice_range ys 8 (length ys))) (behind-front xs) ∙ ap (slice_cmp nat_cmp (drop 8 xs)) (behind-front ys) ∙ sym (by-rests 8 xs ys b d e l m)

-- lists of one front and one length, of no more than eight bytes, are equal
pub front-whole : (xs ys : List ℕ) → AllBytes xs → AllBytes ys → front_number xs ≡ front_number ys → length xs ≡ length ys → length ys ≤ 8 → true ≡ is_eq (slice_cmp nat_cmp xs ys)
front-whole xs ys b d e long short = sym (ap is_eq (front-by-lengths xs ys b d e (omega (arith, long, short)) ∙ cmp-equal (length xs) (length ys) long))

-- longer ones are equal where what is behind their fronts is
pub front-and-rest : (xs ys : List ℕ) → AllBytes xs → AllBytes ys → front_number xs ≡ front_number ys → length xs ≡ length ys → 8 ≤ length ys → pointwise nat_eq (slice_range xs 8 (length xs)) (slice_range ys 8 (length ys)) ≡ is_eq (slice_cmp nat_cmp xs ys)
front-and-rest xs ys b d e long short =
    texts_ties (slice_range xs 8 (length xs)) (slice_range ys 8 (length ys)) ∙ ap is_eq (front-by-rests xs ys b d e (omega (arith, long, short)) short)
