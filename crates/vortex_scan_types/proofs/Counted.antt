-- How many places of a stretch a list holds.
use Rattle.std.proofs.Common.{ℕ, zero, suc, ◌+◌, ◌-◌, ◌<◌, ◌≤◌, ◌≡◌, ◌≢◌, Bool, true, false, not, ◌&&◌, ◌||◌, cond, eqb, List, [], ◌∷◌, ◌++◌, length, map, replicate, All, refl, sym, ap, ◌∙◌, arith, ⊎_elim}
use Rattle.std.specs.List.{filter, list_any, count_by, range_with_len}
use Rattle.std.proofs.lemmas.List.Elements.{All-weaker, filter_agree}
use Rattle.std.proofs.lemmas.List.Sums.{sum_by-cons, count_by-le-length, length-filter}
use Rattle.std.proofs.lemmas.List.Folds.{list_any_none}
use Rattle.std.proofs.lemmas.Bool.{cases_eq}
use Rattle.std.specs.Ordering.{nat_cmp}
use Rattle.vortex_scan_types.specs.Sorted.{Increases}
use Rattle.vortex_scan_types.proofs.Ascending.{Ascends, ascends, between}

-- a count, by the first item
pub count_by-cons : {X : Type 0} (p : X → Bool) (x : X) (xs : List X) → count_by p (x ∷ xs) ≡ cond (p x) 1 0 + count_by p xs
count_by-cons p x xs = sum_by-cons (λ y. cond (p y) 1 0) x xs

-- what passes nothing counts nothing
pub count_none : {X : Type 0} (p : X → Bool) (xs : List X) → ((x : X) → p x ≡ false) → count_by p xs ≡ 0
count_none p [] h = refl
count_none p (x ∷ xs) h = count_by-cons p x xs ∙ ap (λ b. cond {A = ℕ} b 1 0 + count_by p xs) (h x) ∙ omega (arith, count_none p xs h)

-- two truths of which not both hold, as numbers
either_number : (a b : Bool) → (a && b) ≡ false → cond {A = ℕ} (a || b) 1 0 ≡ cond {A = ℕ} a 1 0 + cond {A = ℕ} b 1 0
either_number true true e = absurd (grind arith)
either_number true false e = refl
either_number false true e = refl
either_number false false e = refl

-- what passes one of two tests that nothing passes both
pub count_either : {X : Type 0} (p q : X → Bool) (xs : List X) → ((x : X) → (p x && q x) ≡ false) → count_by (λ x. p x || q x) xs ≡ count_by p xs + count_by q xs
count_either p q [] h = refl
count_either p q (x ∷ xs) h =
    let more = count_either p q xs h in
    let here = either_number (p x) (q x) (h x) in
    omega (arith, more, here, count_by-cons (λ y. p y || q y) x xs, count_by-cons p x xs, count_by-cons q x xs)

-- one number in a stretch, one place on
one_more_place : (x first n : ℕ) → cond {A = ℕ} (eqb x first) 1 0 + cond {A = ℕ} (between (first + 1) (first + 1 + n) x) 1 0 ≡ cond {A = ℕ} (between first (first + suc n) x) 1 0
one_more_place x first n = grind arith

no_place : (x first : ℕ) → 0 ≡ cond {A = ℕ} (between first (first + 0) x) 1 0
no_place x first = grind arith

-- how often a number stands in a stretch
pub count_one : (x first n : ℕ) → count_by (λ place. eqb x place) (range_with_len first n) ≡ cond {A = ℕ} (between first (first + n) x) 1 0
count_one x first zero = no_place x first
count_one x first (suc n) =
    count_by-cons (λ place. eqb x place) first (range_with_len (first + 1) n)
    ∙ ap (λ m. cond {A = ℕ} (eqb x first) 1 0 + m) (count_one x (first + 1) n)
    ∙ one_more_place x first n

-- a list that ascends from behind a number does not list it
not_behind : (x : ℕ) (xs : List ℕ) → All (λ y. x < y) xs → list_any (λ y. eqb y x) xs ≡ false
not_behind x xs h = list_any_none (λ y. eqb y x) xs (All-weaker (λ y. x < y) (λ y. eqb y x ≡ false) (λ y l. grind arith) xs h)

-- nothing and a falsehood hold together
and_no : (b : Bool) → (b && false) ≡ false
and_no true = refl
and_no false = refl

-- a place is the first item or listed behind it, and not both
once : (x : ℕ) (xs : List ℕ) → All (λ y. x < y) xs → (place : ℕ) → (eqb x place && list_any (λ y. eqb y place) xs) ≡ false
once x xs h place =
    ⊎_elim
    (λ (same : x ≡ place). let e : list_any (λ y. eqb y place) xs ≡ false = ap (λ q. list_any (λ y. eqb y q) xs) (sym same) ∙ not_behind x xs h in ap (λ b. eqb x place && b) e ∙ and_no (eqb x place))
    (λ (other : x ≢ place). let e : eqb x place ≡ false = grind arith in ap (λ b. b && list_any (λ y. eqb y place) xs) e)
    (cases_eq x place)

-- the length of what a filter keeps, by the first item
length_kept : {X : Type 0} (p : X → Bool) (x : X) (xs : List X) → length (filter p (x ∷ xs)) ≡ cond {A = ℕ} (p x) 1 0 + length (filter p xs)
length_kept p x xs =
    length-filter p (x ∷ xs) ∙ count_by-cons p x xs ∙ ap (λ n. cond {A = ℕ} (p x) 1 0 + n) (sym (length-filter p xs))

-- the places of a stretch that are listed are as many as the listed places in it
pub count_listed : (first n : ℕ) (xs : List ℕ) → Ascends xs → count_by (λ place. list_any (λ y. eqb y place) xs) (range_with_len first n) ≡ length (filter (between first (first + n)) xs)
count_listed first n [] h = count_none (λ place. false) (range_with_len first n) (λ place. refl)
count_listed first n (x ∷ xs) h =
    count_either (λ place. eqb x place) (λ place. list_any (λ y. eqb y place) xs) (range_with_len first n) (once x xs h.0)
    ∙ ap (λ m. m + count_by (λ place. list_any (λ y. eqb y place) xs) (range_with_len first n)) (count_one x first n)
    ∙ ap (λ m. cond {A = ℕ} (between first (first + n) x) 1 0 + m) (count_listed first n xs h.1)
    ∙ sym (length_kept (between first (first + n)) x xs)

-- a stretch by its length and by its end
same_stretch : (first end x : ℕ) → between first (first + (end - first)) x ≡ between first end x
same_stretch first end x = grind arith

-- the places of a range that are listed are as many as the listed places in it
pub count_in_part : (first end : ℕ) (xs : List ℕ) → Increases nat_cmp xs → count_by (λ place. list_any (λ y. eqb y place) xs) (range_with_len first (end - first)) ≡ length (filter (between first end) xs)
count_in_part first end xs h =
    count_listed first (end - first) xs (ascends xs h)
    ∙ ap length (filter_agree (between first (first + (end - first))) (between first end) (same_stretch first end) xs)

-- a truth that counts is one, and one that does not is not
counts_one : (b : Bool) (m n : ℕ) → cond {A = ℕ} b 1 0 + m ≡ suc n → m ≤ n → (b ≡ true) × (m ≡ n)
counts_one true m n e l = (refl, omega (arith, e))
counts_one false m n e l = absurd (omega (arith, e, l))

counts_zero : (b : Bool) (m : ℕ) → cond {A = ℕ} b 1 0 + m ≡ 0 → (b ≡ false) × (m ≡ 0)
counts_zero true m e = absurd (omega (arith, e))
counts_zero false m e = (refl, omega (arith, e))

-- a test that passes as many as there are passes each
pub passes_all : {X : Type 0} (p : X → Bool) (xs : List X) → count_by p xs ≡ length xs → map p xs ≡ replicate (length xs) true
passes_all p [] e = refl
passes_all p (x ∷ xs) e =
    let both = counts_one (p x) (count_by p xs) (length xs) (sym (count_by-cons p x xs) ∙ e) (count_by-le-length p xs) in
    ap (λ b. b ∷ map p xs) both.0 ∙ ap (λ bs. true ∷ bs) (passes_all p xs both.1)

-- a test that passes none
pub passes_none : {X : Type 0} (p : X → Bool) (xs : List X) → count_by p xs ≡ 0 → map p xs ≡ replicate (length xs) false
passes_none p [] e = refl
passes_none p (x ∷ xs) e =
    let both = counts_zero (p x) (count_by p xs) (sym (count_by-cons p x xs) ∙ e) in
    ap (λ b. b ∷ map p xs) both.0 ∙ ap (λ bs. false ∷ bs) (passes_none p xs both.1)

-- what always holds counts each
pub count_all : {X : Type 0} (xs : List X) → count_by (λ (x : X). true) xs ≡ length xs
count_all [] = refl
count_all (x ∷ xs) = count_by-cons (λ y. true) x xs ∙ omega (arith, count_all xs)

-- a truth and its opposite, as numbers
one_of_both : (b : Bool) → cond {A = ℕ} (not b) 1 0 + cond {A = ℕ} b 1 0 ≡ 1
one_of_both true = refl
one_of_both false = refl

-- what a test and its opposite pass is all
pub count_both : {X : Type 0} (p : X → Bool) (xs : List X) → count_by (λ x. not (p x)) xs + count_by p xs ≡ length xs
count_both p [] = refl
count_both p (x ∷ xs) = omega (arith, count_both p xs, one_of_both (p x), count_by-cons (λ y. not (p y)) x xs, count_by-cons p x xs)

-- the set bits among the answers of a test
pub count-map : {X : Type 0} (p : X → Bool) (xs : List X) → count_by (λ b. b) (map p xs) ≡ count_by p xs
count-map p [] = refl
count-map p (x ∷ xs) = count_by-cons (λ b. b) (p x) (map p xs) ∙ ap (λ n. cond {A = ℕ} (p x) 1 0 + n) (count-map p xs) ∙ sym (count_by-cons p x xs)

-- the opposite of a test's answers
pub map_opposite : {X : Type 0} (p : X → Bool) (xs : List X) → map (λ x. not (p x)) xs ≡ map not (map p xs)
map_opposite p [] = refl
map_opposite p (x ∷ xs) = ap (λ bs. not (p x) ∷ bs) (map_opposite p xs)

-- a stretch in two
pub range_in_two : (first m n : ℕ) → range_with_len first (m + n) ≡ range_with_len first m ++ range_with_len (first + m) n
range_in_two first zero n =
    let e : zero + n ≡ n = omega arith in
    let f : first ≡ first + 0 = omega arith in
    ap (λ k. range_with_len first k) e ∙ ap (λ k. range_with_len k n) f
range_in_two first (suc m) n =
    let e : suc m + n ≡ suc (m + n) = omega arith in
    let f : first + 1 + m ≡ first + suc m = omega arith in
    ap (λ k. range_with_len first k) e
    ∙ ap (λ ks. first ∷ ks) (range_in_two (first + 1) m n ∙ ap (λ k. range_with_len (first + 1) m ++ range_with_len k n) f)
