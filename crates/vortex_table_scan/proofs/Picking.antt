-- Numbered things, of which a test takes some.
use Rattle.std.proofs.Common.{◌≡◌, ◌∙◌, sym, ap, subst, refl, ℕ, zero, suc, ◌+◌, ◌<◌, ◌≤◌, Bool, true, false, cond, List, [], ◌∷◌, ◌++◌, length, append_assoc, length-append, arith}
use Rattle.std.specs.Prelude.{count_by, filter}
use Rattle.std.specs.List.{range_with_len}
use Rattle.std.proofs.lemmas.List.Elements.{filter-append}
use Rattle.std.proofs.lemmas.List.FromFn.{length-range_with_len}
use Rattle.std.proofs.lemmas.List.Sums.{sum_by-append, sum_by-cons}
use Rattle.vortex_table_scan.specs.Parted.{picked}

-- One more.

-- the numbers up to one more
pub numbers_more : (a n : ℕ) → range_with_len a (suc n) ≡ range_with_len a n ++ (a + n) ∷ []
numbers_more a zero = ap (λ k. k ∷ []) (omega arith)
numbers_more a (suc n) = ap (λ rest. a ∷ rest) (numbers_more (a + 1) n) ∙ ap (λ k. a ∷ range_with_len (a + 1) n ++ k ∷ []) (omega arith)

-- a head that is taken or not, before lists of which one is the other with more behind it
cond_on : {X : Type 0} (b : Bool) (x : X) (longer list more : List X) → longer ≡ list ++ more → cond b (x ∷ longer) longer ≡ cond b (x ∷ list) list ++ more
cond_on true x longer list more e = ap (λ rest. x ∷ rest) e
cond_on false x longer list more e = e

-- one more is taken where the test says so
pub picked_more : {X : Type 0} (test : ℕ → Bool) (k : ℕ) (xs : List X) (x : X) (p : ℕ) → p ≡ k + length xs → picked test k (xs ++ x ∷ []) ≡ picked test k xs ++ cond (test p) (x ∷ []) []
picked_more test k [] x p e = let here : p ≡ k = omega (arith, e) in rw here refl
picked_more test k (y ∷ xs) x p e = cond_on (test k) y (picked test (suc k) (xs ++ x ∷ [])) (picked test (suc k) xs) (cond (test p) (x ∷ []) []) (picked_more test (suc k) xs x p (omega (arith, e)))

append_none : {X : Type 0} (xs : List X) → xs ++ [] ≡ xs
append_none [] = refl
append_none (x ∷ xs) = ap (λ rest. x ∷ rest) (append_none xs)

pub picked_on : {X : Type 0} (test : ℕ → Bool) (xs : List X) (x : X) (p : ℕ) → p ≡ length xs → test p ≡ true → picked test 0 (xs ++ x ∷ []) ≡ picked test 0 xs ++ x ∷ []
picked_on test xs x p e is = picked_more test 0 xs x p (omega (arith, e)) ∙ ap (λ b. picked test 0 xs ++ cond b (x ∷ []) []) is

pub picked_past : {X : Type 0} (test : ℕ → Bool) (xs : List X) (x : X) (p : ℕ) → p ≡ length xs → test p ≡ false → picked test 0 (xs ++ x ∷ []) ≡ picked test 0 xs
picked_past test xs x p e is = picked_more test 0 xs x p (omega (arith, e)) ∙ ap (λ b. picked test 0 xs ++ cond b (x ∷ []) []) is ∙ append_none (picked test 0 xs)

-- Another test.

cond_same : {X : Type 0} (b c : Bool) (x : X) (xs ys : List X) → b ≡ c → xs ≡ ys → cond b (x ∷ xs) xs ≡ cond c (x ∷ ys) ys
cond_same b c x xs ys e f = rw (e, f) refl

-- tests that agree on all numbers of the list take the same
pub picked_same : {X : Type 0} (test other : ℕ → Bool) (k : ℕ) (xs : List X) → ((i : ℕ) → i < k + length xs → test i ≡ other i) → picked test k xs ≡ picked other k xs
picked_same test other k [] agree = refl
picked_same test other k (x ∷ xs) agree =
    cond_same (test k) (other k) x (picked test (suc k) xs) (picked other (suc k) xs) (agree k (omega arith)) (picked_same test other (suc k) xs (λ i less. agree i (omega (arith, less))))

-- Numbers themselves.

-- a number is taken where it passes: the numbers from k on that pass are those picked of them
pub filter_picked : (test : ℕ → Bool) (k n : ℕ) → filter test (range_with_len k n) ≡ picked test k (range_with_len k n)
filter_picked test k zero = refl
filter_picked test k (suc n) = cond_same (test k) (test k) k (filter test (range_with_len (k + 1) n)) (picked test (suc k) (range_with_len (k + 1) n)) refl (filter_picked test (k + 1) n ∙ ap (λ j. picked test j (range_with_len (k + 1) n)) (omega arith))

-- How many.

cond_length : {X Y : Type 0} (b : Bool) (x : X) (y : Y) (xs : List X) (ys : List Y) → length xs ≡ length ys → length (cond b (x ∷ xs) xs) ≡ length (cond b (y ∷ ys) ys)
cond_length true x y xs ys e = omega (arith, e)
cond_length false x y xs ys e = e

-- of two lists of one length as many are taken
pub picked_length : {X Y : Type 0} (test : ℕ → Bool) (k : ℕ) (xs : List X) (ys : List Y) → length xs ≡ length ys → length (picked test k xs) ≡ length (picked test k ys)
picked_length test k [] [] e = refl
picked_length test k [] (y ∷ ys) e = absurd (omega (arith, e))
picked_length test k (x ∷ xs) [] e = absurd (omega (arith, e))
picked_length test k (x ∷ xs) (y ∷ ys) e = cond_length (test k) x y (picked test (suc k) xs) (picked test (suc k) ys) (picked_length test (suc k) xs ys (omega (arith, e)))

cond_less : {X Y : Type 0} (b : Bool) (x : X) (y : Y) (xs : List X) (ys : List Y) → length xs < length ys → length (cond b (x ∷ xs) xs) < length (cond b (y ∷ ys) ys)
cond_less true x y xs ys l = omega (arith, l)
cond_less false x y xs ys l = l

-- and of a longer one more, where the next is taken
pub picked_less : {X Y : Type 0} (test : ℕ → Bool) (k : ℕ) (xs : List X) (ys : List Y) → length xs < length ys → test (k + length xs) ≡ true → length (picked test k xs) < length (picked test k ys)
picked_less test k [] [] l is = absurd (omega (arith, l))
picked_less test k [] (y ∷ ys) l is = let here : test k ≡ true = subst (λ (i : ℕ). test i ≡ true) (omega arith) is in rw here (omega arith)
picked_less test k (x ∷ xs) [] l is = absurd (omega (arith, l))
picked_less test k (x ∷ xs) (y ∷ ys) l is =
    cond_less (test k) x y (picked test (suc k) xs) (picked test (suc k) ys) (picked_less test (suc k) xs ys (omega (arith, l)) (subst (λ (i : ℕ). test i ≡ true) (omega arith) is))

-- nothing is left where all came
pub all_came : {X : Type 0} (before rest whole : List X) → before ++ rest ≡ whole → length before ≡ length whole → rest ≡ []
all_came before [] whole e f = refl
all_came [] (x ∷ rest) whole e f = absurd (let long = ap length e in omega (arith, long, f))
all_came (y ∷ before) (x ∷ rest) [] e f = absurd (omega (arith, f))
all_came (y ∷ before) (x ∷ rest) (z ∷ whole) e f = all_came before (x ∷ rest) whole (let tails = e in cc) (omega (arith, f))

cond_at_most : {X : Type 0} (b : Bool) (x : X) (xs : List X) (n : ℕ) → length xs ≤ n → length (cond b (x ∷ xs) xs) ≤ suc n
cond_at_most true x xs n l = omega (arith, l)
cond_at_most false x xs n l = omega (arith, l)

-- no more are taken than there are
pub picked_at_most : {X : Type 0} (test : ℕ → Bool) (k : ℕ) (xs : List X) → length (picked test k xs) ≤ length xs
picked_at_most test k [] = omega arith
picked_at_most test k (x ∷ xs) = cond_at_most (test k) x (picked test (suc k) xs) (length xs) (picked_at_most test (suc k) xs)

-- Of the numbers below one more, those that pass.

-- the numbers up to one more, from the first on
numbers_last : (n : ℕ) → range_with_len 0 (suc n) ≡ range_with_len 0 n ++ n ∷ []
numbers_last n = let here : 0 + n ≡ n = omega arith in numbers_more 0 n ∙ ap (λ k. range_with_len 0 n ++ k ∷ []) here

numbers_next : (test : ℕ → Bool) (n m : ℕ) → m ≡ n + 1 → filter test (range_with_len 0 m) ≡ filter test (range_with_len 0 n) ++ cond (test n) (n ∷ []) []
numbers_next test n m e =
    let next : m ≡ suc n = omega (arith, e) in
    ap (λ k. filter test (range_with_len 0 k)) next ∙ ap (λ list. filter test list) (numbers_last n) ∙ filter-append test (range_with_len 0 n) (n ∷ [])

pub numbers_on : (test : ℕ → Bool) (n m : ℕ) → m ≡ n + 1 → test n ≡ true → filter test (range_with_len 0 m) ≡ filter test (range_with_len 0 n) ++ n ∷ []
numbers_on test n m e is = numbers_next test n m e ∙ ap (λ b. filter test (range_with_len 0 n) ++ cond b (n ∷ []) []) is

pub numbers_past : (test : ℕ → Bool) (n m : ℕ) → m ≡ n + 1 → test n ≡ false → filter test (range_with_len 0 m) ≡ filter test (range_with_len 0 n)
numbers_past test n m e is = numbers_next test n m e ∙ ap (λ b. filter test (range_with_len 0 n) ++ cond b (n ∷ []) []) is ∙ append_none (filter test (range_with_len 0 n))

pub numbers_same : (test other : ℕ → Bool) (n : ℕ) → ((i : ℕ) → i < n → test i ≡ other i) → filter test (range_with_len 0 n) ≡ filter other (range_with_len 0 n)
numbers_same test other n agree =
    filter_picked test 0 n ∙ picked_same test other 0 (range_with_len 0 n) (λ i less. agree i (let long = length-range_with_len 0 n in omega (arith, less, long))) ∙ sym (filter_picked other 0 n)

-- how much one more adds to how many pass
abbrev pub one_if : Bool → ℕ
one_if b = cond b 1 0

pub count_on : (test : ℕ → Bool) (n m : ℕ) → m ≡ n + 1 → count_by test (range_with_len 0 m) ≡ count_by test (range_with_len 0 n) + one_if (test n)
count_on test n m e =
    let next : m ≡ suc n = omega (arith, e) in
    let whole : count_by test (range_with_len 0 m) ≡ count_by test (range_with_len 0 n ++ n ∷ []) = ap (λ k. count_by test (range_with_len 0 k)) next ∙ ap (λ list. count_by test list) (numbers_last n) in
    let parts : count_by test (range_with_len 0 n ++ n ∷ []) ≡ count_by test (range_with_len 0 n) + count_by test (n ∷ []) = sum_by-append (λ k. one_if (test k)) (range_with_len 0 n) (n ∷ []) in
    let last : count_by test (n ∷ []) ≡ one_if (test n) + count_by test [] = sum_by-cons (λ k. one_if (test k)) n [] in
    let none : count_by test [] ≡ 0 = refl in
    omega (arith, whole, parts, last, none)

-- Things that are moved, one after another, to the places that take them.

pub moved_on : {X : Type 0} (test : ℕ → Bool) (home : List X) (x : X) (p : ℕ) (rest left whole : List X) → p ≡ length home → test p ≡ true → picked test 0 home ++ rest ≡ whole → rest ≡ x ∷ left → picked test 0 (home ++ x ∷ []) ++ left ≡ whole
moved_on test home x p rest left whole e is all next =
    ap (λ list. list ++ left) (picked_on test home x p e is) ∙ append_assoc (picked test 0 home) (x ∷ []) left ∙ ap (λ list. picked test 0 home ++ list) (sym next) ∙ all

pub moved_past : {X : Type 0} (test : ℕ → Bool) (home : List X) (x : X) (p : ℕ) (rest whole : List X) → p ≡ length home → test p ≡ false → picked test 0 home ++ rest ≡ whole → picked test 0 (home ++ x ∷ []) ++ rest ≡ whole
moved_past test home x p rest whole e is all = ap (λ list. list ++ rest) (picked_past test home x p e is) ∙ all

-- where the next place takes one, one is left
pub some_left : {X : Type 0} (test : ℕ → Bool) (home rest whole : List X) (p n : ℕ) → p ≡ length home → test p ≡ true → p < n → picked test 0 home ++ rest ≡ whole → length whole ≡ length (picked test 0 (range_with_len 0 n)) → rest ≡ [] → ⊥
some_left test home rest whole p n e is less all long none =
    let count = length-range_with_len 0 n in
    let here : test (0 + length home) ≡ true = subst (λ (i : ℕ). test i ≡ true) (omega (arith, e)) is in
    let more = picked_less test 0 home (range_with_len 0 n) (omega (arith, e, less, count)) here in
    let same : length (picked test 0 home) ≡ length whole = ap length (sym (append_none (picked test 0 home)) ∙ ap (λ list. picked test 0 home ++ list) (sym none) ∙ all) in
    omega (arith, more, same, long)

-- where all places are taken, nothing is left
pub all_moved : {X : Type 0} (test : ℕ → Bool) (home rest whole : List X) (n : ℕ) → length home ≡ n → picked test 0 home ++ rest ≡ whole → length whole ≡ length (picked test 0 (range_with_len 0 n)) → picked test 0 home ≡ whole
all_moved test home rest whole n e all long =
    let count = length-range_with_len 0 n in
    let none = all_came (picked test 0 home) rest whole all (picked_length test 0 home (range_with_len 0 n) (e ∙ sym count) ∙ sym long) in
    sym (append_none (picked test 0 home)) ∙ ap (λ list. picked test 0 home ++ list) (sym none) ∙ all

-- where as many fit as there are, one more of those that are not taken fits
pub room_left : {X : Type 0} (test : ℕ → Bool) (yielded : List X) (x : X) (items rest whole beside : List X) (n capacity : ℕ) → beside ≡ picked test 0 yielded → yielded ++ items ≡ whole → items ≡ x ∷ rest → n ≡ length whole → n ≤ capacity → length beside < capacity
room_left test yielded x items rest whole beside n capacity is all next long room =
    let most = picked_at_most test 0 yielded in
    let same : length beside ≡ length (picked test 0 yielded) = ap length is in
    let parts : length (yielded ++ items) ≡ length yielded + length items = length-append yielded items in
    let together : length (yielded ++ items) ≡ length whole = ap length all in
    let some : length items ≡ length (x ∷ rest) = ap length next in
    omega (arith, most, same, parts, together, some, long, room)
