-- What counts tell of two lists, of which every test passes as many elements of one as of the other, or fewer.
use Rattle.std.proofs.Common.{◌≡◌, ◌∙◌, sym, ap, subst, refl, ℕ, zero, suc, ◌+◌, ◌≤◌, List, [], ◌∷◌, Bool, true, false, ◌&&◌, eqb, map, arith}
use Rattle.std.specs.Prelude.{Some, count_by, slice_get, sum_by}
use Rattle.std.specs.List.{remove}
use Rattle.std.specs.Coded.{Coded}
use Rattle.std.proofs.lemmas.List.Sums.{sum_by-cons}
use Rattle.vortex_scan.proofs.Tallies.{count_cons, one_if, removed_sum}
use Rattle.vortex_table_types.proofs.Rising.{Each, Rising}
use base.Stored.{Gv, gcons, gnil, gnum}

-- ---- equal codes

abbrev is_same : Gv → Gv → Bool
is_same gnil gnil = true
is_same gnil (gnum n) = false
is_same gnil (gcons c d) = false
is_same (gnum m) gnil = false
is_same (gnum m) (gnum n) = eqb m n
is_same (gnum m) (gcons c d) = false
is_same (gcons a b) gnil = false
is_same (gcons a b) (gnum n) = false
is_same (gcons a b) (gcons c d) = is_same a c && is_same b d

pub both_true : (a b : Bool) → (a && b) ≡ true → (a ≡ true) × (b ≡ true)
both_true true b e = (refl, e)
both_true false b e = absurd (cc)

pub same_number : (m n : ℕ) → eqb m n ≡ true → m ≡ n
same_number m n e = grind (arith, e)

pub own_number : (n : ℕ) → eqb n n ≡ true
own_number n = grind arith

same_code : (a b : Gv) → is_same a b ≡ true → a ≡ b
same_code gnil gnil e = refl
same_code gnil (gnum n) e = absurd (cc)
same_code gnil (gcons c d) e = absurd (cc)
same_code (gnum m) gnil e = absurd (cc)
same_code (gnum m) (gnum n) e = ap gnum (same_number m n e)
same_code (gnum m) (gcons c d) e = absurd (cc)
same_code (gcons a b) gnil e = absurd (cc)
same_code (gcons a b) (gnum n) e = absurd (cc)
same_code (gcons a b) (gcons c d) e =
    let parts = both_true (is_same a c) (is_same b d) e in
    λ i. gcons (same_code a c parts.0 i) (same_code b d parts.1 i)

own_code : (a : Gv) → is_same a a ≡ true
own_code gnil = refl
own_code (gnum n) = own_number n
own_code (gcons a b) = rw (own_code a) (own_code b)

-- ---- lists by their counts

-- each test passes no more of the first list than of the second
abbrev pub IsWithin : {X : Type 0} → List X → List X → Type 0
IsWithin {X} xs ys = (test : X → Bool) → count_by test xs ≤ count_by test ys

-- each test passes as many of both
abbrev pub IsAlike : {X : Type 0} → List X → List X → Type 0
IsAlike {X} xs ys = (test : X → Bool) → count_by test xs ≡ count_by test ys

-- an element at its place, that passes a test
pub record Passing {X : Type 0} (test : X → Bool) (xs : List X) : Type 0 where
  pub place : ℕ
  pub element : X
  pub there : slice_get xs place ≡ Some element
  pub passes : test element ≡ true

-- where a test is passed, an element passes it
pub passing : {X : Type 0} (test : X → Bool) (xs : List X) → 1 ≤ count_by test xs → Passing test xs
passing test [] some = absurd (omega (arith, some))
passing {X} test (x ∷ xs) some = by (test x) refl (passing test xs)
  where
    by : (b : Bool) → test x ≡ b → (1 ≤ count_by test xs → Passing test xs) → Passing test (x ∷ xs)
    by true e later = record { place = 0; element = x; there = refl; passes = e }
    by false e later =
        let counted : count_by test (x ∷ xs) ≡ 0 + count_by test xs = count_cons test x xs ∙ ap (λ b. one_if b + count_by test xs) e in
        let rest = later (omega (arith, some, counted)) in
        record { place = suc rest.place; element = rest.element; there = rest.there; passes = rest.passes }

-- of a list and a longer one
pub count_more : {X : Type 0} (test : X → Bool) (x : X) (xs : List X) → count_by test xs ≤ count_by test (x ∷ xs)
count_more test x xs = omega (arith, count_cons test x xs)

-- a test that an element passes counts it
pub count_own : {X : Type 0} (test : X → Bool) (x : X) (xs : List X) → test x ≡ true → count_by test (x ∷ xs) ≡ 1 + count_by test xs
count_own test x xs e = count_cons test x xs ∙ ap (λ b. one_if b + count_by test xs) e

-- and one that it does not pass leaves it out
pub count_other : {X : Type 0} (test : X → Bool) (x : X) (xs : List X) → test x ≡ false → count_by test (x ∷ xs) ≡ count_by test xs
count_other test x xs e = count_cons test x xs ∙ ap (λ b. one_if b + count_by test xs) e ∙ (let none : 0 + count_by test xs ≡ count_by test xs = omega arith in none)

-- a change of elements may stand in the test
pub count_map : {X Y : Type 0} (test : Y → Bool) (f : X → Y) (xs : List X) → count_by test (map f xs) ≡ count_by (λ x. test (f x)) xs
count_map test f [] = refl
count_map test f (x ∷ xs) = count_cons test (f x) (map f xs) ∙ ap (λ n. one_if (test (f x)) + n) (count_map test f xs) ∙ sym (count_cons (λ x. test (f x)) x xs)

-- none passes where each fails
pub none_pass : {X : Type 0} (test : X → Bool) (xs : List X) → count_by test xs ≡ 0 → Each (λ x. test x ≡ false) xs
none_pass test [] none = tt
none_pass {X} test (x ∷ xs) none = (by (test x) refl, none_pass test xs (omega (arith, count_more test x xs, none)))
  where
    by : (b : Bool) → test x ≡ b → test x ≡ false
    by true e = absurd (omega (arith, count_own test x xs e, none))
    by false e = e

pub none_count : {X : Type 0} (test : X → Bool) (xs : List X) → Each (λ x. test x ≡ false) xs → count_by test xs ≡ 0
none_count test [] none = refl
none_count test (x ∷ xs) none = count_other test x xs none.0 ∙ none_count test xs none.1

-- ---- where elements are told apart by their code

module _ {X : Type 0} (coded : Coded X) where
  abbrev is : X → X → Bool
  is x y = is_same (coded.code x) (coded.code y)

  is_equal : (x y : X) → is x y ≡ true → x ≡ y
  is_equal x y e = coded.inj x y (same_code (coded.code x) (coded.code y) e)

  is_own : (x : X) → is x x ≡ true
  is_own x = own_code (coded.code x)

  -- the first element stands in the other list too
  found : (x : X) (xs ys : List X) → IsWithin (x ∷ xs) ys → (k : ℕ) × (slice_get ys k ≡ Some x)
  found x xs ys within =
      let p = passing (is x) ys (omega (arith, within (is x), count_own (is x) x xs (is_own x))) in
      (p.place, p.there ∙ ap (λ y. Some y) (sym (is_equal x p.element p.passes)))

  rest_within : (x : X) (xs ys : List X) → IsWithin (x ∷ xs) ys → IsWithin xs ys
  rest_within x xs ys within test = omega (arith, within test, count_more test x xs)

  -- without it the rest is within the rest
  both_without : (x : X) (xs ys : List X) (k : ℕ) → slice_get ys k ≡ Some x → IsWithin (x ∷ xs) ys → IsWithin xs (remove ys k)
  both_without x xs ys k there within test = omega (arith, within test, count_cons test x xs, removed_sum (λ y. one_if (test y)) ys k x there)

  each_found : (P : X → Type 0) (ys : List X) (k : ℕ) (x : X) → Each P ys → slice_get ys k ≡ Some x → P x
  each_found P [] k x all e = absurd (cc)
  each_found P (y ∷ ys) zero x all e = let same : y ≡ x = (cc) in subst P same all.0
  each_found P (y ∷ ys) (suc k) x all e = each_found P ys k x all.1 e

  -- what holds of each element of the second list holds of each of the first
  pub each_within : (P : X → Type 0) (xs ys : List X) → IsWithin xs ys → Each P ys → Each P xs
  each_within P [] ys within all = tt
  each_within P (x ∷ xs) ys within all =
      let f = found x xs ys within in
      (each_found P ys f.0 x all f.1, each_within P xs ys (rest_within x xs ys within) all)

  -- a sum over the first is no more
  pub sum_within : (f : X → ℕ) (xs ys : List X) → IsWithin xs ys → sum_by f xs ≤ sum_by f ys
  sum_within f [] ys within = omega arith
  sum_within f (x ∷ xs) ys within =
      let at = found x xs ys within in
      let rest = sum_within f xs (remove ys at.0) (both_without x xs ys at.0 at.1 within) in
      omega (arith, rest, removed_sum f ys at.0 x at.1, sum_by-cons f x xs)

  -- and of alike ones the same
  pub sum_alike : (f : X → ℕ) (xs ys : List X) → IsAlike xs ys → sum_by f xs ≡ sum_by f ys
  sum_alike f xs ys alike =
      let less = sum_within f xs ys (λ test. omega (arith, alike test)) in
      let more = sum_within f ys xs (λ test. omega (arith, alike test)) in
      omega (arith, less, more)

  -- where no two elements of the second pass one test of these, no two of the first do
  pub apart_within : (alike : X → X → Bool) → ((x : X) → alike x x ≡ true) → (xs ys : List X) → ((x : X) → count_by (alike x) ys ≤ 1) → IsWithin xs ys → Rising (λ x y. alike x y ≡ false) xs
  apart_within alike own [] ys once within = tt
  apart_within alike own (x ∷ xs) ys once within = (
    none_pass (alike x) xs (omega (arith, within (alike x), once x, count_own (alike x) x xs (own x))),
    apart_within alike own xs ys once (rest_within x xs ys within),
  )

  -- a list that does not fall, alike to one that rises, is that
  pub sorted_alike : (Le Lt : X → X → Type 0) → ((x y : X) → Lt x y → Le y x → ⊥) → (xs ys : List X) → Rising Le xs → Rising Lt ys → IsAlike xs ys → xs ≡ ys
  sorted_alike Le Lt clash [] [] le lt alike = refl
  sorted_alike Le Lt clash [] (y ∷ ys) le lt alike = absurd (let none = alike (is y) in omega (arith, none, count_own (is y) y ys (is_own y)))
  sorted_alike Le Lt clash (x ∷ xs) [] le lt alike = absurd (let none = alike (is x) in omega (arith, none, count_own (is x) x xs (is_own x)))
  sorted_alike Le Lt clash (x ∷ xs) (y ∷ ys) le lt alike = by (is x y) refl (sorted_alike Le Lt clash xs ys le.1 lt.1)
    where
      heads : x ≡ y → (IsAlike xs ys → xs ≡ ys) → x ∷ xs ≡ y ∷ ys
      heads same after =
          let tails : IsAlike xs ys =
          λ test. let whole = alike test in let one : one_if (test x) ≡ one_if (test y) = ap (λ z. one_if (test z)) same in omega (arith, whole, one, count_cons test x xs, count_cons test y ys) in
          let rest = after tails in
          λ i. same i ∷ rest i

      later : (z w : X) (zs : List X) → (is z w ≡ true → ⊥) → (k : ℕ) → slice_get (w ∷ zs) k ≡ Some z → (j : ℕ) × (slice_get zs j ≡ Some z)
      later z w zs apart zero e = absurd (apart (let same : w ≡ z = (cc) in subst (λ v. is z v ≡ true) (sym same) (is_own z)))
      later z w zs apart (suc k) e = (k, e)

      by : (b : Bool) → is x y ≡ b → (IsAlike xs ys → xs ≡ ys) → x ∷ xs ≡ y ∷ ys
      by true e after = heads (is_equal x y e) after
      by false e after =
          let apart : is x y ≡ true → ⊥ = λ t. let clash' : true ≡ false = sym t ∙ e in cc in
          let turned : is y x ≡ true → ⊥ = λ t. apart (subst (λ v. is v y ≡ true) (is_equal y x t) (is_own y)) in
          let in_ys = found x xs (y ∷ ys) (λ test. omega (arith, alike test)) in
          let in_xs = found y ys (x ∷ xs) (λ test. omega (arith, alike test)) in
          let x_later = later x y ys apart in_ys.0 in_ys.1 in
          let y_later = later y x xs turned in_xs.0 in_xs.1 in
          absurd (clash y x (each_found (Lt y) ys x_later.0 x lt.0 x_later.1) (each_found (Le x) xs y_later.0 y le.0 y_later.1))
