-- Reading a number digit by digit.
use Rattle.std.proofs.Common.{◌≡◌, ◌<◌, ◌≤◌, ◌+◌, ◌-◌, ◌*◌, ◌^◌, ◌∙◌, ap, pow-add, IfSome, Option, sym, ℕ, List, [], ◌∷◌, length, drop, get_or, true, false, Some, None, arith, add-one, drop-cons, refl, inl, inr}
use Rattle.std.specs.Char.{is_ascii_digit}
use Rattle.std.proofs.lemmas.Bool.{cases_Bool}
use Rattle.std.proofs.lemmas.List.{drop_all}
use Rattle.std.proofs.lemmas.Bool.Decides.{nat_tests}
use Rattle.vortex_query_fields.specs.Numbers.{below, number_after}
use Rattle.vortex_query_fields.proofs.Tens.{tens_grow}

pub digit-step : (n i : ℕ) (s : List ℕ) → i < length s → is_ascii_digit (get_or s i 0) ≡ true
    → number_after n (drop i s) ≡ number_after (n * 10 + (get_or s i 0 - 48)) (drop (i + 1) s)
unfolding number_after
digit-step n i s h d = rw (add-one, drop-cons s i 0, d) refl

pub other-step : (n i : ℕ) (s : List ℕ) → i < length s → is_ascii_digit (get_or s i 0) ≡ false → number_after n (drop i s) ≡ None
unfolding number_after
other-step n i s h d = rw (drop-cons s i 0, d) refl

-- a number never falls as digits come
pub too-big : (limit n : ℕ) (s : List ℕ) → limit ≤ n → below limit (number_after n s) ≡ None
unfolding number_after
too-big limit n [] h = grind (arith, nat_tests)
too-big limit n (b ∷ rest) h = elim (cases_Bool (is_ascii_digit b)) [
  | inl is_digit ↦ rw is_digit (too-big limit (n * 10 + (b - 48)) rest (omega arith))
  | inr other ↦ rw other refl
]

pub refused-big : (limit m n i : ℕ) (s : List ℕ) → number_after n (drop i s) ≡ number_after m s → i < length s → is_ascii_digit (get_or s i 0) ≡ true
    → limit ≤ n * 10 + (get_or s i 0 - 48) → below limit (number_after m s) ≡ None
refused-big limit m n i s inv h d big = ap (below limit) (sym inv ∙ digit-step n i s h d) ∙ too-big limit _ (drop (i + 1) s) big

pub refused-other : (limit m n i : ℕ) (s : List ℕ) → number_after n (drop i s) ≡ number_after m s → i < length s → is_ascii_digit (get_or s i 0) ≡ false → below limit (number_after m s) ≡ None
refused-other limit m n i s inv h d = ap (below limit) (sym inv ∙ other-step n i s h d)

pub whole : (limit m n i : ℕ) (s : List ℕ) → number_after n (drop i s) ≡ number_after m s → length s ≤ i → n < limit → below limit (number_after m s) ≡ Some n
unfolding number_after
whole limit m n i s inv h fits =
    let f : number_after m s ≡ Some n = sym inv ∙ ap (number_after n) (drop_all i s h) in
    rw f (grind (arith, nat_tests))

-- ten times as many
pub ten-more : (k : ℕ) → 10 ^ (k + 1) ≡ 10 ^ k * 10
ten-more k = pow-add 10 k 1

-- one more digit behind a number of so many
pub little : (n b k : ℕ) → n < 10 ^ k → is_ascii_digit b ≡ true → n * 10 + (b - 48) < 10 ^ (k + 1)
little n b k h d = let few : b ≤ 57 = grind (arith, nat_tests) in rw (ten-more k) (omega arith)

-- digits of a count below twenty fit in 64 bits
pub fits : (n k : ℕ) → n < 10 ^ k → k ≤ 19 → n < 2 ^ 64
fits n k h few = omega (arith, tens_grow k 19 few)

-- what is below a lesser limit is below a greater one
pub all-below : (limit : ℕ) (o : Option ℕ) → IfSome o (λ n. n < limit) → o ≡ below limit o
all-below limit None h = refl
all-below limit (Some n) h = grind (arith, nat_tests)

-- all digits of few
pub few-whole : (m n i : ℕ) (s : List ℕ) → number_after n (drop i s) ≡ number_after m s → length s ≤ i → Some n ≡ number_after m s
unfolding number_after
few-whole m n i s inv h = ap (number_after n) (sym (drop_all i s h)) ∙ inv
