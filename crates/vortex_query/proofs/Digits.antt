-- Reading a number digit by digit.
use Rattle.std.proofs.Common.{◌≡◌, ◌<◌, ◌≤◌, ◌+◌, ◌-◌, ◌*◌, ◌^◌, ◌∙◌, ap, sym, ℕ, List, [], ◌∷◌, length, drop, get_or, true, false, Bool, Option, Some, None, arith, add-one, drop-cons, refl, inl, inr}
use Rattle.std.specs.Prelude.{if◌then◌else◌}
use Rattle.std.specs.Char.{is_ascii_digit}
use Rattle.std.proofs.lemmas.Bool.{cases_Bool}
use Rattle.std.proofs.lemmas.List.{drop_all}
use Rattle.std.proofs.lemmas.Bool.Decides.{nat_tests}
use Rattle.vortex_query.specs.Fields.{in_u64, number_after, digits_number}

pub digit-step : (n i : ℕ) (s : List ℕ) → i < length s → is_ascii_digit (get_or s i 0) ≡ true
    → number_after n (drop i s) ≡ number_after (n * 10 + (get_or s i 0 - 48)) (drop (i + 1) s)
unfolding number_after
digit-step n i s h d = rw (add-one, drop-cons s i 0, d) refl

other-step : (n i : ℕ) (s : List ℕ) → i < length s → is_ascii_digit (get_or s i 0) ≡ false → number_after n (drop i s) ≡ None
unfolding number_after
other-step n i s h d = rw (drop-cons s i 0, d) refl

too-big : (n : ℕ) (s : List ℕ) → 2 ^ 64 ≤ n → in_u64 (number_after n s) ≡ None
unfolding number_after
too-big n [] h = grind (arith, nat_tests)
too-big n (b ∷ rest) h = elim (cases_Bool (is_ascii_digit b)) [
  | inl is_digit ↦ rw is_digit (too-big (n * 10 + (b - 48)) rest (omega arith))
  | inr other ↦ rw other refl
]

none-either : (b : Bool) (o : Option ℕ) → o ≡ None → (if b then o else None) ≡ None
none-either true o e = e
none-either false o e = refl

-- a byte that is no digit
pub refused-other : (n i : ℕ) (s : List ℕ) → number_after n (drop i s) ≡ number_after 0 s → i < length s → is_ascii_digit (get_or s i 0) ≡ false → digits_number s ≡ None
refused-other n i s inv h d = none-either _ (in_u64 (number_after 0 s)) (ap in_u64 (sym inv ∙ other-step n i s h d))

-- a number that is too large
pub refused-big : (n i : ℕ) (s : List ℕ) → number_after n (drop i s) ≡ number_after 0 s → i < length s → is_ascii_digit (get_or s i 0) ≡ true
    → 2 ^ 64 ≤ n * 10 + (get_or s i 0 - 48) → digits_number s ≡ None
refused-big n i s inv h d big = none-either _ (in_u64 (number_after 0 s)) (ap in_u64 (sym inv ∙ digit-step n i s h d) ∙ too-big _ (drop (i + 1) s) big)

-- all digits
pub whole : (n i : ℕ) (s : List ℕ) → number_after n (drop i s) ≡ number_after 0 s → length s ≤ i → n < 2 ^ 64 → 0 < length s → length s ≤ 39 → digits_number s ≡ Some n
unfolding number_after
whole n i s inv h fits some few =
    let e : drop i s ≡ [] = drop_all i s h in
    let f : number_after 0 s ≡ Some n = sym inv ∙ ap (number_after n) e in
    rw f (grind (arith, nat_tests))
