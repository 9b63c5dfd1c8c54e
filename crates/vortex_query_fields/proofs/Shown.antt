-- Digits that are written are read as the same number.
use Rattle.std.proofs.Common.{◌≡◌, ◌<◌, ◌≤◌, ◌+◌, ◌-◌, ◌*◌, ◌/◌, ◌%◌, ◌^◌, ◌==◌, ◌&&◌, ◌++◌, ◌∙◌, ◌⊎◌, ap, sym, ℕ, Bool, true, false, true≢false, cond, List, [], ◌∷◌, length, length-append, take, nat_lt, nat_le, Some, None, option_and_then, arith, refl, decimal, codes, bytes_eq, inl, inr, position}
use Rattle.std.specs.Char.{is_ascii_digit}
use Rattle.std.specs.List.{list_all, position_or_len}
use Rattle.std.proofs.lemmas.Bool.{cases_Bool}
use Rattle.std.proofs.lemmas.Bool.Decides.{nat_tests}
use Rattle.std.proofs.lemmas.Fmt.{decimal_by_steps_wide, length-decimal-le_wide}
use Rattle.std.proofs.lemmas.List.Folds.{list_all-append}
use Rattle.vortex_query_fields.specs.Numbers.{digits_spelled, number_after}
use Rattle.vortex_query_fields.proofs.Counting.{ten-more}

pub both : (a b : Bool) → (a && b) ≡ true → (a ≡ true) × (b ≡ true)
both true b e = (refl, e)
both false b e = absurd (true≢false (sym e))

pub apart : (n m : ℕ) → (n < m) ⊎ (m ≤ n)
apart n m = elim (cases_Bool (nat_lt n m)) [
  | inl is ↦ inl (grind (arith, nat_tests, is))
  | inr other ↦ inr (grind (arith, nat_tests, other))
]

-- a byte that is a digit, and one that is none
pub other-digit : (x b : ℕ) → is_ascii_digit x ≡ true → is_ascii_digit b ≡ false → (x == b) ≡ false
other-digit x b d o = grind (arith, nat_tests)

pub is-digit : (d : ℕ) → d < 10 → is_ascii_digit (48 + d) ≡ true
is-digit d h = grind (arith, nat_tests)

-- ---- all bytes are digits

pub digits-alone : (n : ℕ) → n < 10 ^ 64 → list_all is_ascii_digit (decimal n) ≡ true
digits-alone = decimal_by_steps_wide (λ n ds. list_all is_ascii_digit ds ≡ true)
    (λ n h. ap (λ b. b && true) (is-digit n h))
    (λ n ds h before.
    let d : n % 10 < 10 = omega arith in
    list_all-append is_ascii_digit ds ((48 + n % 10) ∷ []) ∙ ap (λ b. b && (is_ascii_digit (48 + n % 10) && true)) before ∙ ap (λ b. b && true) (is-digit (n % 10) d))

-- the place of the first byte behind digits
pub len-before : (b : ℕ) (front rest : List ℕ) → list_all is_ascii_digit front ≡ true → is_ascii_digit b ≡ false → position_or_len (λ x. x == b) (front ++ b ∷ rest) ≡ length front
len-before b [] rest d o = let same : (b == b) ≡ true = grind (arith, nat_tests) in rw same refl
len-before b (x ∷ front) rest d o =
    let h = both (is_ascii_digit x) (list_all is_ascii_digit front) d in
    rw (other-digit x b h.0 o) (omega (arith, len-before b front rest h.1 o))

pub place-behind : (b : ℕ) (front rest : List ℕ) → list_all is_ascii_digit front ≡ true → is_ascii_digit b ≡ false → position (λ x. x == b) (front ++ b ∷ rest) ≡ Some (length front)
place-behind b front rest d o =
    let long = length-append front (b ∷ rest) in
    let within : nat_lt (length front) (length (front ++ b ∷ rest)) ≡ true = grind (arith, nat_tests, long) in
    ap (λ k. cond (nat_lt k (length (front ++ b ∷ rest))) (Some k) None) (len-before b front rest d o) ∙ ap (λ b. cond b (Some (length front)) None) within

len-alone : (b : ℕ) (digits : List ℕ) → list_all is_ascii_digit digits ≡ true → is_ascii_digit b ≡ false → position_or_len (λ x. x == b) digits ≡ length digits
len-alone b [] d o = refl
len-alone b (x ∷ digits) d o =
    let h = both (is_ascii_digit x) (list_all is_ascii_digit digits) d in
    rw (other-digit x b h.0 o) (omega (arith, len-alone b digits h.1 o))

pub place-nowhere : (b : ℕ) (digits : List ℕ) → list_all is_ascii_digit digits ≡ true → is_ascii_digit b ≡ false → position (λ x. x == b) digits ≡ None
place-nowhere b digits d o =
    let past : nat_lt (length digits) (length digits) ≡ false = grind (arith, nat_tests) in
    ap (λ k. cond (nat_lt k (length digits)) (Some k) None) (len-alone b digits d o) ∙ ap (λ b. cond b (Some (length digits)) None) past

-- ---- their number

pub after-more : (n : ℕ) (xs ys : List ℕ) → number_after n (xs ++ ys) ≡ option_and_then (λ m. number_after m ys) (number_after n xs)
unfolding number_after
after-more n [] ys = refl
after-more n (b ∷ xs) ys = elim (cases_Bool (is_ascii_digit b)) [
  | inl is_digit ↦ rw is_digit (after-more (n * 10 + (b - 48)) xs ys)
  | inr other ↦ rw other refl
]

one-digit : (m d : ℕ) → d < 10 → number_after m ((48 + d) ∷ []) ≡ Some (m * 10 + d)
unfolding number_after
one-digit m d h =
    let same : m * 10 + (48 + d - 48) ≡ m * 10 + d = omega arith in
    rw (is-digit d h, same) refl

-- the digits of a number behind those of another
pub number-behind : (m n : ℕ) → n < 10 ^ 64 → number_after m (decimal n) ≡ Some (m * 10 ^ length (decimal n) + n)
number-behind m = decimal_by_steps_wide (λ n ds. number_after m ds ≡ Some (m * 10 ^ length ds + n))
    (λ n h. one-digit m n h)
    (λ n ds h before.
    let d : n % 10 < 10 = omega arith in
    let long = length-append ds ((48 + n % 10) ∷ []) in
    let sum : (m * 10 ^ length ds + n / 10) * 10 + n % 10 ≡ m * 10 ^ length (ds ++ (48 + n % 10) ∷ []) + n = rw (long, ten-more (length ds)) (omega arith) in
    after-more m ds ((48 + n % 10) ∷ []) ∙ ap (option_and_then (λ m. number_after m ((48 + n % 10) ∷ []))) before ∙ one-digit (m * 10 ^ length ds + n / 10) (n % 10) d ∙ ap Some sum)

-- the number of a text of digits
pub number-shown : (n : ℕ) → n < 10 ^ 64 → number_after 0 (decimal n) ≡ Some n
number-shown n h = number-behind 0 n h ∙ ap Some (omega arith)

-- one byte at least
pub some-shown : (n : ℕ) → n < 10 ^ 64 → 0 < length (decimal n)
some-shown = decimal_by_steps_wide (λ n ds. 0 < length ds) (λ n h. omega arith) (λ n ds h before. omega (arith, length-append ds ((48 + n % 10) ∷ [])))

-- the first byte of digits is no sign
pub no-sign : (digits : List ℕ) → list_all is_ascii_digit digits ≡ true → bytes_eq (take 1 digits) (codes "-") ≡ false
no-sign [] d = refl
no-sign (x ∷ digits) d =
    let h = both (is_ascii_digit x) (list_all is_ascii_digit digits) d in
    rw (other-digit x 45 h.0 refl) refl

-- 1 to 39 digits
pub digits-shown : (n : ℕ) → n < 10 ^ 39 → digits_spelled (decimal n) ≡ Some n
digits-shown n h =
    let some = some-shown n (omega arith) in
    let few = length-decimal-le_wide 39 n (omega arith) h (omega arith) in
    let a : nat_lt 0 (length (decimal n)) ≡ true = grind (arith, nat_tests) in
    let b : nat_le (length (decimal n)) 39 ≡ true = grind (arith, nat_tests) in
    rw (a, b) (number-shown n (omega arith))
