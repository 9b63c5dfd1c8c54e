use Rattle.std.proofs.Common.{ℕ, ◌^◌, ◌<◌, ◌≡◌, Bool, not, ◌&&◌, ◌||◌, List, length, get_or, arith, ap, ◌∙◌}
use Rattle.std.specs.Prelude.{ℤ, int_lt, nat_lt, nat_le, nat_eq}
use Rattle.std.specs.Ordering.{int_eq}
use Rattle.std.specs.List.{All, zip}
use Rattle.std.proofs.lemmas.Int.{ints}
use Rattle.std.proofs.lemmas.List.{get_or_default}
use Rattle.std.proofs.lemmas.Slice.Zip.{length-zip, get_or-zip}
use Rattle.vortex_compute.specs.Compare.{compares, pair_number}
use Rattle.vortex_buffer.specs.declared.compare_operator.CompareOperator.{CompareOperator}
use Rattle.vortex_buffer.specs.declared.compare_operator.CompareOperator.TheVariants.{Eq, NotEq, Gt, Gte, Lt, Lte}

-- the comparison of two numbers word by word
abbrev pub by_words : CompareOperator → ℤ → ℕ → ℤ → ℕ → Bool
by_words Eq a b c d = int_eq a c && nat_eq b d
by_words NotEq a b c d = not (int_eq a c) || not (nat_eq b d)
by_words Gt a b c d = int_lt c a || (int_eq a c && nat_lt d b)
by_words Gte a b c d = int_lt c a || (int_eq a c && nat_le d b)
by_words Lt a b c d = int_lt a c || (int_eq a c && nat_lt b d)
by_words Lte a b c d = int_lt a c || (int_eq a c && nat_le b d)

-- it is the comparison of the numbers
pub by_words_holds : (operator : CompareOperator) (a : ℤ) (b : ℕ) (c : ℤ) (d : ℕ) → b < 2 ^ 64 → d < 2 ^ 64 → by_words operator a b c d ≡ compares operator (pair_number a b) (pair_number c d)
by_words_holds Eq a b c d p q = grind (arith, ints)
by_words_holds NotEq a b c d p q = grind (arith, ints)
by_words_holds Gt a b c d p q = grind (arith, ints)
by_words_holds Gte a b c d p q = grind (arith, ints)
by_words_holds Lt a b c d p q = grind (arith, ints)
by_words_holds Lte a b c d p q = grind (arith, ints)

-- the second words of pairs fit where those of the slice do
pub second_fits : (xs : List ℤ) (ys : List ℕ) → ((i : ℕ) → get_or ys i 0 < 2 ^ 64) → All (λ pair. pair.1 < 2 ^ 64) (zip xs ys)
second_fits xs ys fits k d inside =
    let left : k < length xs = omega (arith, length-zip xs ys, inside) in
    let right : k < length ys = omega (arith, length-zip xs ys, inside) in
    let is : (get_or (zip xs ys) k d).1 ≡ get_or ys k 0 = ap (λ p. p.1) (get_or-zip xs ys k d left right) ∙ get_or_default ys k d.1 0 right in
    rw is (fits k)
