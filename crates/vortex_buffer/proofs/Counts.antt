use Rattle.std.proofs.Common.{ℕ, suc, cond, ◌+◌, ◌≤◌, ◌≡◌, Bool, true, false, List, [], ◌∷◌, eqb, length, refl, ◌∙◌, arith}
use Rattle.std.specs.List.{count_by, list_all}
use Rattle.std.proofs.lemmas.List.Sums.{count_by-le-length, sum_by-cons}

-- one more on both sides
one_more : (c m n : ℕ) → c ≡ 1 + m → eqb c (suc n) ≡ eqb m n
one_more c m n e = grind arith

-- a count that fell behind does not catch up
too_few : (c m n : ℕ) → c ≡ 0 + m → m ≤ n → eqb c (suc n) ≡ false
too_few c m n e h = grind arith

-- a count with one more bit in front
count-cons : (bit : Bool) (bits : List Bool) → count_by (λ b. b) (bit ∷ bits) ≡ cond bit 1 0 + count_by (λ b. b) bits
count-cons bit bits = sum_by-cons (λ b. cond b 1 0) bit bits

-- every bit is set exactly where as many are set as there are
pub all_counted : (bits : List Bool) → eqb (count_by (λ bit. bit) bits) (length bits) ≡ list_all (λ bit. bit) bits
all_counted [] = refl
all_counted (true ∷ bits) = one_more _ (count_by (λ bit. bit) bits) (length bits) (count-cons true bits) ∙ all_counted bits
all_counted (false ∷ bits) = too_few _ (count_by (λ bit. bit) bits) (length bits) (count-cons false bits) (count_by-le-length (λ bit. bit) bits)
