use Rattle.std.proofs.Common.{ℕ, zero, suc, ◌≡◌, cond, Bool, true, false, List, [], ◌∷◌, ◌++◌, length, map, replicate, refl, sym, ap, arith}
use Rattle.std.specs.List.{count_by}
use Rattle.std.specs.Simd.Lanes.{zip2}
use Rattle.std.proofs.lemmas.List.Sums.{sum_by-cons}
use Rattle.vortex_array_rows.specs.Kept.{kept_by}

-- where every bit is set, every item is kept
pub kept_by-all : {X : Type 0} (n : ℕ) (xs : List X) → n ≡ length xs → kept_by (replicate n true) xs ≡ xs
kept_by-all zero [] e = refl
kept_by-all zero (x ∷ xs) e = absurd (omega arith)
kept_by-all (suc n) [] e = refl
kept_by-all (suc n) (x ∷ xs) e = ap (λ ys. x ∷ ys) (kept_by-all n xs (omega arith))

-- where no bit is set, no item is kept
pub kept_by-none : {X : Type 0} (n : ℕ) (xs : List X) → kept_by (replicate n false) xs ≡ []
kept_by-none zero xs = refl
kept_by-none (suc n) [] = refl
kept_by-none (suc n) (x ∷ xs) = kept_by-none n xs

-- what is kept of two lists in a row
pub kept_by-append : {X : Type 0} (as₁ bs₁ : List Bool) (xs ys : List X) → length as₁ ≡ length xs → kept_by (as₁ ++ bs₁) (xs ++ ys) ≡ kept_by as₁ xs ++ kept_by bs₁ ys
kept_by-append [] bs₁ [] ys e = refl
kept_by-append [] bs₁ (x ∷ xs) ys e = absurd (omega arith)
kept_by-append (a ∷ as₁) bs₁ [] ys e = absurd (omega arith)
kept_by-append (true ∷ as₁) bs₁ (x ∷ xs) ys e = ap (λ zs. x ∷ zs) (kept_by-append as₁ bs₁ xs ys (omega arith))
kept_by-append (false ∷ as₁) bs₁ (x ∷ xs) ys e = kept_by-append as₁ bs₁ xs ys (omega arith)

-- as many are kept as bits are set
pub length-kept_by : {X : Type 0} (bits : List Bool) (xs : List X) → length bits ≡ length xs → length (kept_by bits xs) ≡ count_by (λ bit. bit) bits
length-kept_by [] [] e = refl
length-kept_by [] (x ∷ xs) e = refl
length-kept_by (b ∷ bits) [] e = absurd (omega arith)
length-kept_by (true ∷ bits) (x ∷ xs) e =
    let rest = length-kept_by bits xs (omega arith) in
    let more = sum_by-cons (λ (b : Bool). cond {A = ℕ} b 1 0) true bits in
    omega (arith, rest, more)
length-kept_by (false ∷ bits) (x ∷ xs) e =
    let rest = length-kept_by bits xs (omega arith) in
    let more = sum_by-cons (λ (b : Bool). cond {A = ℕ} b 1 0) false bits in
    omega (arith, rest, more)

-- what is kept of a map is the map of what is kept
pub kept_by-map : {X Y : Type 0} (f : X → Y) (bits : List Bool) (xs : List X) → kept_by bits (map f xs) ≡ map f (kept_by bits xs)
kept_by-map f [] xs = refl
kept_by-map f (b ∷ bits) [] = refl
kept_by-map f (true ∷ bits) (x ∷ xs) = ap (λ ys. f x ∷ ys) (kept_by-map f bits xs)
kept_by-map f (false ∷ bits) (x ∷ xs) = kept_by-map f bits xs

-- nothing joined on the right
pub zip2-nil : {X Y Z : Type 0} (f : X → Y → Z) (xs : List X) → zip2 f xs [] ≡ []
zip2-nil f [] = refl
zip2-nil f (x ∷ xs) = refl

-- what is kept of two lists joined item by item is what is kept of each, joined
pub kept_by-zip2 : {X Y Z : Type 0} (f : X → Y → Z) (bits : List Bool) (xs : List X) (ys : List Y) → kept_by bits (zip2 f xs ys) ≡ zip2 f (kept_by bits xs) (kept_by bits ys)
kept_by-zip2 f [] xs ys = refl
kept_by-zip2 f (b ∷ bits) [] ys = refl
kept_by-zip2 f (b ∷ bits) (x ∷ xs) [] = sym (zip2-nil f (kept_by (b ∷ bits) (x ∷ xs)))
kept_by-zip2 f (true ∷ bits) (x ∷ xs) (y ∷ ys) = ap (λ zs. f x y ∷ zs) (kept_by-zip2 f bits xs ys)
kept_by-zip2 f (false ∷ bits) (x ∷ xs) (y ∷ ys) = kept_by-zip2 f bits xs ys
