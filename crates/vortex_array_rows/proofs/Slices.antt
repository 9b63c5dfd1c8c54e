use Rattle.std.proofs.Common.{ℕ, zero, suc, ◌-◌, ◌≤◌, ◌≡◌, List, [], ◌∷◌, length, take, drop, map, refl, sym, ap, ◌∙◌, arith, length-take, length-drop}
use Rattle.std.specs.Prelude.{slice_range}
use Rattle.std.specs.Simd.Lanes.{zip2}
use Rattle.std.proofs.lemmas.List.{take-map, drop-map}
use Rattle.vortex_array_rows.proofs.Kept.{zip2-nil}

-- how long a part is
pub length-slice : {X : Type 0} (xs : List X) (i j : ℕ) → i ≤ j → j ≤ length xs → length (slice_range xs i j) ≡ j - i
length-slice xs i j order within = omega (arith, length-take (j - i) (drop i xs), length-drop i xs)

-- a part of a map is the map of the part
pub slice-map : {X Y : Type 0} (f : X → Y) (xs : List X) (i j : ℕ) → slice_range (map f xs) i j ≡ map f (slice_range xs i j)
slice-map f xs i j = ap (take (j - i)) (drop-map f i xs) ∙ take-map f (j - i) (drop i xs)

-- the front of two lists joined item by item
take-zip2 : {X Y Z : Type 0} (f : X → Y → Z) (n : ℕ) (xs : List X) (ys : List Y) → take n (zip2 f xs ys) ≡ zip2 f (take n xs) (take n ys)
take-zip2 f zero xs ys = refl
take-zip2 f (suc n) [] ys = refl
take-zip2 f (suc n) (x ∷ xs) [] = refl
take-zip2 f (suc n) (x ∷ xs) (y ∷ ys) = ap (λ zs. f x y ∷ zs) (take-zip2 f n xs ys)

-- what follows the front of two lists joined item by item
drop-zip2 : {X Y Z : Type 0} (f : X → Y → Z) (n : ℕ) (xs : List X) (ys : List Y) → drop n (zip2 f xs ys) ≡ zip2 f (drop n xs) (drop n ys)
drop-zip2 f zero xs ys = refl
drop-zip2 f (suc n) [] ys = refl
drop-zip2 f (suc n) (x ∷ xs) [] = sym (zip2-nil f (drop n xs))
drop-zip2 f (suc n) (x ∷ xs) (y ∷ ys) = drop-zip2 f n xs ys

-- a part of two lists joined item by item is the parts joined
pub slice-zip2 : {X Y Z : Type 0} (f : X → Y → Z) (xs : List X) (ys : List Y) (i j : ℕ) → slice_range (zip2 f xs ys) i j ≡ zip2 f (slice_range xs i j) (slice_range ys i j)
slice-zip2 f xs ys i j = ap (take (j - i)) (drop-zip2 f i xs ys) ∙ take-zip2 f (j - i) (drop i xs) (drop i ys)
