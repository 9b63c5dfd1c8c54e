-- Items of two lists, pair by pair.
use Rattle.std.proofs.Common.{ℕ, ◌≡◌, ◌<◌, List, length, get_or, sym, ◌∙◌, arith}
use Rattle.std.specs.Simd.Lanes.{zip2}
use Rattle.std.proofs.lemmas.Simd.{length-zip2, get_or-zip2}

-- a place among the pairs is one among the items
pub pair-inside : {X Y Z : Type 0} (f : X → Y → Z) (xs : List X) (ys : List Y) (i : ℕ) → length xs ≡ length ys → i < length (zip2 f xs ys) → i < length xs
pair-inside f xs ys i e h = omega (arith, h, length-zip2 f xs ys e)

-- the pair at a place
pub pair-at : {X Y Z : Type 0} (f : X → Y → Z) (xs : List X) (ys : List Y) (i : ℕ) (x : X) (y : Y) (z r : Z) → length xs ≡ length ys → i < length (zip2 f xs ys) → r ≡ f (get_or xs i x) (get_or ys i y) → r ≡ get_or (zip2 f xs ys) i z
pair-at f xs ys i x y z r e h is =
    let inside : i < length xs = pair-inside f xs ys i e h in
    is ∙ sym (get_or-zip2 f xs ys i x y z inside (omega (arith, inside, e)))
