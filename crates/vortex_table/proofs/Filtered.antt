-- Filters that keep all.
use Rattle.std.proofs.Common.{◌≡◌, ap, refl, List, [], ◌∷◌, true}
use Rattle.std.specs.Prelude.{filter}

-- a test that is always true keeps all
pub filter_all : {X : Type 0} (xs : List X) → filter (λ _. true) xs ≡ xs
filter_all [] = refl
filter_all (x ∷ xs) = ap (λ ys. x ∷ ys) (filter_all xs)
