-- Which rows of a list a mask keeps.
use Rattle.std.specs.Prelude.{ℕ, ◌/◌, ◌%◌, ◌==◌, Bool, cond, List, [], ◌∷◌}

-- the items whose bit is set, in their order
abbrev pub kept_by : {X : Type 0} → List Bool → List X → List X
kept_by [] xs = []
kept_by (bit ∷ bits) [] = []
kept_by (bit ∷ bits) (x ∷ xs) = cond bit (x ∷ kept_by bits xs) (kept_by bits xs)

-- the items whose bit is set in a word, least significant bit first
abbrev pub kept_in : {X : Type 0} → ℕ → List X → List X
kept_in word [] = []
kept_in word (x ∷ xs) = cond (word % 2 == 1) (x ∷ kept_in (word / 2) xs) (kept_in (word / 2) xs)
