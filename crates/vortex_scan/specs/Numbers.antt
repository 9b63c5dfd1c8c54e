-- Numbers that repeat.
use Rattle.std.specs.Prelude.{ℕ, Bool, false, ◌||◌, eqb, List, [], ◌∷◌}
use Rattle.std.specs.List.{list_any}

-- whether some number stands in the list twice
abbrev pub repeats : List ℕ → Bool
repeats [] = false
repeats (number ∷ numbers) = list_any (eqb number) numbers || repeats numbers
