-- The front of a list of bytes as a number.
use Rattle.std.specs.Prelude.{ℕ, zero, suc, ◌+◌, ◌*◌, ◌^◌, List, [], ◌∷◌}

-- the first n bytes as a number, the first of them the greatest, with zeros for those behind the end
unfoldable pub first_number : ℕ → List ℕ → ℕ
first_number zero bytes = 0
first_number (suc n) [] = 0
first_number (suc n) (b ∷ bytes) = b * 256 ^ n + first_number n bytes

-- the first eight as a number
unfoldable pub front_number : List ℕ → ℕ
front_number bytes = first_number 8 bytes
