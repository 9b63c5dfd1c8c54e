-- The numbers that digits spell, and the whole numbers that fields spell.
use Rattle.std.specs.Prelude.{ℕ, ℤ, pos, neg_ℤ, ◌+◌, ◌-◌, ◌*◌, ◌&&◌, Bool, List, [], ◌∷◌, codes, drop, length, take, Option, Some, None, option_map, nat_lt, nat_le, if◌then◌else◌}
use Rattle.std.specs.Char.{is_ascii_digit}
use Rattle.std.specs.Str.{bytes_eq}
use Rattle.vortex_array_types.specs.declared.types.PType.{PType}
use Rattle.vortex_array_types.specs.Row.{in_width}

-- the number of the digits, after those that gave n
unfoldable pub number_after : ℕ → List ℕ → Option ℕ
number_after n [] = Some n
number_after n (b ∷ rest) = if is_ascii_digit b then number_after (n * 10 + (b - 48)) rest else None

-- at least one, and at most so many
abbrev pub is_count : ℕ → ℕ → Bool
is_count most n = nat_lt 0 n && nat_le n most

-- 1 to 39 digits
abbrev pub digits_spelled : List ℕ → Option ℕ
digits_spelled bytes = if is_count 39 (length bytes) then number_after 0 bytes else None

-- the number where it is below the limit
abbrev pub below : ℕ → Option ℕ → Option ℕ
below limit None = None
below limit (Some n) = if nat_lt n limit then Some n else None

-- an optional '-', and then what spells a size
abbrev pub signed_spelled : (List ℕ → Option ℕ) → List ℕ → Option ℤ
signed_spelled size field = if bytes_eq (take 1 field) (codes "-") then option_map (λ n. neg_ℤ (pos n)) (size (drop 1 field)) else option_map pos (size field)

-- the number where it passes
abbrev pub where_in : (ℤ → Bool) → Option ℤ → Option ℤ
where_in test None = None
where_in test (Some z) = if test z then Some z else None

-- an optional '-' and 1 to 39 digits, in the range of the width
abbrev pub whole_spelled : PType → List ℕ → Option ℤ
whole_spelled width field = where_in (in_width width) (signed_spelled digits_spelled field)
