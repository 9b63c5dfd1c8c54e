-- What a header cell and a field of a column of `u64` spell.
use Rattle.std.specs.Prelude.{ℕ, ◌+◌, ◌-◌, ◌*◌, ◌^◌, ◌==◌, ◌&&◌, List, [], ◌∷◌, length, take, drop, Option, Some, None, option_and_then, nat_lt, nat_le, codes, if◌then◌else◌}
use Rattle.std.specs.Char.{is_ascii_digit}
use Rattle.std.specs.Str.{bytes_eq, is_utf8}

-- the number of the digits, after those that gave n
unfoldable pub number_after : ℕ → List ℕ → Option ℕ
number_after n [] = Some n
number_after n (b ∷ rest) = if is_ascii_digit b then number_after (n * 10 + (b - 48)) rest else None

-- the number where it has 64 bits at most
abbrev pub in_u64 : Option ℕ → Option ℕ
in_u64 None = None
in_u64 (Some n) = if nat_lt n (2 ^ 64) then Some n else None

-- 1 to 39 digits, in range
abbrev pub digits_number : List ℕ → Option ℕ
digits_number bytes = if nat_lt 0 (length bytes) && nat_le (length bytes) 39 then in_u64 (number_after 0 bytes) else None

-- the number where it is 0
abbrev pub zero_alone : Option ℕ → Option ℕ
zero_alone None = None
zero_alone (Some n) = if n == 0 then Some 0 else None

-- an optional '-' and digits: behind a '-' only zero is in range
abbrev pub field_number : List ℕ → Option ℕ
field_number [] = None
field_number (b ∷ rest) = if b == 45 then zero_alone (digits_number rest) else digits_number (b ∷ rest)

-- the bytes where they are a text
abbrev pub text_in : List ℕ → Option (List ℕ)
text_in bytes = if is_utf8 bytes then Some bytes else None

-- a name that is a text and not empty, a colon and the type
abbrev pub cell_name : List ℕ → Option (List ℕ)
cell_name cell = if bytes_eq (drop (length cell - 4) cell) (codes ":u64") && nat_lt 4 (length cell) then text_in (take (length cell - 4) cell) else None

-- the field of a row that has no other
abbrev pub only : List (List ℕ) → Option (List ℕ)
only (field ∷ []) = Some field
only [] = None
only (field ∷ next ∷ rest) = None

-- the number of the one field of a row
abbrev pub row_number : List (List ℕ) → Option ℕ
row_number fields = option_and_then field_number (only fields)

-- the name in the one cell of a header
abbrev pub header_name : List (List ℕ) → Option (List ℕ)
header_name cells = option_and_then cell_name (only cells)
