-- Bytes as pairs of hexadecimal digits.
use Rattle.std.specs.Prelude.{ℕ, ◌+◌, ◌*◌, ◌/◌, ◌%◌, ◌&&◌, List, [], ◌∷◌, flat_map, Option, Some, None, if◌then◌else◌}
use Rattle.std.specs.Char.{digit_char, digit_value, is_ascii_hexdigit}

-- the byte of two hexadecimal digits, in either case
abbrev pub pair_spelled : ℕ → ℕ → Option ℕ
pair_spelled high low = if is_ascii_hexdigit high && is_ascii_hexdigit low then Some (digit_value high * 16 + digit_value low) else None

-- this byte before those
abbrev pub byte_before : Option ℕ → Option (List ℕ) → Option (List ℕ)
byte_before (Some b) (Some rest) = Some (b ∷ rest)
byte_before _ _ = None

-- the bytes of none or more pairs
unfoldable pub hex_spelled : List ℕ → Option (List ℕ)
hex_spelled [] = Some []
hex_spelled (high ∷ []) = None
hex_spelled (high ∷ low ∷ rest) = byte_before (pair_spelled high low) (hex_spelled rest)

-- a byte in two lower-case digits
abbrev pub byte_text : ℕ → List ℕ
byte_text b = digit_char (b / 16) ∷ digit_char (b % 16) ∷ []

-- bytes in lower-case digits
abbrev pub hex_text : List ℕ → List ℕ
hex_text bytes = flat_map byte_text bytes
