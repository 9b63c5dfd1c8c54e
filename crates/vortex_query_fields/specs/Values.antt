-- The values that fields spell, by their types.
use Rattle.std.specs.Prelude.{ℕ, Bool, true, false, ◌&&◌, List, [], ◌∷◌, codes, Option, Some, None, option_map, if◌then◌else◌}
use Rattle.std.specs.Str.{bytes_eq, is_utf8}
use Rattle.vortex_array_types.specs.declared.types.DType.{DType}
use Rattle.vortex_array_types.specs.declared.types.DType.TheVariants as dtype
use Rattle.vortex_array_types.specs.declared.scalar.Value.{Value}
use Rattle.vortex_array_types.specs.declared.scalar.Value.TheVariants as value
use Rattle.vortex_array_types.specs.Row.{is_nullable}
use Rattle.vortex_query_fields.specs.Numbers.{whole_spelled}
use Rattle.vortex_query_fields.specs.Decimals.{decimal_spelled}
use Rattle.vortex_query_fields.specs.Hex.{hex_spelled}

-- `true` or `false`
abbrev pub truth_spelled : List ℕ → Option Bool
truth_spelled field = if bytes_eq field (codes "true") then Some true else if bytes_eq field (codes "false") then Some false else None

-- the bytes where they are a text
abbrev pub text_spelled : List ℕ → Option (List ℕ)
text_spelled bytes = if is_utf8 bytes then Some bytes else None

-- the value of the type that a field spells: an empty one is the empty text, or no bytes
abbrev pub value_spelled : DType → List ℕ → Option Value
value_spelled (dtype.Bool _) field = option_map value.Bool (truth_spelled field)
value_spelled (dtype.Primitive width _) field = option_map value.Int (whole_spelled width field)
value_spelled (dtype.Decimal digits _) field = option_map value.Decimal (decimal_spelled digits field)
value_spelled (dtype.Utf8 _) field = option_map value.Utf8 (text_spelled field)
value_spelled (dtype.Binary _) field = option_map value.Binary (hex_spelled field)

-- nothing stands in the field
abbrev pub is_empty : List ℕ → Bool
is_empty [] = true
is_empty (b ∷ rest) = false

-- the row of a column that a field spells: an empty field of a column with nulls is null
abbrev pub field_spelled : DType → List ℕ → Option (Option Value)
field_spelled t field = if is_nullable t && is_empty field then Some None else option_map (λ v. Some v) (value_spelled t field)
