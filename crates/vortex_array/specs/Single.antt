-- What one row holds.
use Rattle.std.specs.Prelude.{ℕ, ℤ, pos, Bool, true, false, List, Option, Some, None}
use Rattle.vortex_array_types.specs.declared.types.Nullability.{Nullability}
use Rattle.vortex_array_types.specs.declared.types.Nullability.TheVariants.{NonNullable as WithoutNulls, Nullable}
use Rattle.vortex_array_types.specs.declared.scalar.Value.{Value}
use Rattle.vortex_array_types.specs.declared.scalar.Value.TheVariants as value
use Rattle.vortex_array_kinds.specs.declared.validity.Validity.{Validity}
use Rattle.vortex_array_kinds.specs.declared.validity.Validity.TheVariants.{NonNullable, AllValid, AllInvalid}

-- its truth value, false where it has none
abbrev pub truth_held : Option Value → Bool
truth_held (Some (value.Bool b)) = b
truth_held _ = false

-- its whole number, 0 where it has none
abbrev pub number_held : Option Value → ℤ
number_held (Some (value.Int n)) = n
number_held _ = pos 0

-- its unscaled number, 0 where it has none
abbrev pub unscaled_held : Option Value → ℤ
unscaled_held (Some (value.Decimal n)) = n
unscaled_held _ = pos 0

-- its bytes, if it has any
abbrev pub bytes_held : Option Value → Option (List ℕ)
bytes_held (Some (value.Utf8 text)) = Some text
bytes_held (Some (value.Binary bytes)) = Some bytes
bytes_held _ = None

-- whether it is null, of a type with nulls or without
abbrev pub validity_held : Nullability → Bool → Validity
validity_held WithoutNulls present = NonNullable
validity_held Nullable true = AllValid
validity_held Nullable false = AllInvalid
