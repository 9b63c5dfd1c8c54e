-- Which arrays are the parts of decimals, and why others are not.
use Rattle.std.specs.Prelude.{◌≡◌, ℕ, ◌==◌, Bool, true, false, not, ◌&&◌, cond, List, [], ◌∷◌, length, Option, Some, None}
use Rattle.std.specs.List.{list_all}
use Rattle.vortex_array_types.specs.Digits.{Digits}
use Rattle.vortex_array_types.specs.Row.{nullability}
use Rattle.vortex_array_types.specs.Typed.{same_apart_from_nullability}
use Rattle.vortex_array_types.specs.Widths.{has_no_sign}
use Rattle.vortex_array_types.specs.declared.types.DType.{DType}
use Rattle.vortex_array_types.specs.declared.types.DType.TheVariants as dtype
use Rattle.vortex_array_types.specs.declared.types.Nullability.{Nullability}
use Rattle.vortex_array_types.specs.declared.types.Nullability.TheVariants.{NonNullable, Nullable}
use Rattle.vortex_array.specs.declared.arrays.Array.{Array}
use Rattle.vortex_array.specs.ColumnOf.{column_of}
use Rattle.vortex_decimal_byte_parts.specs.Columns.{Parts}
use Rattle.vortex_decimal_byte_parts.specs.declared.errors.PartsError.{PartsError}
use Rattle.vortex_decimal_byte_parts.specs.declared.errors.PartsError.TheVariants as refused
use Rattle.vortex_decimal_byte_parts.specs.declared.errors.AssembleError.{AssembleError}
use Rattle.vortex_decimal_byte_parts.specs.declared.errors.AssembleError.TheVariants as assembling

-- the type of a most significant part: signed whole numbers
abbrev pub is_msp_type : DType → Bool
is_msp_type (dtype.Primitive width n) = not (has_no_sign width)
is_msp_type _ = false

-- the type of a lower part: unsigned whole numbers without null
abbrev pub is_lower_type : DType → Bool
is_lower_type (dtype.Primitive width NonNullable) = has_no_sign width
is_lower_type _ = false

-- an array of so many rows
abbrev pub has_length : ℕ → Array → Bool
has_length n a = length (column_of a).rows == n

-- a lower part of so many rows
abbrev pub is_lower : ℕ → Array → Bool
is_lower n a = has_length n a && is_lower_type (column_of a).dtype

-- no lower part, or one of so many rows
abbrev pub is_lower_or_none : ℕ → Option Array → Bool
is_lower_or_none n None = true
is_lower_or_none n (Some lower) = is_lower n lower

-- the parts of decimals
abbrev pub are_parts : Parts → Bool
are_parts p = is_msp_type (column_of p.msp).dtype && is_lower_or_none (length (column_of p.msp).rows) p.lower

-- the only one of the lower parts, if there is one
abbrev pub first_of_lower : List Array → Option Array
first_of_lower [] = None
first_of_lower (lower ∷ lowers) = Some lower

-- why arrays of the right length are no lower parts: there is more than one, or its type is no such type
abbrev pub refused_lower : List Array → Option PartsError
refused_lower [] = None
refused_lower (lower ∷ []) = cond (is_lower_type (column_of lower).dtype) None (Some refused.LowerNotUnsigned)
refused_lower (lower ∷ other ∷ lowers) = Some refused.TooManyLowerParts

-- why arrays are no lower parts of so many rows
abbrev pub refused_beside : ℕ → List Array → Option PartsError
refused_beside n lowers = cond (list_all (has_length n) lowers) (refused_lower lowers) (Some refused.LengthMismatch)

-- why arrays are no parts
abbrev pub refused_parts : Array → List Array → Option PartsError
refused_parts msp lowers = cond (is_msp_type (column_of msp).dtype) (refused_beside (length (column_of msp).rows) lowers) (Some refused.MspNotSigned)

-- both have nulls, or neither has
abbrev pub same_nulls : Nullability → Nullability → Bool
same_nulls NonNullable NonNullable = true
same_nulls NonNullable Nullable = false
same_nulls Nullable NonNullable = false
same_nulls Nullable Nullable = true

-- the type of the decimals, with nulls where the most significant part has them
abbrev pub is_type_of_parts : Array → Digits → DType → Bool
is_type_of_parts msp digits t = same_apart_from_nullability t (dtype.Decimal digits NonNullable) && same_nulls (nullability t) (nullability (column_of msp).dtype)

-- why arrays are no parts of a column of this type and of so many rows
abbrev pub refused_column : Array → List Array → Digits → DType → ℕ → Option PartsError
refused_column msp lowers digits t n =
    cond (is_msp_type (column_of msp).dtype)
    (cond (is_type_of_parts msp digits t) (cond (has_length n msp) (refused_beside n lowers) (Some refused.LengthMismatch)) (Some refused.WrongDecimalType))
    (Some refused.MspNotSigned)

-- why parts are not put together: they are none, or memory alone is wanting
abbrev pub RefusesAssembly : Option PartsError → AssembleError → Type 0
RefusesAssembly cause assembling.MspNotSigned = cause ≡ Some refused.MspNotSigned
RefusesAssembly cause assembling.LengthMismatch = cause ≡ Some refused.LengthMismatch
RefusesAssembly cause assembling.TooManyLowerParts = cause ≡ Some refused.TooManyLowerParts
RefusesAssembly cause assembling.LowerNotUnsigned = cause ≡ Some refused.LowerNotUnsigned
RefusesAssembly cause assembling.OutOfMemory = cause ≡ None
