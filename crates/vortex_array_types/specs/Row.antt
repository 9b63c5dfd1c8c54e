-- Values, rows and columns.
use Rattle.std.specs.Prelude.{ℕ, ◌^◌, ◌-◌, ℤ, pos, neg_ℤ, int_le, int_lt, Bool, true, false, ◌&&◌, List, Option, Some, None}
use Rattle.std.specs.List.{list_all}
use Rattle.vortex_array_types.specs.declared.types.PType.{PType}
use Rattle.vortex_array_types.specs.declared.types.PType.TheVariants.{U8, U16, U32, U64, I8, I16, I32, I64}
use Rattle.vortex_array_types.specs.declared.types.Nullability.{Nullability}
use Rattle.vortex_array_types.specs.declared.types.Nullability.TheVariants.{NonNullable, Nullable}
use Rattle.vortex_array_types.specs.declared.types.DType.{DType}
use Rattle.vortex_array_types.specs.declared.types.DType.TheVariants as dtype
use Rattle.vortex_array_types.specs.declared.scalar.Value.{Value}
use Rattle.vortex_array_types.specs.declared.scalar.Value.TheVariants as value

-- the number is unsigned, with so many bits
abbrev pub in_unsigned : ℕ → ℤ → Bool
in_unsigned bits n = int_le (pos 0) n && int_lt n (pos (2 ^ bits))

-- the number is signed, with so many bits
abbrev pub in_signed : ℕ → ℤ → Bool
in_signed bits n = int_le (neg_ℤ (pos (2 ^ (bits - 1)))) n && int_lt n (pos (2 ^ (bits - 1)))

-- the number lies in the width
abbrev pub in_width : PType → ℤ → Bool
in_width U8 n = in_unsigned 8 n
in_width U16 n = in_unsigned 16 n
in_width U32 n = in_unsigned 32 n
in_width U64 n = in_unsigned 64 n
in_width I8 n = in_signed 8 n
in_width I16 n = in_signed 16 n
in_width I32 n = in_signed 32 n
in_width I64 n = in_signed 64 n

-- whether the type has nulls
abbrev pub nullability : DType → Nullability
nullability (dtype.Bool n) = n
nullability (dtype.Primitive p n) = n
nullability (dtype.Decimal d n) = n
nullability (dtype.Utf8 n) = n
nullability (dtype.Binary n) = n

-- null stands in the type
abbrev pub is_nullable : DType → Bool
is_nullable t = admits_null (nullability t)
  where
    admits_null : Nullability → Bool
    admits_null NonNullable = false
    admits_null Nullable = true

-- the value is of the type's kind, and a whole number in its width
abbrev pub value_fits : DType → Value → Bool
value_fits (dtype.Bool _) (value.Bool b) = true
value_fits (dtype.Primitive width _) (value.Int n) = in_width width n
value_fits (dtype.Decimal d _) (value.Decimal n) = true
value_fits (dtype.Utf8 _) (value.Utf8 t) = true
value_fits (dtype.Binary _) (value.Binary b) = true
value_fits _ _ = false

-- the row, a value or null, fits the type: null stands only in a nullable one
abbrev pub fits_type : DType → Option Value → Bool
fits_type t None = is_nullable t
fits_type t (Some v) = value_fits t v

-- a row of a type: what a scalar is
pub record TypedRow : Type 0 where
  pub dtype : DType
  pub value : Option Value

-- a type and a list of rows
pub record Column : Type 0 where
  pub dtype : DType
  pub rows : List (Option Value)

-- a list of rows that fit the type
abbrev pub fits_column : Column → Bool
fits_column c = list_all (fits_type c.dtype) c.rows
