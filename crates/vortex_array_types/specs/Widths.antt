-- The widths of whole numbers, and types with nulls and without.
use Rattle.std.specs.Prelude.{ℕ, ◌^◌, ◌-◌, ℤ, pos, neg_ℤ, Bool, true, false}
use Rattle.vortex_array_types.specs.declared.types.PType.{PType}
use Rattle.vortex_array_types.specs.declared.types.PType.TheVariants.{U8, U16, U32, U64, I8, I16, I32, I64}
use Rattle.vortex_array_types.specs.declared.types.Nullability.{Nullability}
use Rattle.vortex_array_types.specs.declared.types.Nullability.TheVariants.{NonNullable, Nullable}
use Rattle.vortex_array_types.specs.declared.types.DType.{DType}
use Rattle.vortex_array_types.specs.declared.types.DType.TheVariants as dtype

-- how many bytes a number of the width takes
abbrev pub bytes_in : PType → ℕ
bytes_in U8 = 1
bytes_in U16 = 2
bytes_in U32 = 4
bytes_in U64 = 8
bytes_in I8 = 1
bytes_in I16 = 2
bytes_in I32 = 4
bytes_in I64 = 8

-- the width has no number below 0
abbrev pub has_no_sign : PType → Bool
has_no_sign U8 = true
has_no_sign U16 = true
has_no_sign U32 = true
has_no_sign U64 = true
has_no_sign I8 = false
has_no_sign I16 = false
has_no_sign I32 = false
has_no_sign I64 = false

-- the least number of the width
abbrev pub least : PType → ℤ
least U8 = pos 0
least U16 = pos 0
least U32 = pos 0
least U64 = pos 0
least I8 = neg_ℤ (pos (2 ^ 7))
least I16 = neg_ℤ (pos (2 ^ 15))
least I32 = neg_ℤ (pos (2 ^ 31))
least I64 = neg_ℤ (pos (2 ^ 63))

-- the greatest number of the width
abbrev pub greatest : PType → ℤ
greatest U8 = pos (2 ^ 8 - 1)
greatest U16 = pos (2 ^ 16 - 1)
greatest U32 = pos (2 ^ 32 - 1)
greatest U64 = pos (2 ^ 64 - 1)
greatest I8 = pos (2 ^ 7 - 1)
greatest I16 = pos (2 ^ 15 - 1)
greatest I32 = pos (2 ^ 31 - 1)
greatest I64 = pos (2 ^ 63 - 1)

-- the same type, with nulls or without
abbrev pub with_nullability : Nullability → DType → DType
with_nullability n (dtype.Bool m) = dtype.Bool n
with_nullability n (dtype.Primitive width m) = dtype.Primitive width n
with_nullability n (dtype.Decimal d m) = dtype.Decimal d n
with_nullability n (dtype.Utf8 m) = dtype.Utf8 n
with_nullability n (dtype.Binary m) = dtype.Binary n

-- the same type, with nulls
abbrev pub nullable_form : DType → DType
nullable_form t = with_nullability Nullable t

-- the same type, without nulls
abbrev pub full_form : DType → DType
full_form t = with_nullability NonNullable t
