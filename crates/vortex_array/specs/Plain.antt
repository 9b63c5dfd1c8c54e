-- The kinds of types.
use Rattle.std.specs.Prelude.{Bool, true, false}
use Rattle.vortex_array_types.specs.declared.types.DType.{DType}
use Rattle.vortex_array_types.specs.declared.types.DType.TheVariants as dtype

-- a type of truth values
abbrev pub is_bool_type : DType → Bool
is_bool_type (dtype.Bool n) = true
is_bool_type _ = false

-- a type of whole numbers
abbrev pub is_primitive_type : DType → Bool
is_primitive_type (dtype.Primitive width n) = true
is_primitive_type _ = false

-- a type of decimals
abbrev pub is_decimal_type : DType → Bool
is_decimal_type (dtype.Decimal digits n) = true
is_decimal_type _ = false
