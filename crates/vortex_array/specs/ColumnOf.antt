-- The column that an array stands for.
use Rattle.std.specs.Prelude.{Bool, true, false}
use Rattle.vortex_array_types.specs.Row.{Column}
use Rattle.vortex_array.specs.declared.arrays.Array.{Array}
use Rattle.vortex_array.specs.declared.arrays.Array.TheVariants.{Bool as Bools, Primitive, Decimal, VarBinView, Constant}
pub use Rattle.vortex_array_kinds.specs.Kinds.{bool_column, primitive_column, decimal_column, string_column, constant_column, nullable_column}

-- the type and the rows of an array
abbrev pub column_of : Array → Column
column_of (Bools a) = bool_column a
column_of (Primitive a) = primitive_column a
column_of (Decimal a) = decimal_column a
column_of (VarBinView a) = string_column a
column_of (Constant a) = constant_column a

-- the array keeps each row by itself
abbrev pub is_plain : Array → Bool
is_plain (Constant a) = false
is_plain _ = true
