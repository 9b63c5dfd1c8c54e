-- The columns that the kinds of columns stand for.
use Rattle.std.specs.Prelude.{Bool, List, map, replicate}
use Rattle.vortex_array_types.specs.declared.types.DType.{DType}
use Rattle.vortex_array_types.specs.declared.types.DType.TheVariants as dtype
use Rattle.vortex_array_types.specs.declared.types.Nullability.{Nullability}
use Rattle.vortex_array_types.specs.declared.scalar.Value.{Value}
use Rattle.vortex_array_types.specs.declared.scalar.Value.TheVariants as value
use Rattle.vortex_array_types.specs.Row.{Column}
use Rattle.vortex_array_types.specs.Widths.{nullable_form}
use Rattle.vortex_array_kinds.specs.Parts.{PlainParts, StringParts, ConstantParts}
use Rattle.vortex_array_kinds.specs.declared.primitives.PrimitiveBuffer.{PrimitiveBuffer}
use Rattle.vortex_array_kinds.specs.declared.decimals.Decimals.{Decimals}
pub use Rattle.vortex_array_kinds.specs.Numbers.{numbers_of, len_of, ptype_of, unscaled_of}
pub use Rattle.vortex_array_kinds.specs.StringValues.{strings_of, string_type, string_value}
pub use Rattle.vortex_array_kinds.specs.Validities.{nullability_of, rows_under}

-- values of a kind and a validity as a column
abbrev pub plain_column : {X : Type 0} → (X → Nullability → DType) → (X → List Value) → PlainParts X → Column
plain_column type_of items a = record {
  dtype = type_of a.values (nullability_of a.validity);
  rows = rows_under a.validity (items a.values);
}

-- a column of truth values
abbrev pub bool_column : PlainParts (List Bool) → Column
bool_column a = record {
  dtype = dtype.Bool (nullability_of a.validity);
  rows = rows_under a.validity (map (λ b. value.Bool b) a.values);
}

-- a column of whole numbers
abbrev pub primitive_column : PlainParts PrimitiveBuffer → Column
primitive_column a = record {
  dtype = dtype.Primitive (ptype_of a.values) (nullability_of a.validity);
  rows = rows_under a.validity (map (λ n. value.Int n) (numbers_of a.values));
}

-- a column of decimals
abbrev pub decimal_column : PlainParts Decimals → Column
decimal_column a = record {
  dtype = dtype.Decimal a.values.digits (nullability_of a.validity);
  rows = rows_under a.validity (map (λ n. value.Decimal n) (unscaled_of a.values.numbers));
}

-- a column of texts or of bytes
abbrev pub string_column : PlainParts StringParts → Column
string_column a = record {
  dtype = string_type a.values.kind (nullability_of a.validity);
  rows = rows_under a.validity (strings_of a.values);
}

-- a column of equal rows
abbrev pub constant_column : ConstantParts → Column
constant_column a = record { dtype = a.scalar.dtype; rows = replicate a.len a.scalar.value }

-- the same rows, of the type with nulls
abbrev pub nullable_column : Column → Column
nullable_column c = record { dtype = nullable_form c.dtype; rows = c.rows }
