-- The column of decimals that two parts stand for.
use Rattle.std.specs.Prelude.{pos, Bool, cond, List, map, Option, Some, None, option_map}
use Rattle.std.specs.Simd.Lanes.{zip2}
use Rattle.vortex_array_types.specs.Digits.{Digits}
use Rattle.vortex_array_types.specs.Row.{Column, nullability}
use Rattle.vortex_array_types.specs.Widths.{nullable_form}
use Rattle.vortex_array_types.specs.declared.types.DType.TheVariants as dtype
use Rattle.vortex_array_types.specs.declared.scalar.Value.{Value}
use Rattle.vortex_array_types.specs.declared.scalar.Value.TheVariants.{Int, Decimal}
use Rattle.vortex_array.specs.declared.arrays.Array.{Array}
use Rattle.vortex_array.specs.ColumnOf.{column_of}
use Rattle.vortex_decimal_byte_parts.specs.Number.{value}

-- what contracts see of decimals in parts: the parts, and how many digits there are
pub record Parts : Type 0 where
  pub msp : Array
  pub lower : Option Array
  pub digits : Digits

-- a row of the most significant part alone: its number, or null
abbrev pub one_row : Option Value → Option Value
one_row (Some (Int n)) = Some (Decimal n)
one_row _ = None

-- the rows of two parts in one place: the number of both, or null
abbrev pub two_rows : Option Value → Option Value → Option Value
two_rows (Some (Int msp)) (Some (Int (pos lower))) = Some (Decimal (value msp lower))
two_rows _ _ = None

-- the rows of a most significant part, beside those of a lower one where there is one
abbrev pub rows_of_parts : List (Option Value) → Option (List (Option Value)) → List (Option Value)
rows_of_parts msp None = map one_row msp
rows_of_parts msp (Some lower) = zip2 two_rows msp lower

-- the decimals of two parts; the most significant one says which are null
abbrev pub parts_column : Parts → Column
parts_column p = record {
  dtype = dtype.Decimal p.digits (nullability (column_of p.msp).dtype);
  rows = rows_of_parts (column_of p.msp).rows (option_map (λ lower. (column_of lower).rows) p.lower);
}

-- a row that is kept, else null
abbrev pub kept_row : Option Value → Bool → Option Value
kept_row row bit = cond bit row None

-- the rows whose bit is set, and null in the others' places, of a type with nulls
abbrev pub masked : List Bool → Column → Column
masked bits c = record { dtype = nullable_form c.dtype; rows = zip2 kept_row c.rows bits }
