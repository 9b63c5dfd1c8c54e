-- What is answered of a dictionary value by value.
use Rattle.std.specs.Prelude.{Bool, ◌||◌, length, map, nat_lt, option_map}
use Rattle.vortex_array_types.specs.Row.{Column, nullability}
use Rattle.vortex_array_types.specs.declared.scalar.Value.{Value}
use Rattle.vortex_array_kinds.specs.Truths.{truths}
use Rattle.vortex_array.specs.ColumnOf.{column_of, is_plain}
use Rattle.vortex_array.specs.declared.arrays.Array.{Array}
use Rattle.vortex_dict.specs.Parts.{DictParts}

-- row by row, the truth of the value, and null where the row is null
abbrev pub tested : (Value → Bool) → Column → Column
tested truth c = truths (nullability c.dtype) (map (option_map truth) c.rows)

-- a comparison value by value is declined: there are more values than codes, or the other side is no constant array
abbrev pub declines : DictParts → Array → Bool
declines d other = nat_lt (length (column_of d.codes).rows) (length (column_of d.values).rows) || is_plain other
