-- The column that a dictionary stands for.
use Rattle.std.specs.Prelude.{length}
use Rattle.vortex_array_types.specs.Row.{Column}
use Rattle.vortex_array_select.specs.Selected.{NamesRows, taken}
use Rattle.vortex_array.specs.ColumnOf.{column_of}
use Rattle.vortex_array.specs.declared.arrays.Array.{Array}
use Rattle.vortex_dict.specs.Parts.{DictParts}

-- the values at the codes: row i is null where code i is null, else the value at that code; the type is that of the values,
-- with nulls where the codes or the values have them
abbrev pub decoded : Column → Column → Column
decoded codes values = taken codes values

-- the column that a dictionary stands for
abbrev pub dict_column : DictParts → Column
dict_column d = decoded (column_of d.codes) (column_of d.values)

-- the codes are unsigned whole numbers, and each that is not null is the place of a value
abbrev pub AreCodes : Array → Array → Type 0
AreCodes codes values = NamesRows (column_of codes) (length (column_of values).rows)
