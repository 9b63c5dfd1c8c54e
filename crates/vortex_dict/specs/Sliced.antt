-- The column that a slice of a dictionary stands for, and in which form it is kept.
use Rattle.std.specs.Prelude.{Bool, true, false}
use Rattle.vortex_array_types.specs.Row.{Column}
use Rattle.vortex_array_kinds.specs.Kinds.{constant_column}
use Rattle.vortex_dict.specs.Decoded.{dict_column}
use Rattle.vortex_dict.specs.declared.slices.DictSlice.{DictSlice}
use Rattle.vortex_dict.specs.declared.slices.DictSlice.TheVariants.{Dict, Constant}

-- the type and the rows of a slice
abbrev pub slice_column : DictSlice → Column
slice_column (Dict d) = dict_column d
slice_column (Constant rows) = constant_column rows

-- the slice is kept as equal rows
abbrev pub is_equal_rows : DictSlice → Bool
is_equal_rows (Dict d) = false
is_equal_rows (Constant rows) = true
