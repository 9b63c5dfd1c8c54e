-- Dictionaries whose rows ascend strictly.
use Rattle.std.specs.Prelude.{◌≡◌, ◌<◌, ℕ, List, length, Option, None, slice_index_or}
use Rattle.vortex_array_types.specs.declared.scalar.Value.{Value}
use Rattle.vortex_array_order.specs.InOrder.{IsStrictlySorted}
use Rattle.vortex_array.specs.ColumnOf.{column_of}
use Rattle.vortex_dict.specs.Decoded.{dict_column}
use Rattle.vortex_dict.specs.Parts.{DictParts}

-- no two rows are null
abbrev pub AtMostOneNull : List (Option Value) → Type 0
AtMostOneNull rows = (i j : ℕ) → i < length rows → j < length rows → slice_index_or rows i None ≡ None → slice_index_or rows j None ≡ None → i ≡ j

-- codes and values ascend strictly, and at most one row is null
pub record StandStrictly (d : DictParts) : Type 0 where
  pub codes : IsStrictlySorted (column_of d.codes).rows
  pub values : IsStrictlySorted (column_of d.values).rows
  pub nulls : AtMostOneNull (dict_column d).rows

-- the first two rows are null
pub record BeginWithNulls (rows : List (Option Value)) : Type 0 where
  pub two : 1 < length rows
  pub first : slice_index_or rows 0 None ≡ None
  pub second : slice_index_or rows 1 None ≡ None
