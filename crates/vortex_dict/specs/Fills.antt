-- Dictionaries whose null rows get a value.
use Rattle.std.specs.Prelude.{◌≡◌, ◌<◌, ℕ, pos, Bool, true, false, List, length, map, Option, Some, None, slice_index_or}
use Rattle.vortex_array_types.specs.Row.{Column, TypedRow}
use Rattle.vortex_array_types.specs.declared.scalar.Value.{Value}
use Rattle.vortex_array_types.specs.declared.scalar.Value.TheVariants as value
use Rattle.vortex_array_cast.specs.Filled.{filled, filled_row}
use Rattle.vortex_array.specs.ColumnOf.{column_of}
use Rattle.vortex_dict.specs.Decoded.{dict_column}
use Rattle.vortex_dict.specs.Parts.{DictParts}
use Rattle.vortex_dict.specs.declared.fill.DictFilled.{DictFilled}
use Rattle.vortex_dict.specs.declared.fill.DictFilled.TheVariants.{Dict, Plain}

-- no row is this one
abbrev pub NoneEqual : List (Option Value) → Option Value → Type 0
NoneEqual rows row = (j : ℕ) → j < length rows → slice_index_or rows j None ≡ row → ⊥

-- the place is the first where the rows have this one
pub record FirstEqual (rows : List (Option Value)) (row : Option Value) (i : ℕ) : Type 0 where
  pub within : i < length rows
  pub equal : slice_index_or rows i None ≡ row
  pub before : (j : ℕ) → j < i → slice_index_or rows j None ≡ row → ⊥

-- the type and the rows
abbrev pub filled_column : DictFilled → Column
filled_column (Dict d) = dict_column d
filled_column (Plain a) = column_of a

-- it is kept as a dictionary
abbrev pub is_dictionary : DictFilled → Bool
is_dictionary (Dict d) = true
is_dictionary (Plain a) = false

-- a fact of the dictionary, where it is one
abbrev pub OnDictionary : (DictParts → Type 0) → DictFilled → Type 0
OnDictionary P (Dict d) = P d
OnDictionary P (Plain a) = Unit {0}

-- a dictionary is filled with one of its values: null codes name the first place of that, and null values become it
pub record FilledWithin (old : DictParts) (fill : TypedRow) (new : DictParts) : Type 0 where
  pub place : ℕ
  pub first : FirstEqual (column_of old.values).rows fill.value place
  pub codes : (column_of new.codes).rows ≡ map (filled_row (Some (value.Int (pos place)))) (column_of old.codes).rows
  pub values : column_of new.values ≡ filled fill (column_of old.values)
