-- Casts of dictionaries: which can be cast, and why others are refused.
use Rattle.std.specs.Prelude.{◌≡◌, ◌<◌, ℕ, cond, true, false, IsFalse, List, length, All, Option, None, is_some, slice_index_or}
use Rattle.vortex_array_types.specs.Row.{Column, is_nullable}
use Rattle.vortex_array_types.specs.Widths.{full_form}
use Rattle.vortex_array_types.specs.declared.types.DType.{DType}
use Rattle.vortex_array_types.specs.declared.scalar.Value.{Value}
use Rattle.vortex_array_cast.specs.Casts.{IsCast, StopsAt, can_cast, cast_column}
use Rattle.vortex_array.specs.ColumnOf.{column_of}
use Rattle.vortex_dict.specs.Decoded.{dict_column}
use Rattle.vortex_dict.specs.Parts.{DictParts}
use Rattle.vortex_dict.specs.declared.error.DictCastError.{DictCastError}
use Rattle.vortex_dict.specs.declared.error.DictCastError.TheVariants.{Unsupported, ValueDoesNotFit, ValueHasNull, CodeNull, OutOfMemory}

-- no row is null
abbrev pub HaveNoNull : List (Option Value) → Type 0
HaveNoNull rows = All (λ row. is_some row ≡ true) rows

-- the row at a place is the first that is null
pub record FirstNull (rows : List (Option Value)) (i : ℕ) : Type 0 where
  pub within : i < length rows
  pub null : slice_index_or rows i None ≡ None
  pub before : (j : ℕ) → j < i → is_some (slice_index_or rows j None) ≡ true

-- a dictionary is cast: its values can be, and no code is null where the type has no nulls
pub record IsDictCast (t : DType) (d : DictParts) : Type 0 where
  pub values : IsCast t (column_of d.values)
  pub codes : IsFalse (is_nullable t) → HaveNoNull (column_of d.codes).rows

-- a code is null where the type has no nulls, and it is the first
pub record StopsAtCode (t : DType) (d : DictParts) (i : ℕ) : Type 0 where
  pub values : IsCast t (column_of d.values)
  pub full : IsFalse (is_nullable t)
  pub first : FirstNull (column_of d.codes).rows i

-- why a cast is refused: the type, the first value that does not fit, the first null code, or memory alone
abbrev pub RefusesDictCast : DType → DictParts → DictCastError → Type 0
RefusesDictCast t d Unsupported = IsFalse (can_cast (dict_column d).dtype t)
RefusesDictCast t d (ValueDoesNotFit i) = StopsAt t (column_of d.values) i true
RefusesDictCast t d (ValueHasNull i) = StopsAt t (column_of d.values) i false
RefusesDictCast t d (CodeNull i) = StopsAtCode t d i
RefusesDictCast t d OutOfMemory = IsCast t (column_of d.values)

-- why that of the values is
abbrev pub RefusesValues : DType → Column → DictCastError → Type 0
RefusesValues t values Unsupported = IsFalse (can_cast values.dtype t)
RefusesValues t values (ValueDoesNotFit i) = StopsAt t values i true
RefusesValues t values (ValueHasNull i) = StopsAt t values i false
RefusesValues t values (CodeNull i) = ⊥
RefusesValues t values OutOfMemory = IsCast t values

-- why codes are refused as codes without nulls
abbrev pub RefusesFull : List (Option Value) → DictCastError → Type 0
RefusesFull rows Unsupported = ⊥
RefusesFull rows (ValueDoesNotFit i) = ⊥
RefusesFull rows (ValueHasNull i) = ⊥
RefusesFull rows (CodeNull i) = FirstNull rows i
RefusesFull rows OutOfMemory = Unit {0}

-- and as codes of values of a type
abbrev pub RefusesCodes : DType → Column → DictCastError → Type 0
RefusesCodes t codes (CodeNull i) = IsFalse (is_nullable t) × FirstNull codes.rows i
RefusesCodes t codes error = RefusesFull codes.rows error

-- codes of values that are cast to a type: without nulls where that has none
abbrev pub codes_cast : DType → Column → Column
codes_cast t codes = cond (is_nullable t) codes (cast_column (full_form codes.dtype) codes)
