-- Columns encoded as dictionaries.
use Rattle.std.specs.Prelude.{◌≡◌, ◌<◌, ◌≤◌, ℕ, ◌-◌, IsTrue, IsFalse, length, take, None, slice_index_or}
use Rattle.vortex_array_types.specs.Row.{Column}
use Rattle.vortex_array_types.specs.declared.types.DType.TheVariants as dtype
use Rattle.vortex_array_types.specs.declared.types.Nullability.TheVariants as nulls
use Rattle.vortex_array_types.specs.declared.types.PType.{PType}
use Rattle.vortex_array.specs.ColumnOf.{column_of}
use Rattle.vortex_dict.specs.Casts.{HaveNoNull}
use Rattle.vortex_dict.specs.Decoded.{dict_column}
use Rattle.vortex_dict.specs.Parts.{DictParts}
use Rattle.vortex_dict_builders.specs.Any.{is_encoded_type}
use Rattle.vortex_dict_builders.specs.Encoder.{Encoder}
use Rattle.vortex_dict_builders.specs.Encodes.{Takes, after}
use Rattle.vortex_dict_builders.specs.Firsts.{firsts}
use Rattle.vortex_dict_builders.specs.Widths.{least_code}
use Rattle.vortex_dict_builders.specs.declared.errors.DictEncodeError.{DictEncodeError}
use Rattle.vortex_dict_builders.specs.declared.errors.DictEncodeError.TheVariants.{CannotEncode, NotAll, OutOfMemory}

-- the least unsigned width that holds every place of so many values
abbrev pub width_of_places : ℕ → PType
width_of_places n = least_code (n - 1)

-- the first n rows of a column
abbrev pub first_rows : ℕ → Column → Column
first_rows n c = record { dtype = c.dtype; rows = take n c.rows }

-- a dictionary of these rows: its values are the distinct ones in the order in which they first appear, no code is null, and the
-- codes are of the least width that holds them
pub record IsDictOf (c : Column) (d : DictParts) : Type 0 where
  pub rows : dict_column d ≡ c
  pub values : column_of d.values ≡ record { dtype = c.dtype; rows = firsts c.rows }
  pub codes : HaveNoNull (column_of d.codes).rows
  pub width : (column_of d.codes).dtype ≡ dtype.Primitive (width_of_places (length (firsts c.rows))) nulls.NonNullable

-- all rows are encoded
abbrev pub EncodesAll : Column → DictParts → Type 0
EncodesAll c d = IsDictOf c d

-- rows are encoded up to the first that is no value yet and that a builder does not let in, or all of them
pub record EncodesPart (e : Encoder) (c : Column) (d : DictParts) : Type 0 where
  pub count : ℕ
  pub within : count ≤ length c.rows
  pub dict : IsDictOf (first_rows count c) d
  pub taken : (i : ℕ) → i < count → Takes (after e (take i c.rows)) (slice_index_or c.rows i None)
  pub stops : count < length c.rows → Takes (after e (take count c.rows)) (slice_index_or c.rows count None) → ⊥

-- why a column is not encoded: its type, or want of memory
abbrev pub RefusesAll : Column → DictEncodeError → Type 0
RefusesAll c CannotEncode = IsFalse (is_encoded_type c.dtype)
RefusesAll c (NotAll encoded rows) = ⊥
RefusesAll c OutOfMemory = IsTrue (is_encoded_type c.dtype)

-- codes in the least width that holds every place of so many values
abbrev pub narrowed : ℕ → Column → Column
narrowed n codes = record { dtype = dtype.Primitive (width_of_places n) nulls.NonNullable; rows = codes.rows }
