-- What encoding does to a builder of dictionaries.
use Rattle.std.specs.Prelude.{◌≡◌, ◌<◌, ◌≤◌, ℕ, ◌||◌, IsTrue, true, All, List, length, map, take, Option, None, is_some, slice_index_or}
use Rattle.vortex_array_types.specs.Row.{Column}
use Rattle.vortex_array_types.specs.declared.types.DType.TheVariants as dtype
use Rattle.vortex_array_types.specs.declared.types.Nullability.TheVariants as nulls
use Rattle.vortex_array_types.specs.declared.scalar.Value.{Value}
use Rattle.vortex_array_select.specs.Selected.{NamesRows, row_at}
use Rattle.vortex_dict_builders.specs.declared.errors.EncodeError.{EncodeError}
use Rattle.vortex_dict_builders.specs.declared.errors.EncodeError.TheVariants.{WrongType, OutOfMemory}
use Rattle.vortex_dict_builders.specs.Encoder.{Encoder, has_room, with_entries}
use Rattle.vortex_dict_builders.specs.Firsts.{has_row, with_firsts}

-- the builder after some rows
abbrev pub after : Encoder → List (Option Value) → Encoder
after e rows = with_entries (with_firsts e.entries rows) e

-- a row is an entry already, or there is room for it
abbrev pub Takes : Encoder → Option Value → Type 0
Takes e row = IsTrue (has_row e.entries row || has_room e row)

-- the first n rows are encoded: their distinct rows are entries now, and each was one or was let in
pub record EncodesFirst (old : Encoder) (rows : List (Option Value)) (n : ℕ) (new : Encoder) : Type 0 where
  pub within : n ≤ length rows
  pub entries : new ≡ after old (take n rows)
  pub taken : (i : ℕ) → i < n → Takes (after old (take i rows)) (slice_index_or rows i None)

-- rows are encoded up to the first that is no entry and is not let in, or all of them; each code is the place of its row's entry
pub record Encodes (old : Encoder) (rows : List (Option Value)) (codes : Column) (new : Encoder) : Type 0 where
  pub dtype : codes.dtype ≡ dtype.Primitive old.width nulls.NonNullable
  pub prefix : EncodesFirst old rows (length codes.rows) new
  pub stops : length codes.rows < length rows → Takes new (slice_index_or rows (length codes.rows) None) → ⊥
  pub names : NamesRows codes (length new.entries)
  pub full : All (λ code. is_some code ≡ true) codes.rows
  pub decoded : map (row_at new.entries) codes.rows ≡ take (length codes.rows) rows

-- some of the first rows are encoded
pub record EncodesSome (old : Encoder) (rows : List (Option Value)) (new : Encoder) : Type 0 where
  pub count : ℕ
  pub prefix : EncodesFirst old rows count new

-- why a column is not encoded: its type; or want of memory, and then some of its first rows are entries
abbrev pub RefusesRows : Encoder → Column → Encoder → EncodeError → Type 0
RefusesRows old column new WrongType = (column.dtype ≡ old.dtype → ⊥) × (new ≡ old)
RefusesRows old column new OutOfMemory = (column.dtype ≡ old.dtype) × EncodesSome old column.rows new
