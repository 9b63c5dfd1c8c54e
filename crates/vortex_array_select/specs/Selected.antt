-- Parts of a column: its rows in a line, those that a mask keeps, and those at indices.
use Rattle.std.specs.Prelude.{ℕ, ◌<◌, Bool, false, cond, IsTrue, pos, List, map, All, Option, Some, None, slice_index_or, slice_range}
use Rattle.vortex_array_types.specs.Row.{Column, is_nullable}
use Rattle.vortex_array_types.specs.Widths.{has_no_sign, nullable_form}
use Rattle.vortex_array_types.specs.declared.types.DType.{DType}
use Rattle.vortex_array_types.specs.declared.types.DType.TheVariants as dtype
use Rattle.vortex_array_types.specs.declared.scalar.Value.{Value}
use Rattle.vortex_array_types.specs.declared.scalar.Value.TheVariants as value
pub use Rattle.vortex_array_rows.specs.Kept.{kept_by}

-- the rows from `start` up to `end`, without it
abbrev pub sliced : ℕ → ℕ → Column → Column
sliced start end c = record { dtype = c.dtype; rows = slice_range c.rows start end }

-- the rows whose bit is set, in their order
abbrev pub filtered : List Bool → Column → Column
filtered bits c = record { dtype = c.dtype; rows = kept_by bits c.rows }

-- the row at an index: null where the index is null
abbrev pub row_at : List (Option Value) → Option Value → Option Value
row_at rows (Some (value.Int (pos i))) = slice_index_or rows i None
row_at rows _ = None

-- the rows at the indices, of a type with nulls where the column's or the indices' has them
abbrev pub taken : Column → Column → Column
taken indices c = record {
  dtype = cond (is_nullable indices.dtype) (nullable_form c.dtype) c.dtype;
  rows = map (row_at c.rows) indices.rows;
}

-- an index is null or below n
abbrev pub IndexBelow : ℕ → Option Value → Type 0
IndexBelow n None = Unit
IndexBelow n (Some (value.Int (pos i))) = i < n
IndexBelow n (Some _) = ⊥

-- a type of whole numbers from 0 on
abbrev pub is_index_type : DType → Bool
is_index_type (dtype.Primitive width n) = has_no_sign width
is_index_type _ = false

-- the indices are unsigned whole numbers, and each that is not null is below n
pub record NamesRows (indices : Column) (n : ℕ) : Type 0 where
  pub kind : IsTrue (is_index_type indices.dtype)
  pub below : All (IndexBelow n) indices.rows
