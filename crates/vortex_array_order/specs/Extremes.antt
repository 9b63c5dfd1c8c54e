-- The least and the greatest value of a column.
use Rattle.std.specs.Prelude.{◌≡◌, ◌<◌, ℕ, Bool, true, IsTrue, List, length, All, Contains, Option, Some, None, is_some, slice_index_or}
use Rattle.vortex_array_types.specs.Order.{compares}
use Rattle.vortex_array_types.specs.Row.{Column, TypedRow}
use Rattle.vortex_array_types.specs.Widths.{full_form}
use Rattle.vortex_array_types.specs.declared.scalar.Value.{Value}
use Rattle.vortex_buffer.specs.declared.compare_operator.CompareOperator.TheVariants.{Lte}
use Rattle.vortex_array_order.specs.InOrder.{at_most}

-- the value is a row, and every row that is a value is at least it
pub record IsLeastValue (rows : List (Option Value)) (v : Value) : Type 0 where
  pub among : Contains rows (Some v)
  pub bound : (w : Value) → Contains rows (Some w) → IsTrue (compares Lte v w)

-- the value is a row, and every row that is a value is at most it
pub record IsGreatestValue (rows : List (Option Value)) (v : Value) : Type 0 where
  pub among : Contains rows (Some v)
  pub bound : (w : Value) → Contains rows (Some w) → IsTrue (compares Lte w v)

-- two scalars of the type without nulls: the least value of a column, and the greatest
pub record AreExtremes (c : Column) (min max : TypedRow) : Type 0 where
  pub min_type : min.dtype ≡ full_form c.dtype
  pub max_type : max.dtype ≡ full_form c.dtype
  pub least : (v : Value) × (min.value ≡ Some v) × IsLeastValue c.rows v
  pub greatest : (v : Value) × (max.value ≡ Some v) × IsGreatestValue c.rows v

-- no row is a value
abbrev pub HasNoValue : List (Option Value) → Type 0
HasNoValue rows = All (λ row. row ≡ None) rows

-- of the first n rows the one at the place is a value, and stands so to each that is a value
pub record IsExtreme (stand : Option Value → Option Value → Bool) (rows : List (Option Value)) (n i : ℕ) : Type 0 where
  pub within : i < n
  pub some : is_some (slice_index_or rows i None) ≡ true
  pub bound : (j : ℕ) → j < n → is_some (slice_index_or rows j None) ≡ true → IsTrue (stand (slice_index_or rows i None) (slice_index_or rows j None))

-- it is the least value
abbrev pub LeastOf : List (Option Value) → ℕ → ℕ → Type 0
LeastOf = IsExtreme at_most

-- it is the greatest value
abbrev pub GreatestOf : List (Option Value) → ℕ → ℕ → Type 0
GreatestOf = IsExtreme (λ a b. at_most b a)

-- of the first n rows those at the places are the least and the greatest value
pub record ExtremesOf (rows : List (Option Value)) (n i j : ℕ) : Type 0 where
  pub least : LeastOf rows n i
  pub greatest : GreatestOf rows n j

-- the row at the place is a value, and none before it is
pub record IsFirstValue (rows : List (Option Value)) (n : ℕ) : Type 0 where
  pub within : n < length rows
  pub none : (j : ℕ) → j < n → slice_index_or rows j None ≡ None
  pub some : is_some (slice_index_or rows n None) ≡ true

-- none of the first n rows is a value
pub record NoneOf (rows : List (Option Value)) (n : ℕ) : Type 0 where
  pub null : (j : ℕ) → j < n → slice_index_or rows j None ≡ None
