-- What is asked of the order of rows.
use Rattle.std.specs.Prelude.{◌≡◌, ◌⊎◌, ℕ, ◌+◌, ◌<◌, ◌≤◌, Bool, IsTrue, List, Option, Some, None, slice_index_or}
use Rattle.std.specs.Ordering.{is_some_and, is_eq, is_le, is_lt}
use Rattle.std.specs.declared.cmp.Ordering.{Ordering}
use Rattle.vortex_array_types.specs.Order.{row_cmp}
use Rattle.vortex_array_types.specs.declared.scalar.Value.{Value}
use Rattle.vortex_array_order.specs.declared.order.RowOrder.{RowOrder}
use Rattle.vortex_array_order.specs.declared.order.RowOrder.TheVariants.{Constant, Sorted, StrictlySorted}
use Rattle.vortex_array_order.specs.declared.places.ExtremePlaces.{ExtremePlaces}
use Rattle.vortex_array_order.specs.InOrder.{IsConstant, IsSorted, IsStrictlySorted}
use Rattle.vortex_array_order.specs.Extremes.{ExtremesOf, NoneOf}

-- the rows stand in the order that is asked for
abbrev pub Holds : RowOrder → List (Option Value) → Type 0
Holds Constant rows = IsConstant rows
Holds Sorted rows = IsSorted rows
Holds StrictlySorted rows = IsStrictlySorted rows

-- a value may stand so before the next one
abbrev pub follows : RowOrder → Ordering → Bool
follows Constant = is_eq
follows Sorted = is_le
follows StrictlySorted = is_lt

-- a row stands to another as each does to the next one
abbrev pub stand : RowOrder → Option Value → Option Value → Bool
stand order a b = is_some_and (follows order) (row_cmp a b)

-- from place n on and below place m, each row stands to the next one as the order asks
abbrev pub Follow : RowOrder → List (Option Value) → ℕ → ℕ → Type 0
Follow order rows n m = (i : ℕ) → n ≤ i → i + 1 < m → IsTrue (stand order (slice_index_or rows i None) (slice_index_or rows (i + 1) None))

-- n nulls may stand before the values of m rows
abbrev pub Begins : RowOrder → ℕ → ℕ → Type 0
Begins Constant n m = (0 < m) × ((n ≡ 0) ⊎ (n ≡ m))
Begins Sorted n m = Unit {0}
Begins StrictlySorted n m = n < 2

-- the places of the least and of the greatest value of the first n rows, or none
abbrev pub ExtremesBelow : List (Option Value) → ℕ → Option ExtremePlaces → Type 0
ExtremesBelow rows n None = NoneOf rows n
ExtremesBelow rows n (Some found) = ExtremesOf rows n found.least found.greatest
