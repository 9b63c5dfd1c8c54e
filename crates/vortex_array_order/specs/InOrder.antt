-- Columns whose rows are equal or in order.
use Rattle.std.specs.Prelude.{◌≡◌, ◌<◌, ℕ, ◌+◌, Bool, IsTrue, List, [], ◌∷◌, length, All, Option, None, slice_index_or}
use Rattle.std.specs.Ordering.{is_some_and, is_le, is_lt}
use Rattle.vortex_array_types.specs.Order.{row_cmp}
use Rattle.vortex_array_types.specs.declared.scalar.Value.{Value}

-- there is a row, and each row equals it
abbrev pub IsConstant : List (Option Value) → Type 0
IsConstant [] = ⊥
IsConstant (row ∷ rows) = All (λ r. r ≡ row) rows

-- a row is at most another; null is below every value
abbrev pub at_most : Option Value → Option Value → Bool
at_most a b = is_some_and is_le (row_cmp a b)

-- a row is below another
abbrev pub below : Option Value → Option Value → Bool
below a b = is_some_and is_lt (row_cmp a b)

-- each row stands so to the next one
abbrev pub Ascends : (Option Value → Option Value → Bool) → List (Option Value) → Type 0
Ascends stand rows = (i : ℕ) → i + 1 < length rows → IsTrue (stand (slice_index_or rows i None) (slice_index_or rows (i + 1) None))

-- each row is at most the next one
abbrev pub IsSorted : List (Option Value) → Type 0
IsSorted = Ascends at_most

-- each row is below the next one
abbrev pub IsStrictlySorted : List (Option Value) → Type 0
IsStrictlySorted = Ascends below
