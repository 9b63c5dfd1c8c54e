-- The distinct rows of a list, in the order in which they first appear.
use Rattle.std.specs.Prelude.{◌≡◌, ◌<◌, ℕ, Bool, cond, List, [], ◌∷◌, ◌++◌, length, Option, None, slice_index_or}
use Rattle.std.specs.List.{list_any}
use Rattle.std.specs.Ordering.{is_some_and, is_eq}
use Rattle.vortex_array_types.specs.Order.{row_cmp}
use Rattle.vortex_array_types.specs.declared.scalar.Value.{Value}

-- two rows are one: null and null, or equal values
abbrev pub same_row : Option Value → Option Value → Bool
same_row a b = is_some_and is_eq (row_cmp a b)

-- a row is among these
abbrev pub has_row : List (Option Value) → Option Value → Bool
has_row rows row = list_any (same_row row) rows

-- these rows, and a further one behind them unless it is among them
abbrev pub with_row : List (Option Value) → Option Value → List (Option Value)
with_row rows row = cond (has_row rows row) rows (rows ++ row ∷ [])

-- entries, and behind them the rows that are none of them, each where it first appears
abbrev pub with_firsts : List (Option Value) → List (Option Value) → List (Option Value)
with_firsts entries [] = entries
with_firsts entries (row ∷ rows) = with_firsts (with_row entries row) rows

-- the distinct rows in the order in which they first appear, null counted as one
abbrev pub firsts : List (Option Value) → List (Option Value)
firsts rows = with_firsts [] rows

-- no two rows are one
abbrev pub AreDistinct : List (Option Value) → Type 0
AreDistinct rows = (i j : ℕ) → i < length rows → j < length rows → slice_index_or rows i None ≡ slice_index_or rows j None → i ≡ j

-- the row stands at the place
pub record StandsAt (rows : List (Option Value)) (row : Option Value) (p : ℕ) : Type 0 where
  pub within : p < length rows
  pub here : slice_index_or rows p None ≡ row
