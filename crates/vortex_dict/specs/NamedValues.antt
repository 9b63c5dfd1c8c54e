-- Which values the codes of a dictionary name.
use Rattle.std.specs.Prelude.{◌≡◌, ◌<◌, ℕ, pos, Bool, true, false, List, length, Contains, Option, Some, None, cond, slice_index_or}
use Rattle.vortex_array_types.specs.declared.scalar.Value.{Value}
use Rattle.vortex_array_types.specs.declared.scalar.Value.TheVariants as value
use Rattle.vortex_array_kinds.specs.Validities.{valid_at}
use Rattle.vortex_array_kinds.specs.declared.validity.Validity.{Validity}

-- of n values those are marked that a code names
pub record AreNamed (codes : List (Option Value)) (n : ℕ) (marks : List Bool) : Type 0 where
  pub long : length marks ≡ n
  pub named : (p : ℕ) → slice_index_or marks p false ≡ true → Contains codes (Some (value.Int (pos p)))
  pub marked : (p : ℕ) → Contains codes (Some (value.Int (pos p))) → slice_index_or marks p false ≡ true

-- a place among the first n is not null, and is this one
pub record IsPlace (nulls : Validity) (places : List ℕ) (n p : ℕ) : Type 0 where
  pub row : ℕ
  pub before : row < n
  pub valid : valid_at nulls row ≡ true
  pub here : slice_index_or places row 0 ≡ p

-- those are marked that are one of the first n places which are not null
pub record MarkFirst (nulls : Validity) (places : List ℕ) (n : ℕ) (marks : List Bool) : Type 0 where
  pub named : (p : ℕ) → slice_index_or marks p false ≡ true → IsPlace nulls places n p
  pub marked : (p : ℕ) → IsPlace nulls places n p → slice_index_or marks p false ≡ true

-- and of all
abbrev pub MarkNamed : Validity → List ℕ → List Bool → Type 0
MarkNamed nulls places marks = MarkFirst nulls places (length places) marks

-- the row that the code at a place names: null where the code is
abbrev pub row_named : List (Option Value) → Validity → List ℕ → ℕ → Option Value
row_named values nulls places row = cond (valid_at nulls row) (slice_index_or values (slice_index_or places row 0) None) None
