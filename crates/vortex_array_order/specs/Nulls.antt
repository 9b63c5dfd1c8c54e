-- Where the nulls of a column stand.
use Rattle.std.specs.Prelude.{◌≡◌, ◌<◌, ◌≤◌, ℕ, Bool, true, false, List, length, slice_index_or}
use Rattle.vortex_array_order.specs.declared.nulls.Nulls.{Nulls}
use Rattle.vortex_array_order.specs.declared.nulls.Nulls.TheVariants.{First, Behind}

-- of rows that these bits say are values, the first n are null, and no row behind them is
pub record NullsFirst (valid : List Bool) (n : ℕ) : Type 0 where
  pub within : n ≤ length valid
  pub null : (i : ℕ) → i < n → slice_index_or valid i false ≡ false
  pub value : (i : ℕ) → n ≤ i → i < length valid → slice_index_or valid i false ≡ true

-- the first n rows are null, the next is a value, and a row behind it is null
pub record NullBehind (valid : List Bool) (n : ℕ) : Type 0 where
  pub null : (i : ℕ) → i < n → slice_index_or valid i false ≡ false
  pub value : slice_index_or valid n false ≡ true
  pub second : ℕ
  pub behind : n < second
  pub within : second < length valid
  pub unset : slice_index_or valid second false ≡ false

-- the nulls stand so
abbrev pub StandSo : List Bool → Nulls → Type 0
StandSo valid (First n) = NullsFirst valid n
StandSo valid (Behind n) = NullBehind valid n
