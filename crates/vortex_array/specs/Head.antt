-- The first rows of a batch.
use Rattle.std.specs.Prelude.{◌≡◌, ℕ, IsTrue}
use Rattle.vortex_array.specs.declared.arrays.Array.{Array}
use Rattle.vortex_array.specs.ColumnOf.{column_of, is_plain}
use Rattle.vortex_array_select.specs.Selected.{sliced}

-- the first k rows of an array, plain where that is
pub record IsHeadOf (k : ℕ) (whole : Array) (head : Array) : Type 0 where
  pub rows : column_of head ≡ sliced 0 k (column_of whole)
  pub plain : IsTrue (is_plain whole) → IsTrue (is_plain head)
