-- What contracts see of a record batch.
use Rattle.std.specs.Prelude.{◌≡◌, ℕ, List, length}
use Rattle.vortex_array.specs.declared.arrays.Array.{Array}
use Rattle.vortex_array.specs.ColumnOf.{column_of}

-- so many rows, in these columns
pub record BatchParts : Type 0 where
  pub rows : ℕ
  pub columns : List Array

-- the column has so many rows
abbrev pub HasRows : ℕ → Array → Type 0
HasRows rows column = length (column_of column).rows ≡ rows
