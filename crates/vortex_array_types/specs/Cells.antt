-- Rows of several columns, and what stands under a name.
use Rattle.std.specs.Prelude.{ℕ, List, [], ◌∷◌, Option, Some, None, if◌then◌else◌}
use Rattle.std.specs.Str.{bytes_eq}
use Rattle.vortex_array_types.specs.declared.types.DType.{DType}
use Rattle.vortex_array_types.specs.declared.scalar.Value.{Value}
use Rattle.vortex_array_types.specs.declared.column.ColumnDesc.{ColumnDesc}

-- a value or null for each column
abbrev pub Row : Type 0
Row = List (Option Value)

-- the type of the column with this name
abbrev pub dtype_of : List ColumnDesc → List ℕ → Option DType
dtype_of [] name = None
dtype_of (column ∷ columns) name = if bytes_eq column.name name then Some column.dtype else dtype_of columns name

-- the row's value in the column with this name
abbrev pub cell_of : List ColumnDesc → Row → List ℕ → Option Value
cell_of [] row name = None
cell_of (column ∷ columns) [] name = None
cell_of (column ∷ columns) (value ∷ row) name = if bytes_eq column.name name then value else cell_of columns row name
