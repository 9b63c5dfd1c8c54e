-- Valid requests: all names are known, and the filter meets the type rules.
use Rattle.std.specs.Prelude.{◌≡◌, ℕ, List, [], ◌++◌, not, Option, None, find, is_some, IsTrue}
use Rattle.vortex_array_types.specs.declared.column.ColumnDesc.{ColumnDesc}
use Rattle.vortex_array_types.specs.Cells.{dtype_of}
use Rattle.vortex_array_types.specs.Typed.{filter_names, well_typed}
use Rattle.vortex_scan_types.specs.declared.request.Projection.{Projection}
use Rattle.vortex_scan_types.specs.declared.request.Projection.TheVariants.{All, Columns}
use Rattle.vortex_scan_types.specs.declared.request.ScanRequest.{ScanRequest}

-- the names that a projection lists
abbrev pub projection_names : Projection → List (List ℕ)
projection_names All = []
projection_names (Columns names) = names

-- the first name that is not the table's: in the projection, else in the filter
abbrev pub first_unknown : List ColumnDesc → ScanRequest → Option (List ℕ)
first_unknown columns request = find (λ name. not (is_some (dtype_of columns name))) (projection_names request.projection ++ filter_names request.filter)

-- every name is known, and the filter meets the type rules
pub record ValidRequest (columns : List ColumnDesc) (request : ScanRequest) : Type 0 where
  pub names : first_unknown columns request ≡ None
  pub types : IsTrue (well_typed columns request.filter)
