-- Which filters can be asked of a table's columns, and why others cannot.
use Rattle.std.specs.Prelude.{◌≡◌, ◌≢◌, ℕ, List, Option, Some, None, IsTrue, IsFalse, not, find, is_some}
use Rattle.vortex_array_types.specs.declared.column.ColumnDesc.{ColumnDesc}
use Rattle.vortex_array_types.specs.declared.filter.Filter.{Filter}
use Rattle.vortex_array_types.specs.declared.filter_check.FilterError.{FilterError}
use Rattle.vortex_array_types.specs.declared.filter_check.FilterError.TheVariants.{UnknownColumn, MismatchedTypes, OutOfMemory}
use Rattle.vortex_array_types.specs.Cells.{dtype_of}
use Rattle.vortex_array_types.specs.Typed.{filter_names, well_typed}

-- the first name of the filter, from left to right, that no column has
abbrev pub unknown_in : List ColumnDesc → Filter → Option (List ℕ)
unknown_in columns filter = find (λ n. not (is_some (dtype_of columns n))) (filter_names (Some filter))

-- all names are known, and the type rules are met
abbrev pub Checks : List ColumnDesc → Filter → Type 0
Checks columns filter = (unknown_in columns filter ≡ None) × IsTrue (well_typed columns (Some filter))

-- what each refusal tells; memory is wanted only for an unknown name
abbrev pub Cause : List ColumnDesc → Filter → FilterError → Type 0
Cause columns filter (UnknownColumn name) = unknown_in columns filter ≡ Some name
Cause columns filter MismatchedTypes = (unknown_in columns filter ≡ None) × IsFalse (well_typed columns (Some filter))
Cause columns filter OutOfMemory = unknown_in columns filter ≢ None
