-- What the parts of the plain programs compute.
use Rattle.std.specs.Prelude.{ℕ, ◌<◌, slice_index_or, List, map, filter, None, slice_get, unwrap_or}
use Rattle.std.specs.List.{enumerate_from}
use Rattle.vortex_array_types.specs.declared.types.DType.{DType}
use Rattle.vortex_array_types.specs.Row.{Column}
use Rattle.vortex_array_types.specs.declared.column.ColumnDesc.{ColumnDesc}
use Rattle.vortex_scan_types.specs.declared.request.ScanRequest.{ScanRequest}
use Rattle.vortex_array_types.specs.Cells.{Row}
use Rattle.vortex_table_types.specs.Chosen.{Placed, is_chosen, projected}

-- the chosen rows of a partition, the first of which has this number
abbrev pub chosen_part : ScanRequest → List ColumnDesc → ℕ → ℕ → List Row → List Placed
chosen_part request columns partition first rows =
    map (projected columns request.projection) (filter (is_chosen request columns) (map (λ x. record { partition = partition; row = x.0; values = x.1 }) (enumerate_from first rows)))

-- the columns from this number on
abbrev pub columns_from : ℕ → List DType → List Placed → List Column
columns_from first types rows = map (λ t. record { dtype = t.1; rows = map (λ x. unwrap_or (slice_get x.values t.0) None) rows }) (enumerate_from first types)

-- R holds of each element before this place and the one there
abbrev pub Before : {X : Type 0} → (X → X → Type 0) → List X → ℕ → Type 0
Before {X} R xs place = (i : ℕ) (d : X) → i < place → R (slice_index_or xs i d) (slice_index_or xs place d)
