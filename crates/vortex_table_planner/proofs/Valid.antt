-- What a new planner wants is valid for its columns.
use Rattle.std.proofs.Common.{◌≡◌, ℕ, List, [], ◌∷◌, ◌++◌, Bool, false, refl}
use Rattle.std.specs.Prelude.{None, is_some, not}
use Rattle.vortex_array_types.specs.Cells.{dtype_of}
use Rattle.vortex_array_types.specs.Typed.{filter_names}
use Rattle.vortex_array_types.specs.declared.column.ColumnDesc.{ColumnDesc}
use Rattle.vortex_scan_types.specs.Valid.{ValidRequest, first_unknown, projection_names}
use Rattle.vortex_scan_types.specs.declared.request.ScanRequest.{ScanRequest}
use Rattle.vortex_table_types.specs.Chosen.{projected_names}
use Rattle.vortex_table_types.specs.Described.{HaveOwnNames}
use Rattle.vortex_table_types.specs.declared.describe.PartitionDesc.{PartitionDesc}
use Rattle.vortex_table_types.proofs.Joined.{IsKnown, is_known, names_known, none_found}
use Rattle.vortex_table_types.proofs.Rising.{Each, each_append, each_at, each_more}
use Rattle.vortex_table_planner.specs.Live.{names_in}
use Rattle.vortex_table_planner.specs.Morsels.{IsWanted}
use Rattle.vortex_table_planner.specs.Planners.{new_planner}

each_left : {X : Type 0} (P : X → Type 0) (xs ys : List X) → Each P (xs ++ ys) → Each P xs
each_left P [] ys e = tt
each_left P (x ∷ xs) ys e = (e.0, each_left P xs ys e.1)

each_right : {X : Type 0} (P : X → Type 0) (xs ys : List X) → Each P (xs ++ ys) → Each P ys
each_right P [] ys e = e
each_right P (x ∷ xs) ys e = each_right P xs ys e.1

-- where no name is unknown, each one of the projection or the filter is known
pub all_known : (columns : List ColumnDesc) (request : ScanRequest) → first_unknown columns request ≡ None → Each (IsKnown columns) (names_in columns request.projection request.filter)
all_known columns request none =
    let listed : List (List ℕ) = projection_names request.projection in
    let test : List ℕ → Bool = λ name. not (is_some (dtype_of columns name)) in
    let each : Each (IsKnown columns) (listed ++ filter_names request.filter) =
    each_more (λ name. test name ≡ false) (IsKnown columns) (λ name e. is_known (dtype_of columns name) e) (listed ++ filter_names request.filter) (none_found test (listed ++ filter_names request.filter) none) in
    each_append (IsKnown columns) (projected_names columns request.projection) (filter_names request.filter)
    (names_known columns request.projection (each_left (IsKnown columns) listed (filter_names request.filter) each)) (each_right (IsKnown columns) listed (filter_names request.filter) each)

-- so is what a new planner wants
pub new_wanted : (columns : List ColumnDesc) (p : ℕ) (partition : PartitionDesc) (request : ScanRequest) → HaveOwnNames columns → ValidRequest columns request → IsWanted (new_planner columns p partition request).wanted
new_wanted columns p partition request own valid = record {
  names = own;
  known = λ k d h. each_at (IsKnown columns) (names_in columns request.projection request.filter) (all_known columns request valid.names) k d h;
  types = valid.types;
  needed = refl;
}
