-- A run into which the planners of partitions are admitted, in order, each over its source.
use Rattle.std.specs.Prelude.{◌≡◌, ◌⊎◌, ℕ, true, false, List, [], ◌++◌, ◌∷◌, Option, Some, map}
use Rattle.std.specs.List.{AllByRecursion}
use Rattle.vortex_array_types.specs.declared.column.ColumnDesc.{ColumnDesc}
use Rattle.vortex_scan.specs.RunState.{RunState}
use Rattle.vortex_scan.specs.Steps.{admitted}
use Rattle.vortex_scan.specs.declared.worker.Work.{Work}
use Rattle.vortex_scan.specs.declared.worker.Work.TheVariants as work
use Rattle.vortex_scan_types.specs.declared.batch.WorkScope.{WorkScope}
use Rattle.vortex_scan_types.specs.declared.request.ScanRequest.{ScanRequest}
use Rattle.vortex_table_planner.specs.Morsels.{MorselState}
use Rattle.vortex_table_planner.specs.Planners.{PlannerState}
use Rattle.vortex_table_scan.specs.Parted.{is_admitted}
use Rattle.vortex_table_scan.specs.Planned.{IsPlannerAt}
use Rattle.vortex_table_types.specs.declared.describe.PartitionDesc.{PartitionDesc}

-- the root of a partition has no rows of its own
abbrev pub root_scope : ℕ → WorkScope
root_scope p = record { file_ordinal = p; rows = record { start = 0; end = 0 } }

-- a root to come: its partition, its planner, and its source
pub record Root (S : Type 0) : Type 0 where
  pub partition : ℕ
  pub planner : PlannerState
  pub source : S

-- roots are admitted one after another
abbrev pub admits : {S : Type 0} → RunState (Work PlannerState MorselState) S → List (Root S) → RunState (Work PlannerState MorselState) S
admits run [] = run
admits run (root ∷ roots) = admits (admitted run (work.Planner root.planner) (root_scope root.partition) root.source) roots

-- roots are those of the admitted partitions among the first so many, in order, each with the planner of its partition
pub record AreRootsOf {S : Type 0} (columns : List ColumnDesc) (partitions : List PartitionDesc) (request : ScanRequest) (chosen : List ℕ) (given : List S) (roots : List (Root S)) : Type 0 where
  pub numbers : map (λ (root : Root S). root.partition) roots ≡ chosen
  pub sources : map (λ (root : Root S). root.source) roots ≡ given
  pub planners : AllByRecursion (λ (root : Root S). IsPlannerAt columns partitions request root.partition root.planner) roots

-- the admitted run: a new one with this limit, and the roots of these partitions over these sources
pub record IsAdmitted {S : Type 0} (columns : List ColumnDesc) (partitions : List PartitionDesc) (request : ScanRequest) (old : RunState (Work PlannerState MorselState) S) (numbers : List ℕ) (sources : List S) (new : RunState (Work PlannerState MorselState) S) : Type 0 where
  pub roots : List (Root S)
  pub are : AreRootsOf columns partitions request numbers sources roots
  pub now : new ≡ admits old roots

-- the source of a partition was admitted, or joined those beside the run; where it should have been admitted and memory was wanting, admission stops at its partition
abbrev pub IsPlaced : {S : Type 0} → List ColumnDesc → List PartitionDesc → ScanRequest → ℕ → S → Option ℕ → Option ℕ → RunState (Work PlannerState MorselState) S → RunState (Work PlannerState MorselState) S → List S → List S → Type 0
IsPlaced columns partitions request partition source stopped now old new beside later =
    ((now ≡ stopped) × (is_admitted request stopped partition ≡ true) × IsAdmitted columns partitions request old (partition ∷ []) (source ∷ []) new × (later ≡ beside))
    ⊎ (((now ≡ stopped) × (is_admitted request stopped partition ≡ false) × (new ≡ old) × (later ≡ beside ++ source ∷ []))
    ⊎ ((now ≡ Some partition) × (is_admitted request stopped partition ≡ true) × (new ≡ old) × (later ≡ beside ++ source ∷ [])))
