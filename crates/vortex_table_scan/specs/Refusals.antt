-- Failures of a run, as refusals of a scan.
use Rattle.std.specs.Prelude.{◌≡◌, ◌<◌, ℕ, true, ⊤}
use Rattle.vortex_scan.specs.declared.errors.RunError.{RunError}
use Rattle.vortex_scan.specs.declared.errors.RunError.TheVariants as run
use Rattle.vortex_scan_types.specs.declared.request.ScanRequest.{ScanRequest}
use Rattle.vortex_table_planner.specs.declared.errors.PlanError.{PlanError}
use Rattle.vortex_table_planner.specs.declared.errors.PlanError.TheVariants as plan
use Rattle.vortex_table_scan.specs.Given.{rank}
use Rattle.vortex_table_scan.specs.declared.errors.ScanError.{ScanError}
use Rattle.vortex_table_scan.specs.declared.errors.ScanError.TheVariants as scan
use Rattle.vortex_table_types.specs.Chosen.{is_partition_chosen}

-- a partition is that of a root: it is chosen, and the root's number is its rank
pub record IsPartitionOf (request : ScanRequest) (partitions root partition : ℕ) : Type 0 where
  pub within : partition < partitions
  pub chosen : is_partition_chosen request partition ≡ true
  pub ranked : rank request partition ≡ root

-- a failure that a scan may meet; what happened to a root happened to one of the chosen partitions
abbrev pub IsNamed : ScanRequest → ℕ → RunError PlanError → Type 0
IsNamed request partitions run.RunFailed = ⊥
IsNamed request partitions (run.Source root) = root.0 < rank request partitions
IsNamed request partitions (run.Protocol root owner number) = root.0 < rank request partitions
IsNamed request partitions run.EmptyBatch = ⊥
IsNamed request partitions run.EmptyIo = ⊥
IsNamed request partitions run.Republished = ⊥
IsNamed request partitions run.WaitsForNothing = ⊥
IsNamed request partitions (run.Planner root failure) = root.0 < rank request partitions
IsNamed request partitions run.StepLimit = ⊤
IsNamed request partitions run.IdsExhausted = ⊥
IsNamed request partitions run.NoLiveRoot = ⊥
IsNamed request partitions run.OutOfMemory = ⊤

-- what it is to the scan
abbrev pub IsRefusal : ScanRequest → ℕ → RunError PlanError → ScanError → Type 0
IsRefusal request partitions (run.Source root) why = (p : ℕ) × IsPartitionOf request partitions root.0 p × (why ≡ scan.Source p)
IsRefusal request partitions (run.Protocol root owner number) why = (p : ℕ) × IsPartitionOf request partitions root.0 p × (why ≡ scan.Protocol p owner number)
IsRefusal request partitions (run.Planner root (plan.ChunkMismatch split column)) why = (p : ℕ) × IsPartitionOf request partitions root.0 p × (why ≡ scan.ChunkMismatch p split column)
IsRefusal request partitions (run.Planner root plan.OutOfMemory) why = why ≡ scan.OutOfMemory
IsRefusal request partitions run.StepLimit why = why ≡ scan.StepLimit
IsRefusal request partitions run.OutOfMemory why = why ≡ scan.OutOfMemory
IsRefusal request partitions _ why = ⊥
