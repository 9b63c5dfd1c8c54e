-- Roots: the planner of a chosen partition, and what it brings to a run.
use Rattle.std.specs.Prelude.{◌≡◌, ◌≢◌, ◌≤◌, ◌+◌, ◌*◌, ℕ, length, true, List, [], Option, Some, slice_get}
use Rattle.vortex_array_types.specs.declared.column.ColumnDesc.{ColumnDesc}
use Rattle.vortex_io.specs.Source.{Content}
use Rattle.vortex_scan.specs.declared.state.State.TheVariants as state
use Rattle.vortex_scan_types.specs.declared.request.ScanRequest.{ScanRequest}
use Rattle.vortex_table_chunks.specs.ChunkOf.{content_of}
use Rattle.vortex_table_chunks.specs.declared.chunk.Chunk.{Chunk}
use Rattle.vortex_table_planner.specs.Live.{partition_plan}
use Rattle.vortex_table_planner.specs.Morsels.{is_want}
use Rattle.vortex_table_planner.specs.Owing.{IsMismatch, partition_owed}
use Rattle.vortex_table_planner.specs.Planners.{PlannerState, planner_asked, planner_orderly, planner_owed, planner_permits, planner_plan, planner_state, planner_work}
use Rattle.vortex_table_planner.specs.declared.errors.PlanError.{PlanError}
use Rattle.vortex_table_planner.specs.declared.errors.PlanError.TheVariants.{ChunkMismatch}
use Rattle.vortex_table_types.specs.Table.{FitsPartition}
use Rattle.vortex_table_types.specs.declared.describe.PartitionDesc.{PartitionDesc}

-- a new planner of partition p: what it owes, what it may fetch, how often it is visited at most, and how it may fail
pub record IsPlannerOf (columns : List ColumnDesc) (p : ℕ) (partition : PartitionDesc) (request : ScanRequest) (it : PlannerState) : Type 0 where
  pub owed : (content : Content Chunk) → FitsPartition partition (content_of content) → planner_owed it content ≡ partition_owed columns p partition request (content_of content)
  pub plan : (told : Option (Content Chunk)) → planner_plan it told ≡ partition_plan columns p partition request
  pub orderly : planner_orderly it
  pub work : planner_work it ≤ 6 * length partition.splits + 1
  pub asked : planner_asked it ≡ []
  pub acts : planner_state it ≢ state.Waiting
  pub permits : (content : Content Chunk) (split column : ℕ) → planner_permits it content (ChunkMismatch split column) → IsMismatch columns p partition request (content_of content) split column
  pub suits : (content : Content Chunk) (failure : PlanError) → FitsPartition partition (content_of content) → planner_permits it content failure → is_want failure ≡ true

-- the planner of a partition by its number
abbrev pub IsPlannerAt : List ColumnDesc → List PartitionDesc → ScanRequest → ℕ → PlannerState → Type 0
IsPlannerAt columns partitions request p it = (partition : PartitionDesc) × (slice_get partitions p ≡ Some partition) × IsPlannerOf columns p partition request it
