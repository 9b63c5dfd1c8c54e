-- What a scan of sources does with them: it admits roots to a new run, takes the run forward, and puts every source back in its place.
use Rattle.std.specs.Prelude.{◌≡◌, ℕ, Option, List, filter, length}
use Rattle.std.specs.List.{range_with_len}
use Rattle.vortex_array_types.specs.declared.column.ColumnDesc.{ColumnDesc}
use Rattle.vortex_io.specs.declared.source.IoSource.{Ghosts}
use Rattle.vortex_scan.specs.RunState.{RunState, new_run}
use Rattle.vortex_scan.specs.Sources.{ClearsEach}
use Rattle.vortex_scan.specs.declared.worker.Work.{Work}
use Rattle.vortex_scan_types.specs.declared.request.ScanRequest.{ScanRequest}
use Rattle.vortex_table_planner.specs.Morsels.{MorselState}
use Rattle.vortex_table_planner.specs.Planners.{PlannerState}
use Rattle.vortex_table_chunks.specs.declared.chunk.Chunk.{Chunk}
use Rattle.vortex_table_types.specs.declared.describe.PartitionDesc.{PartitionDesc}
use Rattle.vortex_table_scan.specs.Admitting.{IsAdmitted}
use Rattle.vortex_table_scan.specs.Parted.{is_admitted, is_left, picked}

-- the roots of the partitions before the one at which admission stopped, if it did, were admitted to a new run with this limit, and after it was taken forward its sources
-- were cleared and put in their places, beside those that had waited
pub record Went {S : Type 0} (source : Ghosts S Chunk) (columns : List ColumnDesc) (partitions : List PartitionDesc) (request : ScanRequest) (steps : ℕ) (stopped : Option ℕ) (old now : List S)
    (begun ended : RunState (Work PlannerState MorselState) S) : Type 0 where
  pub admitted : IsAdmitted columns partitions request (record new_run { limit = steps }) (filter (is_admitted request stopped) (range_with_len 0 (length old))) (picked (is_admitted request stopped) 0 old) begun
  pub back : List S
  pub cleared : ClearsEach source ended.live.slots back
  pub long : length now ≡ length old
  pub placed : picked (is_admitted request stopped) 0 now ≡ back
  pub others : picked (is_left request stopped) 0 now ≡ picked (is_left request stopped) 0 old
