-- The batches of a run, until nothing is live or enough rows came.
use Rattle.std.specs.Prelude.{◌≡◌, ◌≤◌, ◌⊎◌, ℕ, Bool, Option, None, Some, List, [], sum_by}
use Rattle.vortex_array.specs.Batch.{BatchParts}
use Rattle.vortex_io.specs.declared.source.IoSource.{Ghosts}
use Rattle.vortex_scan.specs.Bag.{Owing}
use Rattle.vortex_scan.specs.Driving.{KeepsRun}
use Rattle.vortex_scan.specs.RunState.{RunState}
use Rattle.vortex_scan.specs.Seats.{Seating}
use Rattle.vortex_scan.specs.declared.worker.Worker.{Ghosts as Works}
use Rattle.vortex_scan_types.specs.declared.batch.Batch.{Batch}
use Rattle.vortex_table_scan.specs.Cut.{CutWithin}
use Rattle.vortex_table_scan.specs.Rounds.{KeepsPlaces}

-- how many rows batches have together
abbrev pub rows_together : List Batch → ℕ
rows_together batches = sum_by (λ (batch : Batch). batch.array.rows) batches

-- the limit is reached by these batches
abbrev pub IsReached : Option ℕ → List Batch → Type 0
IsReached None batches = ⊥
IsReached (Some limit) batches = limit ≤ rows_together batches

-- a run gave batches, of which these hold the first rows within the limit; nothing is live, or the limit is reached
pub record Gathers {W S C E : Type 0} (works : Works W C E) (source : Ghosts S C) (owed : Owing W C) (tells plans : Type 0) (seating : Seating W C) (gives_such : BatchParts → Bool)
    (limit : Option ℕ) (batches : List Batch) (old new : RunState W S) : Type 0 where
  pub given : List Batch
  pub cut : CutWithin limit given batches
  pub keeps : KeepsRun works source owed tells given old new
  pub places : plans → KeepsPlaces source seating gives_such given old.live new.live
  pub ends : (new.live.items ≡ []) ⊎ IsReached limit given
