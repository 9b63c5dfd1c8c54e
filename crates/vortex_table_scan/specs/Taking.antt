-- The batches that a request takes of a run.
use Rattle.std.specs.Prelude.{◌≡◌, ◌⊎◌, ℕ, Bool, true, false, Option, None, List}
use Rattle.std.specs.List.Sorted.{IsPermutation}
use Rattle.vortex_array.specs.Batch.{BatchParts}
use Rattle.vortex_io.specs.declared.source.IoSource.{Ghosts}
use Rattle.vortex_scan.specs.Bag.{Owing}
use Rattle.vortex_scan.specs.Driving.{StopsRun}
use Rattle.vortex_scan.specs.RunState.{RunState}
use Rattle.vortex_scan.specs.Seats.{AddsNothing, FaultsNoSure, Seating}
use Rattle.vortex_scan.specs.Sources.{KeepsEach}
use Rattle.vortex_scan.specs.declared.errors.RunError.{RunError}
use Rattle.vortex_scan.specs.declared.item.Slot.{Slot}
use Rattle.vortex_scan.specs.declared.worker.Worker.{Ghosts as Works}
use Rattle.vortex_scan_types.specs.declared.batch.Batch.{Batch}
use Rattle.vortex_scan_types.specs.declared.request.ScanRequest.{ScanRequest}
use Rattle.vortex_table_planner.specs.declared.errors.PlanError.{PlanError}
use Rattle.vortex_table_scan.specs.Cut.{AreInOrder, CutWithin}
use Rattle.vortex_table_scan.specs.Gathering.{Gathers}
use Rattle.vortex_table_scan.specs.Refusals.{IsRefusal}
use Rattle.vortex_table_scan.specs.Rounds.{LeavesPlaces}
use Rattle.vortex_table_scan.specs.declared.errors.ScanError.{ScanError}
use Rattle.vortex_table_scan.specs.declared.errors.ScanError.TheVariants.{OutOfMemory}

-- what cancelling leaves of the sources: each is kept, nothing is added to a journal, and none that is sure and tells its content fails
pub record Cancels {S C : Type 0} (source : Ghosts S C) (old new : List (Slot S)) : Type 0 where
  pub keeps : KeepsEach source old new
  pub journals : AddsNothing source old new
  pub sure : FaultsNoSure source old new

-- batches in order of scope, up to a limit
pub record Trims (limit : Option ℕ) (batches kept : List Batch) : Type 0 where
  pub sorted : List Batch
  pub same : IsPermutation batches sorted
  pub order : AreInOrder sorted
  pub cut : CutWithin limit sorted kept

-- the limit at which a run stops: none where the order is wanted, since then all batches come first
abbrev pub stop_at : Bool → Option ℕ → Option ℕ
stop_at true limit = None
stop_at false limit = limit

-- an ordered scan trims all batches, and another gives what was gathered
abbrev pub Finishes : Bool → Option ℕ → List Batch → List Batch → Type 0
Finishes true limit gathered batches = Trims limit gathered batches
Finishes false limit gathered batches = batches ≡ gathered

-- a run was taken as far as a request needs it: batches were gathered, what was live then may have been cancelled, and these are the request's
pub record Takes {W S C E : Type 0} (works : Works W C E) (source : Ghosts S C) (owed : Owing W C) (tells plans : Type 0) (seating : Seating W C) (gives_such : BatchParts → Bool) (request : ScanRequest)
    (batches : List Batch) (old new : RunState W S) : Type 0 where
  pub between : RunState W S
  pub gathered : List Batch
  pub gathers : Gathers works source owed tells plans seating gives_such (stop_at request.ordered request.limit) gathered old between
  pub cancels : Cancels source between.live.slots new.live.slots
  pub finishes : Finishes request.ordered request.limit gathered batches

-- it could not be: the run failed, which is this refusal; or memory was wanting once batches were gathered
pub record Refuses {W S C : Type 0} (works : Works W C PlanError) (source : Ghosts S C) (tells plans : Type 0) (seating : Seating W C) (request : ScanRequest) (partitions : ℕ)
    (why : ScanError) (old new : RunState W S) : Type 0 where
  pub keeps : KeepsEach source old.live.slots new.live.slots
  pub leaves : plans → LeavesPlaces source seating old.live new.live
  pub cause : ((failure : RunError PlanError) × StopsRun works source tells failure old new × IsRefusal request partitions failure why) ⊎ (why ≡ OutOfMemory)
