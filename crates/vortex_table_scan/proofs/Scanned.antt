-- What a scan of sources promises, from what its run gave, whatever the answer.
use Rattle.std.proofs.Common.{◌≡◌, subst, ℕ, List, length, map, Option, None, ⊎_elim}
use Rattle.std.specs.Prelude.{◌⊎◌, IfErr, IfOk, Result, Ok, Err}
use Rattle.vortex_array_types.specs.declared.column.ColumnDesc.{ColumnDesc}
use Rattle.vortex_io.specs.Source.{Content}
use Rattle.vortex_io.specs.declared.source.IoSource.{Ghosts}
use Rattle.vortex_scan.specs.RunState.{RunState}
use Rattle.vortex_scan.specs.Seats.{work_seats}
use Rattle.vortex_scan.specs.Sources.{KeepsEach}
use Rattle.vortex_scan.specs.declared.worker.Work.{Work}
use Rattle.vortex_scan_types.specs.Valid.{ValidRequest}
use Rattle.vortex_scan_types.specs.declared.batch.Batch.{Batch}
use Rattle.vortex_scan_types.specs.declared.request.ScanRequest.{ScanRequest}
use Rattle.vortex_table_chunks.specs.declared.chunk.Chunk.{Chunk}
use Rattle.vortex_table_planner.specs.Morsels.{MorselState, has_plain_columns, is_fresh, morsel_plan}
use Rattle.vortex_table_planner.specs.Planners.{PlannerState, planner_plan}
use Rattle.vortex_table_types.specs.Answers.{Answers}
use Rattle.vortex_table_types.specs.Described.{IsTable}
use Rattle.vortex_table_types.specs.declared.describe.PartitionDesc.{PartitionDesc}
use Rattle.vortex_table_scan.specs.Causes.{HasCause}
use Rattle.vortex_table_scan.specs.Given.{ArePlain, AreRanked, given}
use Rattle.vortex_table_scan.specs.Journals.{KeepJournals}
use Rattle.vortex_table_scan.specs.Over.{AreBack, AreHonest, SurelyStand, question}
use Rattle.vortex_table_scan.specs.Rounds.{LeavesPlaces}
use Rattle.vortex_table_scan.specs.State.{TableState}
use Rattle.vortex_table_scan.specs.Taking.{Refuses, Takes}
use Rattle.vortex_table_scan.specs.Went.{Went}
use Rattle.vortex_table_scan.specs.declared.errors.ScanError.{ScanError}
use Rattle.vortex_table_scan.specs.declared.errors.ScanError.TheVariants.{OutOfMemory}
use Rattle.vortex_table_scan.proofs.Answered.{columns_plain, roots_ranked, rows_answered}
use Rattle.vortex_table_scan.proofs.Begun.{owed, works}
use Rattle.vortex_table_scan.proofs.Blamed.{has_cause, memory_cause}
use Rattle.vortex_table_scan.proofs.Fetching.{journals_kept, surely_stand}
use Rattle.vortex_table_scan.proofs.Leaving.{takes_keeps, takes_leaves}
use Rattle.vortex_table_scan.proofs.Returned.{all_back}

module _ {S T : Type 0} (source : Ghosts S Chunk) (columns : List ColumnDesc) (partitions : List PartitionDesc) (request : ScanRequest) (steps : ℕ) (old now : List S) (items : T → List Batch) where
  -- the table as the call begins, and as it ends
  abbrev was : TableState S
  was = record { columns = columns; partitions = partitions; sources = old }

  abbrev is_now : TableState S
  is_now = record { columns = columns; partitions = partitions; sources = now }

  -- an answer, where all roots were admitted
  abbrev pub IsTaken : Option ℕ → RunState (Work PlannerState MorselState) S → RunState (Work PlannerState MorselState) S → T → Type 0
  IsTaken stopped begun ended batches = (stopped ≡ None) × Takes works source owed (Unit {0}) (Unit {0}) (work_seats planner_plan morsel_plan is_fresh) has_plain_columns request (items batches) begun ended

  -- a refusal, which is want of memory where admission stopped
  abbrev pub IsRefused : Option ℕ → RunState (Work PlannerState MorselState) S → RunState (Work PlannerState MorselState) S → ScanError → Type 0
  IsRefused stopped begun ended why =
      Refuses works source (Unit {0}) (Unit {0}) (work_seats planner_plan morsel_plan is_fresh) request (length old) why begun ended × ((stopped ≡ None) ⊎ (why ≡ OutOfMemory))

  module _ (stopped : Option ℕ) (begun ended : RunState (Work PlannerState MorselState) S) where
    -- either way each source is kept
    pub run_keeps : (answer : Result T ScanError) → IfOk answer (IsTaken stopped begun ended) → IfErr answer (IsRefused stopped begun ended) → KeepsEach source begun.live.slots ended.live.slots
    run_keeps (Ok batches) ok err = takes_keeps works source owed (work_seats planner_plan morsel_plan is_fresh) has_plain_columns request (items batches) begun ended ok.1
    run_keeps (Err why) ok err = err.0.keeps

    -- and this is left of seats and journals
    pub run_leaves : (answer : Result T ScanError) → IfOk answer (IsTaken stopped begun ended) → IfErr answer (IsRefused stopped begun ended) → LeavesPlaces source (work_seats planner_plan morsel_plan is_fresh) begun.live ended.live
    run_leaves (Ok batches) ok err = takes_leaves works source owed (work_seats planner_plan morsel_plan is_fresh) has_plain_columns request (items batches) begun ended ok.1
    run_leaves (Err why) ok err = err.0.leaves tt

    -- a refusal, from what is said of it
    pub run_refused : (count : ℕ) → count ≡ length old → (answer : Result T ScanError)
        → IfErr answer (λ why. Refuses works source (Unit {0}) (Unit {0}) (work_seats planner_plan morsel_plan is_fresh) request count why begun ended) → IfErr answer (λ why. (stopped ≡ None) ⊎ (why ≡ OutOfMemory)) → IfErr answer (IsRefused stopped begun ended)
    run_refused count same (Ok batches) refuses stops = tt
    run_refused count same (Err why) refuses stops = (subst (λ n. Refuses works source (Unit {0}) (Unit {0}) (work_seats planner_plan morsel_plan is_fresh) request n why begun ended) same refuses, stops)

  module _ (answer : Result T ScanError) (stopped : Option ℕ) (begun ended : RunState (Work PlannerState MorselState) S) (went : Went source columns partitions request steps stopped old now begun ended) (table : IsTable source.outstanding columns partitions old)
      (valid : ValidRequest columns request) (ok : IfOk answer (IsTaken stopped begun ended)) (err : IfErr answer (IsRefused stopped begun ended)) where
    kept : KeepsEach source begun.live.slots ended.live.slots
    kept = run_keeps stopped begun ended answer ok err

    left : LeavesPlaces source (work_seats planner_plan morsel_plan is_fresh) begun.live ended.live
    left = run_leaves stopped begun ended answer ok err

    went_whole : stopped ≡ None → Went source columns partitions request steps None old now begun ended
    went_whole none = subst (λ s. Went source columns partitions request steps s old now begun ended) none went

    -- over honest sources the batches are an answer
    pub scanned_rows : IfOk answer (λ batches. (told : List (Content Chunk)) → AreHonest source partitions told old now → Answers (question was told request) (map given (items batches)))
    scanned_rows = by answer ok
      where
        by : (r : Result T ScanError) → IfOk r (IsTaken stopped begun ended) → IfOk r (λ batches. (told : List (Content Chunk)) → AreHonest source partitions told old now → Answers (question was told request) (map given (items batches)))
        by (Ok batches) o = λ told honest. rows_answered source columns partitions request steps old now begun ended (went_whole o.0) table (items batches) o.1 told honest
        by (Err why) o = tt

    -- each is of its partition's root
    pub scanned_roots : IfOk answer (λ batches. AreRanked request (items batches))
    scanned_roots = by answer ok
      where
        by : (r : Result T ScanError) → IfOk r (IsTaken stopped begun ended) → IfOk r (λ batches. AreRanked request (items batches))
        by (Ok batches) o = roots_ranked source columns partitions request steps old now begun ended (went_whole o.0) table (items batches) o.1
        by (Err why) o = tt

    -- and has plain columns
    pub scanned_plain : IfOk answer (λ batches. ArePlain (items batches))
    scanned_plain = by answer ok
      where
        by : (r : Result T ScanError) → IfOk r (IsTaken stopped begun ended) → IfOk r (λ batches. ArePlain (items batches))
        by (Ok batches) o = columns_plain source columns partitions request steps old now begun ended (went_whole o.0) table (items batches) o.1
        by (Err why) o = tt

    -- a refusal has its cause
    pub scanned_cause : IfErr answer (HasCause source request steps was is_now)
    scanned_cause = by answer err
      where
        by : (r : Result T ScanError) → IfErr r (IsRefused stopped begun ended) → IfErr r (HasCause source request steps was is_now)
        by (Ok batches) e = tt
        by (Err why) e =
            ⊎_elim (λ none. has_cause source columns partitions request steps old now begun ended (went_whole none) table valid why e.0) (λ memory. memory_cause source request steps was is_now why memory) e.1

    -- whatever the answer
    pub scanned_back : AreBack source old now
    scanned_back = all_back source columns partitions request steps stopped old now begun ended went kept table

    pub scanned_sure : SurelyStand source partitions old now
    scanned_sure = surely_stand source columns partitions request steps stopped old now begun ended went kept left table

    pub scanned_journals : KeepJournals source request was is_now
    scanned_journals = journals_kept source columns partitions request steps stopped old now begun ended went kept left
