-- Of a run into which the roots of all chosen partitions were admitted: what is live fits, and each failure that it may meet has a name.
use Rattle.std.proofs.Common.{◌≡◌, ◌∙◌, sym, ap, subst, refl, ℕ, suc, ◌+◌, ◌<◌, ◌≤◌, List, [], ◌∷◌, Bool, true, false, cond, length, map, filter, None, Some, arith}
use Rattle.std.specs.Prelude.{slice_get}
use Rattle.std.specs.List.{AllByRecursion, range_with_len}
use Rattle.std.proofs.lemmas.List.{length-map}
use Rattle.std.proofs.lemmas.List.Sums.{length-filter}
use Rattle.std.proofs.lemmas.Option.{slice_get_within}
use Rattle.vortex_array_types.specs.declared.column.ColumnDesc.{ColumnDesc}
use Rattle.vortex_io.specs.declared.source.IoSource.{Ghosts}
use Rattle.vortex_scan.specs.Driving.{StopsRun}
use Rattle.vortex_scan.specs.Fits.{LiveFits}
use Rattle.vortex_scan.specs.InOrder.{IsOrderly, work_left}
use Rattle.vortex_scan.specs.InStep.{IsInStep}
use Rattle.vortex_scan.specs.RunState.{RunState, new_run}
use Rattle.vortex_scan.specs.declared.errors.RunError.{RunError}
use Rattle.vortex_scan.specs.declared.errors.RunError.TheVariants as run
use Rattle.vortex_scan.specs.declared.item.Slot.{Slot}
use Rattle.vortex_scan.specs.declared.worker.Work.{Work}
use Rattle.vortex_scan_types.specs.declared.place.RootId.{RootId}
use Rattle.vortex_scan_types.specs.declared.request.ScanRequest.{ScanRequest}
use Rattle.vortex_table_chunks.specs.declared.chunk.Chunk.{Chunk}
use Rattle.vortex_table_planner.specs.Morsels.{MorselState}
use Rattle.vortex_table_planner.specs.Planners.{PlannerState}
use Rattle.vortex_table_planner.specs.declared.errors.PlanError.{PlanError}
use Rattle.vortex_table_types.specs.Described.{IsTable, steps_of}
use Rattle.vortex_table_types.specs.declared.describe.PartitionDesc.{PartitionDesc}
use Rattle.vortex_table_types.proofs.Rising.{Each}
use Rattle.vortex_table_types.proofs.Whole.{all_each}
use Rattle.vortex_table_scan.specs.Admitting.{IsAdmitted, Root}
use Rattle.vortex_table_scan.specs.Given.{rank}
use Rattle.vortex_table_scan.specs.Parted.{is_admitted, picked}
use Rattle.vortex_table_scan.specs.Refusals.{IsNamed}
use Rattle.vortex_table_scan.proofs.Begun.{AreAligned, Begins, aligned, begins, begins_fits, begins_in_step, begins_orderly, slot_of, work_bounded, works}

-- what holds of each thing holds of the picked ones
each_picked : {X : Type 0} (P : X → Type 0) (test : ℕ → Bool) (p : ℕ) (xs : List X) → Each P xs → AllByRecursion P (picked test p xs)
each_picked P test p [] all = tt
each_picked P test p (x ∷ xs) all =
    elim (test p) as (λ b. AllByRecursion P (cond b (x ∷ picked test (suc p) xs) (picked test (suc p) xs))) [ true ↦ (all.0, each_picked P test (suc p) xs all.1) | false ↦ each_picked P test (suc p) xs all.1 ]

each_of_map : {X Y : Type 0} (P : Y → Type 0) (f : X → Y) (xs : List X) → AllByRecursion P (map f xs) → AllByRecursion (λ x. P (f x)) xs
each_of_map P f [] all = tt
each_of_map P f (x ∷ xs) all = (all.0, each_of_map P f xs all.1)

module _ {S : Type 0} (source : Ghosts S Chunk) (columns : List ColumnDesc) (partitions : List PartitionDesc) (request : ScanRequest) (steps : ℕ) where
  pub admitted_begins : (chosen : List ℕ) (given : List S) (begun : RunState (Work PlannerState MorselState) S) (a : IsAdmitted columns partitions request (record new_run { limit = steps }) chosen given begun) → Begins steps a.roots begun
  admitted_begins chosen given begun a = subst (Begins steps a.roots) (sym a.now) (begins steps a.roots)

  -- what is live fits
  pub admitted_fits : (chosen : List ℕ) (given : List S) (begun : RunState (Work PlannerState MorselState) S) → IsAdmitted columns partitions request (record new_run { limit = steps }) chosen given begun → LiveFits source begun.live
  admitted_fits chosen given begun a = begins_fits source steps a.roots begun (admitted_begins chosen given begun a)

  -- and it is orderly
  pub admitted_orderly : (chosen : List ℕ) (given : List S) (begun : RunState (Work PlannerState MorselState) S) → IsAdmitted columns partitions request (record new_run { limit = steps }) chosen given begun → IsOrderly works begun.live
  admitted_orderly chosen given begun a = begins_orderly columns request partitions steps a.roots begun (admitted_begins chosen given begun a) a.are.planners

  module _ (sources : List S) (begun : RunState (Work PlannerState MorselState) S) (table : IsTable source.outstanding columns partitions sources)
      (a : IsAdmitted columns partitions request (record new_run { limit = steps }) (filter (is_admitted request None) (range_with_len 0 (length sources))) (picked (is_admitted request None) 0 sources) begun) where
    starts : Begins steps a.roots begun
    starts = admitted_begins (filter (is_admitted request None) (range_with_len 0 (length sources))) (picked (is_admitted request None) 0 sources) begun a

    pub orderly : IsOrderly works begun.live
    orderly = admitted_orderly (filter (is_admitted request None) (range_with_len 0 (length sources))) (picked (is_admitted request None) 0 sources) begun a

    -- each root is in step
    pub in_step : (root : RootId) → IsInStep source begun.live root
    in_step root =
        let idle : AllByRecursion (λ (s : S). source.outstanding s ≡ []) (picked (is_admitted request None) 0 sources) = each_picked (λ s. source.outstanding s ≡ []) (is_admitted request None) 0 sources (all_each (λ s. source.outstanding s ≡ []) sources table.idle) in
        begins_in_step source steps a.roots begun starts (each_of_map (λ s. source.outstanding s ≡ []) (λ (r : Root S). r.source) a.roots (subst (AllByRecursion (λ (s : S). source.outstanding s ≡ [])) (sym a.are.sources) idle)) root

    -- the roots beside the partitions
    pub roots_aligned : AreAligned columns request 0 partitions a.roots
    roots_aligned =
        aligned columns request partitions 0 partitions a.roots (a.are.numbers ∙ ap (λ n. filter (is_admitted request None) (range_with_len 0 n)) table.described.paired) a.are.planners
        (λ k partition e. let same : 0 + k ≡ k = omega arith in ap (slice_get partitions) same ∙ e)

    -- the work, and the owner numbers, are no more than a table's steps
    pub bounded : work_left works begun.live.items + length a.roots ≤ steps_of partitions
    bounded = subst (λ list. work_left works list + length a.roots ≤ steps_of partitions) (sym starts.items) (work_bounded columns request 0 partitions a.roots 0 0 roots_aligned)

    -- a root's number is a rank
    pub root_ranked : (root : ℕ) (slot : Slot S) → slice_get begun.live.slots root ≡ Some slot → root < rank request (length sources)
    root_ranked root slot there =
        let within = slice_get_within (map slot_of a.roots) root slot (sym (ap (λ list. slice_get list root) starts.slots) ∙ there) in
        let long : length (map slot_of a.roots) ≡ length a.roots = length-map a.roots slot_of in
        let numbers : length a.roots ≡ length (filter (is_admitted request None) (range_with_len 0 (length sources))) = sym (length-map a.roots (λ (r : Root S). r.partition)) ∙ ap length a.are.numbers in
        let counted : length (filter (is_admitted request None) (range_with_len 0 (length sources))) ≡ rank request (length sources) = length-filter (is_admitted request None) (range_with_len 0 (length sources)) in
        omega (arith, within, long, numbers, counted)

    -- each failure of the run has a name
    pub failure_named : (failure : RunError PlanError) (new : RunState (Work PlannerState MorselState) S) → StopsRun works source (Unit {0}) failure begun new → IsNamed request (length sources) failure
    failure_named run.RunFailed new s = s.own.run_failed refl
    failure_named (run.Source root) new s = let f = s.cause root refl in root_ranked root.0 f.before f.there
    failure_named (run.Protocol root owner number) new s = let f = s.unexpected root owner number refl (in_step root) in root_ranked root.0 f.before f.there
    failure_named run.EmptyBatch new s = (s.disorder orderly).empty_batch refl
    failure_named run.EmptyIo new s = (s.disorder orderly).empty_io refl
    failure_named run.Republished new s = (s.disorder orderly).republished refl
    failure_named run.WaitsForNothing new s = (s.disorder orderly).waits_for_nothing refl
    failure_named (run.Planner root failure) new s = let f = s.blames root failure refl in root_ranked root.0 f.0 f.1
    failure_named run.StepLimit new s = tt
    failure_named run.IdsExhausted new s =
        let less = (s.disorder orderly).ids_exhausted refl in
        let most = bounded in
        let owners = starts.owners in
        let counted = table.described.counted.steps in
        omega (arith, less, most, owners, counted)
    failure_named run.NoLiveRoot new s = s.own.no_live_root refl
    failure_named run.OutOfMemory new s = tt
