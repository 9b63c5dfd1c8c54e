-- Each refusal of a scan of sources has its cause.
use Rattle.std.proofs.Common.{◌≡◌, ◌∙◌, sym, ap, subst, refl, ℕ, ◌-◌, ◌^◌, ◌<◌, ◌≤◌, List, length, Option, None, Some, arith, inl, inr, ⊎_elim}
use Rattle.std.specs.Prelude.{◌⊎◌, slice_get}
use Rattle.std.proofs.lemmas.Bool.{cases_eq, cases_lt, cases_order}
use Rattle.vortex_array_types.specs.declared.column.ColumnDesc.{ColumnDesc}
use Rattle.vortex_buffer.specs.Counts.{Rose}
use Rattle.vortex_io.specs.Source.{Content, IsHonest}
use Rattle.vortex_io.specs.declared.ids.IoOwnerId.{IoOwnerId}
use Rattle.vortex_io.specs.declared.ids.IoRequestId.{IoRequestId}
use Rattle.vortex_io.specs.declared.source.IoSource.{Ghosts}
use Rattle.vortex_scan.specs.Driving.{StopsRun}
use Rattle.vortex_scan.specs.InOrder.{IsHonestAt}
use Rattle.vortex_scan.specs.RunState.{RunState}
use Rattle.vortex_scan.specs.Seats.{work_seats}
use Rattle.vortex_scan.specs.declared.errors.RunError.{RunError}
use Rattle.vortex_scan.specs.declared.errors.RunError.TheVariants as run
use Rattle.vortex_scan.specs.declared.item.Slot.{Slot}
use Rattle.vortex_scan.specs.declared.worker.Work.{Work}
use Rattle.vortex_scan.proofs.Bagged.{honest_early}
use Rattle.vortex_scan.proofs.Places.{some_at}
use Rattle.vortex_scan_types.specs.Valid.{ValidRequest}
use Rattle.vortex_scan_types.specs.declared.place.RootId.{RootId}
use Rattle.vortex_scan_types.specs.declared.request.ScanRequest.{ScanRequest}
use Rattle.vortex_table_chunks.specs.ChunkOf.{content_of}
use Rattle.vortex_table_chunks.specs.declared.chunk.Chunk.{Chunk}
use Rattle.vortex_table_planner.specs.Morsels.{MorselState, is_fresh, morsel_plan}
use Rattle.vortex_table_planner.specs.Owing.{IsMismatch}
use Rattle.vortex_table_planner.specs.Planners.{PlannerState, planner_permits, planner_plan}
use Rattle.vortex_table_planner.specs.declared.errors.PlanError.{PlanError}
use Rattle.vortex_table_planner.specs.declared.errors.PlanError.TheVariants as plan
use Rattle.vortex_table_types.specs.Described.{IsTable, steps_of}
use Rattle.vortex_table_types.specs.declared.describe.PartitionDesc.{PartitionDesc}
use Rattle.vortex_table_scan.specs.Admitting.{Root}
use Rattle.vortex_table_scan.specs.Causes.{DiffersFrom, FailedAt, HasCause, IsSilent, LiedAt}
use Rattle.vortex_table_scan.specs.Over.{IsSource}
use Rattle.vortex_table_scan.specs.Refusals.{IsPartitionOf, IsRefusal}
use Rattle.vortex_table_scan.specs.State.{TableState}
use Rattle.vortex_table_scan.specs.Taking.{Refuses}
use Rattle.vortex_table_scan.specs.Went.{Went}
use Rattle.vortex_table_scan.specs.declared.errors.ScanError.{ScanError}
use Rattle.vortex_table_scan.specs.declared.errors.ScanError.TheVariants.{OutOfMemory}
use Rattle.vortex_table_scan.proofs.Begun.{item_at, slot_of, works}
use Rattle.vortex_table_scan.proofs.Meeting.{bounded, in_step, orderly}
use Rattle.vortex_table_scan.proofs.Ranked.{other_at}
use Rattle.vortex_table_scan.proofs.Returned.{AtRoot, Ends, at_root, ends_at, root_of, run_begins}

-- a count that rose, or stands at its last number, did so by a later time, and from an earlier one
rose_over : (a b c d : ℕ) → a ≤ b → c ≤ d → b ≤ c → Rose b c → Rose a d
rose_over a b c d early late between rose =
    ⊎_elim (λ less. inl (omega (arith, early, less, late)))
    (λ last. ⊎_elim (λ e. inr (sym e ∙ last)) (λ apart. inl (⊎_elim (λ up. omega (arith, early, between, up)) (λ down. absurd (omega (arith, late, down))) apart)) (cases_order c d)) rose

-- it did or did not
rose_or_not : (a b : ℕ) → Rose a b ⊎ IsHonest a b
rose_or_not a b =
    ⊎_elim (λ less. inl (inl less))
    (λ most. ⊎_elim (λ e. inl (inr e)) (λ (apart : b ≡ 2 ^ 64 - 1 → ⊥). inr (λ rose. ⊎_elim (λ less. omega (arith, less, most)) apart rose)) (cases_eq b (2 ^ 64 - 1))) (cases_lt a b)

some_same : {X : Type 0} (o : Option X) (x y : X) → o ≡ Some x → o ≡ Some y → x ≡ y
some_same o x y e f = cc

module _ {S : Type 0} (source : Ghosts S Chunk) (columns : List ColumnDesc) (partitions : List PartitionDesc) (request : ScanRequest) (steps : ℕ) (old now : List S) (begun ended : RunState (Work PlannerState MorselState) S)
    (w : Went source columns partitions request steps None old now begun ended) (table : IsTable source.outstanding columns partitions old) (valid : ValidRequest columns request) where
  abbrev was : TableState S
  was = record { columns = columns; partitions = partitions; sources = old }

  abbrev is_now : TableState S
  is_now = record { columns = columns; partitions = partitions; sources = now }

  module _ (failure : RunError PlanError) (stops : StopsRun works source (Unit {0}) failure begun ended) where
    -- the partition of a root: its source as the call begins and ends
    record Blame (p root : ℕ) : Type 0 where
      before : S
      after : S
      is : IsSource p old now before after
      at : AtRoot source columns partitions request steps None old now begun ended w p before
      ends : Ends source columns partitions request steps None old now begun ended w stops.sources p before after at
      number : root_of source columns partitions request steps None old now begun ended w p ≡ root

    blame : (p root : ℕ) → IsPartitionOf request (length old) root p → Blame p root
    blame p root of =
        let first = some_at old p of.within in
        let last = other_at old now p first.0 w.long first.1 in
        let is : IsSource p old now first.0 last.0 = record { was = first.1; now = last.1 } in
        let at = at_root source columns partitions request steps None old now begun ended w p first.0 first.1 of.chosen in
        record { before = first.0; after = last.0; is = is; at = at; ends = ends_at source columns partitions request steps None old now begun ended w stops.sources p first.0 last.0 is of.chosen at; number = of.ranked }

    -- the slots of the root are those of the partition's source
    first_is : (p root : ℕ) (b : Blame p root) (slot : Slot S) → slice_get begun.live.slots root ≡ Some slot → slot.source ≡ b.before
    first_is p root b slot there =
        let same : slot ≡ slot_of b.at.it = some_same (slice_get begun.live.slots root) slot (slot_of b.at.it) there (sym (ap (slice_get begun.live.slots) b.number) ∙ b.at.first) in
        ap (λ (s : Slot S). s.source) same ∙ b.at.held

    last_is : (p root : ℕ) (b : Blame p root) (slot : Slot S) → slice_get ended.live.slots root ≡ Some slot → slot.source ≡ b.ends.slot.source
    last_is p root b slot there = ap (λ (s : Slot S). s.source) (some_same (slice_get ended.live.slots root) slot b.ends.slot there (sym (ap (slice_get ended.live.slots) b.number) ∙ b.ends.last))

    rose_home : (count : S → ℕ) (p root : ℕ) (b : Blame p root) (first last : Slot S) → slice_get begun.live.slots root ≡ Some first → slice_get ended.live.slots root ≡ Some last → count b.before ≤ count b.ends.slot.source
        → count b.ends.slot.source ≤ count b.after → Rose (count first.source) (count last.source) → Rose (count b.before) (count b.after)
    rose_home count p root b first last there here early late rose =
        let e = ap count (first_is p root b first there) in
        let f = ap count (last_is p root b last here) in
        rose_over (count b.before) (count b.before) (count b.ends.slot.source) (count b.after) (omega arith) late early (subst (λ n. Rose n (count b.ends.slot.source)) e (subst (λ n. Rose (count first.source) n) f rose))

    failed : (p : ℕ) (root : RootId) → failure ≡ run.Source root → IsPartitionOf request (length old) root.0 p → FailedAt source p was is_now
    failed p root e of =
        let b = blame p root.0 of in
        let f = stops.cause root e in
        record { before = b.before; after = b.after; is = b.is; failed = rose_home source.faults p root.0 b f.before f.after f.there f.now b.ends.kept.faults b.ends.clears.keeps.faults f.fault }

    lied : (p : ℕ) (root : RootId) (owner : IoOwnerId) (number : IoRequestId) → failure ≡ run.Protocol root owner number → IsPartitionOf request (length old) root.0 p
        → LiedAt source p was is_now
    lied p root owner number e of =
        let b = blame p root.0 of in
        let f = stops.unexpected root owner number e (in_step source columns partitions request steps old begun table w.admitted root) in
        record { before = b.before; after = b.after; is = b.is; lied = rose_home source.lies p root.0 b f.before f.after f.there f.now b.ends.kept.lies b.ends.clears.keeps.lies f.lied }

    -- a chunk of the told content differs from its description
    differs : (p : ℕ) (root : RootId) (split column : ℕ) (content : Content Chunk) → failure ≡ run.Planner root (plan.ChunkMismatch split column) → (b : Blame p root.0) → source.content b.before ≡ Some content
        → IsHonest (source.lies b.before) (source.lies b.after) → DiffersFrom source request p split column was
    differs p root split column content e b told honest =
        let between = honest_early (source.lies b.before) (source.lies b.ends.slot.source) (source.lies b.after) b.ends.kept.lies b.ends.clears.keeps.lies honest in
        let here : IsHonestAt source root content begun.live.slots ended.live.slots = record {
          before = slot_of b.at.it;
          there = sym (ap (slice_get begun.live.slots) b.number) ∙ b.at.first;
          told = ap source.content b.at.held ∙ told;
          after = b.ends.slot;
          now = sym (ap (slice_get ended.live.slots) b.number) ∙ b.ends.last;
          honest = subst (λ s. IsHonest (source.lies s) (source.lies b.ends.slot.source)) (sym b.at.held) between;
        } in
        let permitted = stops.permits tt root (plan.ChunkMismatch split column) content e (orderly source columns partitions request steps old begun table w.admitted) here in
        let begins = run_begins source columns partitions request steps None old now begun ended w in
        let at = item_at 0 0 w.admitted.roots permitted.at permitted.item (sym (ap (λ list. slice_get list permitted.at) begins.items) ∙ permitted.there) in
        let number : permitted.at ≡ root_of source columns partitions request steps None old now begun ended w p =
        (let k = at.2 in let same = ap (λ (r : RootId). r.0) permitted.of_root in let n = b.number in omega (arith, k, same, n)) in
        let one : at.0 ≡ b.at.it = some_same (slice_get w.admitted.roots permitted.at) at.0 b.at.it at.1 (ap (slice_get w.admitted.roots) number ∙ b.at.there) in
        let permits : planner_permits at.0.planner content (plan.ChunkMismatch split column) = subst (λ (it : Work PlannerState MorselState). works.permits it content (plan.ChunkMismatch split column)) at.3 permitted.permits in
        let planner = b.at.planner in
        let mismatch : IsMismatch columns b.at.it.partition planner.0 request (content_of content) split column =
        planner.2.permits content split column (subst (λ (it : Root S). planner_permits it.planner content (plan.ChunkMismatch split column)) one permits) in
        record {
          before = b.before;
          was = b.is.was;
          content = content;
          told = told;
          partition = planner.0;
          described = sym (ap (slice_get partitions) b.at.number) ∙ planner.1;
          mismatch = subst (λ n. IsMismatch columns n planner.0 request (content_of content) split column) b.at.number mismatch;
        }

    mismatched : (p : ℕ) (root : RootId) (split column : ℕ) → failure ≡ run.Planner root (plan.ChunkMismatch split column) → IsPartitionOf request (length old) root.0 p
        → LiedAt source p was is_now ⊎ IsSilent source p was ⊎ DiffersFrom source request p split column was
    mismatched p root split column e of =
        let b = blame p root.0 of in
        ⊎_elim (λ rose. inl (record { before = b.before; after = b.after; is = b.is; lied = rose })) (λ honest. inr (by b honest (source.content b.before) refl)) (rose_or_not (source.lies b.before) (source.lies b.after))
      where
        by : (b : Blame p root.0) → IsHonest (source.lies b.before) (source.lies b.after) → (told : Option (Content Chunk)) → source.content b.before ≡ told → IsSilent source p was ⊎ DiffersFrom source request p split column was
        by b honest None none = inl (record { before = b.before; was = b.is.was; untold = none })
        by b honest (Some content) some = inr (differs p root split column content e b some honest)

    -- too few steps
    limited : failure ≡ run.StepLimit → steps < steps_of partitions
    limited e =
        let begins = run_begins source columns partitions request steps None old now begun ended w in
        let less = (stops.disorder (orderly source columns partitions request steps old begun table w.admitted)).step_limit e in
        let most = bounded source columns partitions request steps old begun table w.admitted in
        let limit = begins.limit in
        let visits = begins.visits in
        omega (arith, less, most, limit, visits)

  -- each refusal that a failure of the run is
  named_cause : (failure : RunError PlanError) (why : ScanError) → StopsRun works source (Unit {0}) failure begun ended → IsRefusal request (length old) failure why → HasCause source request steps was is_now why
  named_cause run.RunFailed why s r = absurd r
  named_cause (run.Source root) why s r = subst (HasCause source request steps was is_now) (sym r.2) (valid, failed (run.Source root) s r.0 root refl r.1)
  named_cause (run.Protocol root owner number) why s r = subst (HasCause source request steps was is_now) (sym r.2) (valid, lied (run.Protocol root owner number) s r.0 root owner number refl r.1)
  named_cause run.EmptyBatch why s r = absurd r
  named_cause run.EmptyIo why s r = absurd r
  named_cause run.Republished why s r = absurd r
  named_cause run.WaitsForNothing why s r = absurd r
  named_cause (run.Planner root (plan.ChunkMismatch split column)) why s r =
      subst (HasCause source request steps was is_now) (sym r.2) (valid, mismatched (run.Planner root (plan.ChunkMismatch split column)) s r.0 root split column refl r.1)
  named_cause (run.Planner root plan.OutOfMemory) why s r = subst (HasCause source request steps was is_now) (sym r) tt
  named_cause run.StepLimit why s r = subst (HasCause source request steps was is_now) (sym r) (valid, limited run.StepLimit s refl)
  named_cause run.IdsExhausted why s r = absurd r
  named_cause run.NoLiveRoot why s r = absurd r
  named_cause run.OutOfMemory why s r = subst (HasCause source request steps was is_now) (sym r) tt

  -- each refusal
  pub has_cause : (why : ScanError) → Refuses works source (Unit {0}) (Unit {0}) (work_seats planner_plan morsel_plan is_fresh) request (length old) why begun ended → HasCause source request steps was is_now why
  has_cause why r = ⊎_elim (λ f. named_cause f.0 why f.1 f.2) (λ memory. subst (HasCause source request steps was is_now) (sym memory) tt) r.cause

-- want of memory needs no cause
pub memory_cause : {S : Type 0} (source : Ghosts S Chunk) (request : ScanRequest) (steps : ℕ) (old now : TableState S) (why : ScanError) → why ≡ OutOfMemory → HasCause source request steps old now why
memory_cause source request steps old now why is = subst (HasCause source request steps old now) (sym is) tt
