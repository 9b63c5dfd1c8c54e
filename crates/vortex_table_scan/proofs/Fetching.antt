-- What a scan adds to the journals of its sources, and which sources surely stand.
use Rattle.std.proofs.Common.{◌≡◌, ◌≢◌, ◌∙◌, sym, ap, subst, refl, ℕ, zero, suc, ◌+◌, ◌<◌, ◌≤◌, List, [], ◌∷◌, ◌++◌, Bool, true, false, eqb, length, map, Option, None, Some, arith, ⊎_elim}
use Rattle.std.specs.Prelude.{Any, Contains, IsSome, count_by, flat_map, is_some, option_and_then, slice_get, slice_index_or}
use Rattle.std.specs.List.{AllByRecursion, AllZip, list_any}
use Rattle.std.proofs.lemmas.List.{append-nil, append_cancel_left, length-map}
use Rattle.vortex_array_types.specs.declared.column.ColumnDesc.{ColumnDesc}
use Rattle.vortex_io.specs.Source.{Content, has_target}
use Rattle.vortex_io.specs.declared.request.IoTarget.{IoTarget}
use Rattle.vortex_io.specs.declared.request.IoTarget.TheVariants as target
use Rattle.vortex_io.specs.declared.request.JournalEntry.{JournalEntry}
use Rattle.vortex_io.specs.declared.request.JournalEntry.TheVariants.{Submitted, Waited}
use Rattle.vortex_io.specs.declared.source.IoSource.{Ghosts}
use Rattle.vortex_scan.specs.Asking.{root_at}
use Rattle.vortex_scan.specs.Plans.{has_targets}
use Rattle.vortex_scan.specs.RunState.{RunState}
use Rattle.vortex_scan.specs.Seats.{Adds, IsFetched, Seat, SomeByRecursion, fetched_in, is_wait, planned_seats, seats, targets_of, work_seats}
use Rattle.vortex_scan.specs.Sources.{KeepsEach}
use Rattle.vortex_scan.specs.declared.worker.Work.{Work}
use Rattle.vortex_scan.proofs.Places.{each_append, some_at}
use Rattle.vortex_scan.proofs.Tallies.{count_join}
use Rattle.vortex_scan_types.specs.declared.request.ScanRequest.{ScanRequest}
use Rattle.vortex_table_chunks.specs.ChunkOf.{chunk_column, content_of}
use Rattle.vortex_table_chunks.specs.declared.chunk.Chunk.{Chunk}
use Rattle.vortex_table_planner.specs.Live.{chunks_of, live_splits, morsels_of, needed_columns}
use Rattle.vortex_table_planner.specs.Morsels.{MorselState, is_fresh, morsel_plan}
use Rattle.vortex_table_planner.specs.Planners.{PlannerState, planner_plan}
use Rattle.vortex_table_planner.specs.declared.live.LiveSplit.{LiveSplit}
use Rattle.vortex_table_types.specs.Described.{AllFit, FitsColumns, IsChunkOf, IsTable}
use Rattle.vortex_table_types.specs.Table.{FitsChunk, FitsPartition}
use Rattle.vortex_table_types.specs.declared.describe.PartitionDesc.{PartitionDesc}
use Rattle.vortex_table_types.specs.declared.describe.SplitDesc.{SplitDesc}
use Rattle.vortex_table_types.proofs.Rising.{Each, each_at}
use Rattle.vortex_table_types.proofs.Whole.{all_each}
use Rattle.vortex_table_types.proofs.Zipped.{zipped-long}
use Rattle.vortex_table_scan.specs.Journals.{FetchesOnce, IsOfPlan, KeepJournals, before_wait, is_chunk, is_of_split}
use Rattle.vortex_table_scan.specs.Over.{SurelyStand}
use Rattle.vortex_table_scan.specs.Rounds.{LeavesPlaces}
use Rattle.vortex_table_scan.specs.Went.{Went}
use Rattle.vortex_table_scan.proofs.Begun.{seats_of, slot_of}
use Rattle.vortex_table_scan.proofs.PlanSeats.{chunks_once, live_below, live_rises, needed_below, needed_rises, plan_seats, seat_each, seats_on, targets_on}
use Rattle.vortex_table_scan.proofs.Ranked.{mapped_at}
use Rattle.vortex_table_scan.proofs.Returned.{AtRoot, at_root, ends_at, is_in, kept_out, root_of, run_begins, same_some}
use Rattle.vortex_table_scan.proofs.Tallied.{both_true, count_more, count_other, count_own, own_number, same_number}

-- ---- lists

first_in : {X : Type 0} (x : X) (xs : List X) → Contains (x ∷ xs) x
first_in x xs = (0, omega arith, refl)

later_in : {X : Type 0} (x y : X) (xs : List X) → Contains xs y → Contains (x ∷ xs) y
later_in x y xs c = (suc c.0, omega (arith, c.1), c.2)

any_more : {X : Type 0} (P : X → Type 0) (x : X) (xs : List X) → Any P xs → Any P (x ∷ xs)
any_more P x xs a = (suc a.0, a.1, omega (arith, a.2), a.3, a.4)

any_first : {X : Type 0} (P : X → Type 0) (x : X) (xs : List X) → P x → Any P (x ∷ xs)
any_first P x xs p = (0, x, omega arith, refl, p)

-- ---- what is fetched is of the plan

module _ (needed : List ℕ) where
  in_split : (split column s : ℕ) (list : List ℕ) → 1 ≤ count_by (is_chunk split column) (chunks_of s list) → (s ≡ split) × Contains list column
  in_split split column s [] some = absurd (omega (arith, some))
  in_split split column s (c ∷ list) some = by (is_chunk split column (target.Chunk s c)) refl (in_split split column s list)
    where
      by : (b : Bool) → is_chunk split column (target.Chunk s c) ≡ b → (1 ≤ count_by (is_chunk split column) (chunks_of s list) → (s ≡ split) × Contains list column) → (s ≡ split) × Contains (c ∷ list) column
      by true e rest =
          let parts = both_true (eqb s split) (eqb c column) e in
          (same_number s split parts.0, subst (λ d. Contains (c ∷ list) d) (same_number c column parts.1) (first_in c list))
      by false e rest =
          let counted = count_other (is_chunk split column) (target.Chunk s c) (chunks_of s list) e in
          let r = rest (omega (arith, some, counted)) in
          (r.0, later_in c column list r.1)

  in_plan : (split column : ℕ) (live : List LiveSplit) → 1 ≤ count_by (is_chunk split column) (flat_map (λ (l : LiveSplit). chunks_of l.split needed) live) → Any (λ (l : LiveSplit). l.split ≡ split) live × Contains needed column
  in_plan split column [] some = absurd (omega (arith, some))
  in_plan split column (l ∷ live) some = by (count_by (is_chunk split column) (chunks_of l.split needed)) refl (in_plan split column live)
    where
      both : count_by (is_chunk split column) (chunks_of l.split needed ++ flat_map (λ (m : LiveSplit). chunks_of m.split needed) live)
          ≡ count_by (is_chunk split column) (chunks_of l.split needed) + count_by (is_chunk split column) (flat_map (λ (m : LiveSplit). chunks_of m.split needed) live)
      both = count_join (is_chunk split column) (chunks_of l.split needed) (flat_map (λ (m : LiveSplit). chunks_of m.split needed) live)

      by : (n : ℕ) → count_by (is_chunk split column) (chunks_of l.split needed) ≡ n
          → (1 ≤ count_by (is_chunk split column) (flat_map (λ (m : LiveSplit). chunks_of m.split needed) live) → Any (λ (m : LiveSplit). m.split ≡ split) live × Contains needed column)
          → Any (λ (m : LiveSplit). m.split ≡ split) (l ∷ live) × Contains needed column
      by zero e rest = let r = rest (omega (arith, some, both, e)) in (any_more (λ (m : LiveSplit). m.split ≡ split) l live r.0, r.1)
      by (suc n) e rest = let h = in_split split column l.split needed (omega (arith, e)) in (any_first (λ (m : LiveSplit). m.split ≡ split) l live h.0, h.1)

  -- the size is no target of a plan
  is_size : IoTarget → Bool
  is_size (target.Chunk split column) = false
  is_size target.Size = true

  no_size_here : (s : ℕ) (list : List ℕ) → count_by is_size (chunks_of s list) ≡ 0
  unfolding is_size
  no_size_here s [] = refl
  no_size_here s (c ∷ list) = count_other is_size (target.Chunk s c) (chunks_of s list) refl ∙ no_size_here s list

  no_size : (live : List LiveSplit) → count_by is_size (flat_map (λ (l : LiveSplit). chunks_of l.split needed) live) ≡ 0
  no_size [] = refl
  no_size (l ∷ live) =
      let both = count_join is_size (chunks_of l.split needed) (flat_map (λ (m : LiveSplit). chunks_of m.split needed) live) in
      omega (arith, both, no_size_here l.split needed, no_size live)

  -- where no target is fetched oftener than the plan has it, each is of the plan
  all_of_plan : (live : List LiveSplit) (fetches : List IoTarget) → ((test : IoTarget → Bool) → count_by test fetches ≤ count_by test (flat_map (λ (l : LiveSplit). chunks_of l.split needed) live)) → Each (IsOfPlan live needed) fetches
  unfolding is_size
  all_of_plan live [] spent = tt
  all_of_plan live (target.Chunk split column ∷ fetches) spent =
      let own : is_chunk split column (target.Chunk split column) ≡ true = rw (own_number split) (own_number column) in
      let counted = count_own (is_chunk split column) (target.Chunk split column) fetches own in
      (in_plan split column live (omega (arith, counted, spent (is_chunk split column))), all_of_plan live fetches (λ test. omega (arith, spent test, count_more test (target.Chunk split column) fetches)))
  all_of_plan live (target.Size ∷ fetches) spent =
      let counted = count_own is_size target.Size fetches refl in
      let none = no_size live in
      absurd (omega (arith, counted, spent is_size, none))

  -- ---- something of each split before the first wait

  fetched_of : (s : ℕ) (list : List ℕ) (fetches : List IoTarget) → IsFetched (chunks_of s list) fetches → Any (λ fetched. is_of_split s fetched ≡ true) fetches
  fetched_of s [] fetches f = absurd f
  fetched_of s (c ∷ list) fetches f = ⊎_elim (λ here. found fetches here) (λ later. fetched_of s list fetches later) f
    where
      found : (rest : List IoTarget) → SomeByRecursion (λ fetch. fetch ≡ target.Chunk s c) rest → Any (λ fetched. is_of_split s fetched ≡ true) rest
      found [] g = absurd g
      found (x ∷ rest) g =
          ⊎_elim (λ is. any_first (λ fetched. is_of_split s fetched ≡ true) x rest (ap (is_of_split s) is ∙ own_number s)) (λ more. any_more (λ fetched. is_of_split s fetched ≡ true) x rest (found rest more)) g

  some_targets : (s : ℕ) → needed ≢ [] → has_targets (chunks_of s needed) ≡ true
  some_targets s ne = by needed refl
    where
      by : (list : List ℕ) → needed ≡ list → has_targets (chunks_of s list) ≡ true
      by [] e = absurd (ne e)
      by (c ∷ list) e = refl

waits_there : (entries : List JournalEntry) (k : ℕ) (d : JournalEntry) → k < length entries → slice_index_or entries k d ≡ Waited → list_any is_wait entries ≡ true
waits_there [] k d less e = absurd (omega (arith, less))
waits_there (Waited ∷ entries) k d less e = refl
waits_there (Submitted owner request ∷ entries) zero d less e = absurd (cc)
waits_there (Submitted owner request ∷ entries) (suc k) d less e = waits_there entries k d (omega (arith, less)) e

nothing_fetched : (live : List LiveSplit) (needed : List ℕ) → FetchesOnce live needed []
nothing_fetched live needed = record {
  once = λ split column. omega arith;
  planned = λ k d less. absurd (omega (arith, less));
  first = λ waits. absurd (let less = waits.1 in omega (arith, less));
}

-- ---- a content that fits has all chunks of the plan

-- an element at a place of one list has one at that of another as long
wide_at : {A B : Type 0} (R : A → B → Type 0) (xs : List A) (ys : List B) (k : ℕ) → AllZip R xs ys → k < length xs → (x : A) × (y : B) × (slice_get ys k ≡ Some y) × R x y × (slice_get xs k ≡ Some x)
wide_at R [] ys k z less = absurd (omega (arith, less))
wide_at R (x ∷ xs) [] k z less = absurd z
wide_at R (x ∷ xs) (y ∷ ys) zero z less = (x, y, refl, z.0, refl)
wide_at R (x ∷ xs) (y ∷ ys) (suc k) z less = wide_at R xs ys k z.1 (omega (arith, less))

each_there : {X : Type 0} (P : X → Type 0) (xs : List X) (k : ℕ) (x : X) → Each P xs → slice_get xs k ≡ Some x → P x
each_there P [] k x all e = absurd (cc)
each_there P (y ∷ xs) zero x all e = let same : y ≡ x = (cc) in subst P same all.0
each_there P (y ∷ xs) (suc k) x all e = each_there P xs k x all.1 e

has_chunk : (columns : List ColumnDesc) (partition : PartitionDesc) (content : Content Chunk) → AllFit columns partition → FitsPartition partition (content_of content) → (split column : ℕ) → split < length partition.splits → column < length columns
    → has_target content (target.Chunk split column) ≡ true
has_chunk columns partition content all fits split column less less' =
    let at = wide_at (λ (s : SplitDesc) chunks. AllZip FitsChunk s.chunks chunks) partition.splits (content_of content) split fits less in
    let s = at.0 in
    let fit : FitsColumns columns s = each_there (FitsColumns columns) partition.splits split s (all_each (FitsColumns columns) partition.splits all) at.4 in
    let held = mapped_at (map chunk_column) content split at.1 at.2 in
    let wide : length held.0 ≡ length columns = sym (length-map held.0 chunk_column) ∙ ap length held.2 ∙ sym (zipped-long FitsChunk s.chunks at.1 at.3) ∙ sym (zipped-long (IsChunkOf s) columns s.chunks fit) in
    let there = some_at held.0 column (omega (arith, less', wide)) in
    ap (λ (o : Option (List Chunk)). is_some (option_and_then (λ (chunks : List Chunk). slice_get chunks column) o)) held.1 ∙ ap (λ (o : Option Chunk). is_some o) there.1

has_chunks : (columns : List ColumnDesc) (partition : PartitionDesc) (content : Content Chunk) → AllFit columns partition → FitsPartition partition (content_of content) → (split : ℕ) → split < length partition.splits → (list : List ℕ) → Each (λ c. c < length columns) list
    → AllByRecursion (λ t. has_target content t ≡ true) (chunks_of split list)
has_chunks columns partition content all fits split less [] e = tt
has_chunks columns partition content all fits split less (c ∷ list) e = (has_chunk columns partition content all fits split c less e.0, has_chunks columns partition content all fits split less list e.1)

has_plan : (columns : List ColumnDesc) (partition : PartitionDesc) (content : Content Chunk) → AllFit columns partition → FitsPartition partition (content_of content) → (needed : List ℕ) → Each (λ c. c < length columns) needed → (live : List LiveSplit)
    → Each (λ l. l.split < length partition.splits) live → AllByRecursion (λ t. has_target content t ≡ true) (flat_map (λ (l : LiveSplit). chunks_of l.split needed) live)
has_plan columns partition content all fits needed e [] f = tt
has_plan columns partition content all fits needed e (l ∷ live) f =
    each_append (λ t. has_target content t ≡ true) (chunks_of l.split needed) (flat_map (λ (m : LiveSplit). chunks_of m.split needed) live)
    (has_chunks columns partition content all fits l.split f.0 needed e) (has_plan columns partition content all fits needed e live f.1)

-- ---- the whole scan

is_told : {X : Type 0} (o : Option X) (x : X) → o ≡ Some x → IsSome o
is_told o x e = ap is_some e

module _ {S : Type 0} (source : Ghosts S Chunk) (columns : List ColumnDesc) (partitions : List PartitionDesc) (request : ScanRequest) (steps : ℕ) (stopped : Option ℕ) (old now : List S)
    (begun ended : RunState (Work PlannerState MorselState) S) (w : Went source columns partitions request steps stopped old now begun ended) (keeps : KeepsEach source begun.live.slots ended.live.slots)
    (leaves : LeavesPlaces source (work_seats planner_plan morsel_plan is_fresh) begun.live ended.live) where
  -- the seats of a root are those of its partition's plan
  seats_there : (p : ℕ) (before : S) (partition : PartitionDesc) → slice_get partitions p ≡ Some partition → (a : AtRoot source columns partitions request steps stopped old now begun ended w p before)
      → seats (work_seats planner_plan morsel_plan is_fresh) (root_at (root_of source columns partitions request steps stopped old now begun ended w p)) None begun.live.items
      ≡ seats_on (needed_columns columns request) (root_of source columns partitions request steps stopped old now begun ended w p ∷ []) 0 (live_splits request p partition)
  seats_there p before partition there a =
      let root : ℕ = root_of source columns partitions request steps stopped old now begun ended w p in
      let begins = run_begins source columns partitions request steps stopped old now begun ended w in
      let needed : List ℕ = needed_columns columns request in
      let planner = a.planner in
      let same : planner.0 ≡ partition = same_some planner.0 partition (sym planner.1 ∙ ap (slice_get partitions) a.number ∙ there) in
      let plan : planner_plan a.it.planner None ≡ morsels_of needed (live_splits request p partition) =
      planner.2.plan None ∙ ap (λ n. morsels_of needed (live_splits request n planner.0)) a.number ∙ ap (λ d. morsels_of needed (live_splits request p d)) same in
      ap (λ list. seats (work_seats planner_plan morsel_plan is_fresh) (root_at root) None list) begins.items
      ∙ seats_of (root_at root) 0 0 w.admitted.roots root a.it (omega arith) a.there
      ∙ ap (λ list. planned_seats (root ∷ []) 0 list list) plan
      ∙ plan_seats needed (root ∷ []) 0 (live_splits request p partition)

  -- what is added to a told journal
  pub journals_kept : KeepJournals source request (record { columns = columns; partitions = partitions; sources = old }) (record { columns = columns; partitions = partitions; sources = now })
  journals_kept p partition before after journal added there is told grew = by (is_in source columns partitions request steps stopped old now begun ended w p) refl
    where
      by : (b : Bool) → is_in source columns partitions request steps stopped old now begun ended w p ≡ b → FetchesOnce (live_splits request p partition) (needed_columns columns request) added
      by false outside =
          let same = kept_out source columns partitions request steps stopped old now begun ended w p before after is outside in
          let none : journal ++ added ≡ journal ++ [] = same_some (journal ++ added) journal (sym grew ∙ ap source.journal same ∙ told) ∙ sym (append-nil journal) in
          subst (λ list. FetchesOnce (live_splits request p partition) (needed_columns columns request) list) (sym (append_cancel_left journal added [] none)) (nothing_fetched (live_splits request p partition) (needed_columns columns request))
      by true inside =
          let live : List LiveSplit = live_splits request p partition in
          let needed : List ℕ = needed_columns columns request in
          let root : ℕ = root_of source columns partitions request steps stopped old now begun ended w p in
          let a = at_root source columns partitions request steps stopped old now begun ended w p before is.was inside in
          let e = ends_at source columns partitions request steps stopped old now begun ended w keeps p before after is inside a in
          let adds : Adds source (root_at root) added begun.live.slots ended.live.slots = record {
            before = slot_of a.it;
            there = a.first;
            journal = journal;
            told = ap source.journal a.held ∙ told;
            after = e.slot;
            now = e.last;
            grew = sym e.clears.journal ∙ grew;
          } in
          let here = seats_there p before partition there a in
          let targets : targets_of (seats (work_seats planner_plan morsel_plan is_fresh) (root_at root) None begun.live.items) ≡ flat_map (λ (l : LiveSplit). chunks_of l.split needed) live = ap targets_of here ∙ targets_on needed (root ∷ []) 0 live in
          let spent : (test : IoTarget → Bool) → count_by test (fetched_in added) ≤ count_by test (flat_map (λ (l : LiveSplit). chunks_of l.split needed) live) =
          λ test. (let h = leaves.spent (root_at root) added adds test in let same = ap (count_by test) targets in omega (arith, h, same)) in
          record {
            once = λ split column. (let one = chunks_once needed (needed_rises columns request) split column live (live_rises request p partition) in let h = spent (is_chunk split column) in omega (arith, one, h));
            planned = each_at (IsOfPlan live needed) (fetched_in added) (all_of_plan needed live (fetched_in added) spent);
            first = λ waits ne.
                let early = leaves.early (root_at root) added adds (waits_there added waits.0 Waited waits.1 waits.2) in
                let on = subst (λ list. AllByRecursion (λ (seat : Seat). seat.fresh ≡ true → IsFetched seat.over_none (fetched_in (before_wait added))) list) here early in
                each_at (λ (l : LiveSplit). Any (λ fetched. is_of_split l.split fetched ≡ true) (fetched_in (before_wait added))) live
                (seat_each needed (root ∷ []) (λ seat. seat.fresh ≡ true → IsFetched seat.over_none (fetched_in (before_wait added))) (λ (l : LiveSplit). Any (λ fetched. is_of_split l.split fetched ≡ true) (fetched_in (before_wait added)))
                (λ next l f. fetched_of needed l.split needed (fetched_in (before_wait added)) (f (some_targets needed l.split ne))) 0 live on);
          }

  -- no source that is sure and tells a content which fits fails
  pub surely_stand : IsTable source.outstanding columns partitions old → SurelyStand source partitions old now
  surely_stand table p partition before after content there is sure told fits = by (is_in source columns partitions request steps stopped old now begun ended w p) refl
    where
      by : (b : Bool) → is_in source columns partitions request steps stopped old now begun ended w p ≡ b → source.faults after ≡ source.faults before
      by false outside = ap source.faults (kept_out source columns partitions request steps stopped old now begun ended w p before after is outside)
      by true inside =
          let live : List LiveSplit = live_splits request p partition in
          let needed : List ℕ = needed_columns columns request in
          let root : ℕ = root_of source columns partitions request steps stopped old now begun ended w p in
          let a = at_root source columns partitions request steps stopped old now begun ended w p before is.was inside in
          let e = ends_at source columns partitions request steps stopped old now begun ended w keeps p before after is inside a in
          let fit : AllFit columns partition = each_there (AllFit columns) partitions p partition (all_each (AllFit columns) partitions table.described.fits) there in
          let has = has_plan columns partition content fit fits needed (needed_below columns request) live (live_below request p partition) in
          let targets : targets_of (seats (work_seats planner_plan morsel_plan is_fresh) (root_at root) None begun.live.items) ≡ flat_map (λ (l : LiveSplit). chunks_of l.split needed) live = ap targets_of (seats_there p before partition there a) ∙ targets_on needed (root ∷ []) 0 live in
          let run : source.faults e.slot.source ≡ source.faults a.it.source =
          leaves.sure (root_at root) (slot_of a.it) e.slot content a.first e.last (ap source.sure a.held ∙ sure) (ap source.content a.held ∙ told)
          (subst (λ list. AllByRecursion (λ t. has_target content t ≡ true) list) (sym targets) has) in
          let cleared : source.faults after ≡ source.faults e.slot.source =
          e.clears.surely (e.kept.sure ∙ sure) (is_told (source.content e.slot.source) content (e.kept.content ∙ told)) in
          cleared ∙ run ∙ ap source.faults a.held
