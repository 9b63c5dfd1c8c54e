-- A run as it begins, with the roots that were admitted.
use Rattle.std.proofs.Common.{◌≡◌, ◌∙◌, sym, ap, subst, refl, ℕ, zero, suc, ◌+◌, ◌*◌, ◌<◌, ◌≤◌, List, [], ◌∷◌, ◌++◌, Bool, true, false, cond, eqb, length, map, filter, Option, None, Some, arith, inl, inr, ⊎_elim}
use Rattle.std.specs.Prelude.{◌⊎◌, count_by, option_map, slice_get, sum_by}
use Rattle.std.specs.List.{AllByRecursion, AllZip, range_with_len}
use Rattle.std.proofs.lemmas.List.{append-nil, append_assoc, map-append}
use Rattle.std.proofs.lemmas.List.Sums.{sum_by-cons}
use Rattle.std.proofs.lemmas.Option.{slice_get-map}
use Rattle.vortex_array_types.specs.declared.column.ColumnDesc.{ColumnDesc}
use Rattle.vortex_io.specs.Source.{Content}
use Rattle.vortex_io.specs.declared.source.IoSource.{Ghosts}
use Rattle.vortex_scan.specs.Bag.{owes, work_owed}
use Rattle.vortex_scan.specs.Fits.{AreRising, ItemFits, LiveFits}
use Rattle.vortex_scan.specs.InOrder.{IsOrderly, ItemIsOrderly, as_fetches, work_left}
use Rattle.vortex_scan.specs.InStep.{IsInStep, kept_of}
use Rattle.vortex_scan.specs.Owed.{Entry}
use Rattle.vortex_scan.specs.RunState.{RunState, is_of_root, new_run}
use Rattle.vortex_scan.specs.Seats.{planned_seats, seats, work_seats}
use Rattle.vortex_scan.specs.Steps.{admitted, root_item}
use Rattle.vortex_scan.specs.declared.item.Item.{Item}
use Rattle.vortex_scan.specs.declared.item.Slot.{Slot}
use Rattle.vortex_scan.specs.declared.worker.Work.{Work}
use Rattle.vortex_scan.specs.declared.worker.Work.TheVariants as work
use Rattle.vortex_scan.specs.declared.worker.Worker.{Ghosts as Works}
use Rattle.vortex_scan.proofs.Driven.{works_of}
use Rattle.vortex_scan.proofs.Tallies.{count_join, none_sum}
use Rattle.vortex_scan_types.specs.declared.batch.WorkScope.{WorkScope}
use Rattle.vortex_scan_types.specs.declared.place.RootId.{RootId}
use Rattle.vortex_scan_types.specs.declared.request.ScanRequest.{ScanRequest}
use Rattle.vortex_table_chunks.specs.ChunkOf.{content_of}
use Rattle.vortex_table_chunks.specs.declared.chunk.Chunk.{Chunk}
use Rattle.vortex_table_planner.specs.Morsels.{IsSound, MorselComputes, MorselState, MorselTakes, is_fresh, morsel_asked, morsel_names, morsel_owed, morsel_permits, morsel_plan, morsel_state, morsel_work}
use Rattle.vortex_table_planner.specs.Owing.{entry_of}
use Rattle.vortex_table_planner.specs.Planners.{PlannerComputes, PlannerState, PlannerTakes, planner_asked, planner_names, planner_orderly, planner_owed, planner_permits, planner_plan, planner_state, planner_work}
use Rattle.vortex_table_planner.specs.declared.errors.PlanError.{PlanError}
use Rattle.vortex_table_types.specs.Answers.{Given}
use Rattle.vortex_table_types.specs.Chosen.{is_partition_chosen}
use Rattle.vortex_table_types.specs.Described.{split_count}
use Rattle.vortex_table_types.specs.Table.{FitsPartition}
use Rattle.vortex_table_types.specs.declared.describe.PartitionDesc.{PartitionDesc}
use Rattle.vortex_table_scan.specs.Admitting.{Root, admits, root_scope}
use Rattle.vortex_table_scan.specs.Planned.{IsPlannerAt, IsPlannerOf}
use Rattle.vortex_table_scan.proofs.InTurn.{part_turn, part_unchosen, parts_turn}
use Rattle.vortex_table_scan.proofs.Ranked.{counted_first, counted_other}

-- what planners and morsels of tables do
abbrev pub works : Works (Work PlannerState MorselState) Chunk PlanError
works = works_of planner_state morsel_state PlannerComputes MorselComputes PlannerTakes MorselTakes planner_names morsel_names planner_orderly IsSound planner_asked morsel_asked planner_work morsel_work planner_permits morsel_permits

-- what they owe
abbrev pub owed : WorkScope → Work PlannerState MorselState → Content Chunk → List Entry
owed = work_owed planner_owed morsel_owed

module _ {S : Type 0} where
  -- the items of roots, of which the first has these numbers
  abbrev pub items_of : ℕ → ℕ → List (Root S) → List (Item (Work PlannerState MorselState))
  items_of root owner [] = []
  items_of root owner (it ∷ roots) = root_item root owner (root_scope it.partition) (work.Planner it.planner) ∷ items_of (root + 1) (owner + 1) roots

  -- and their sources, all live
  abbrev pub slot_of : Root S → Slot S
  slot_of it = record { source = it.source; live = true }

  -- a run begins with these roots and nothing else
  pub record Begins (steps : ℕ) (roots : List (Root S)) (run : RunState (Work PlannerState MorselState) S) : Type 0 where
    pub items : run.live.items ≡ items_of 0 0 roots
    pub slots : run.live.slots ≡ map slot_of roots
    pub owners : run.live.next_owner ≡ length roots
    pub visits : run.visits ≡ 0
    pub limit : run.limit ≡ steps
    pub well : run.failed ≡ false

  abbrev next : RunState (Work PlannerState MorselState) S → Root S → RunState (Work PlannerState MorselState) S
  next run it = admitted run (work.Planner it.planner) (root_scope it.partition) it.source

  items_admitted : (run : RunState (Work PlannerState MorselState) S) (roots : List (Root S)) → (admits run roots).live.items ≡ run.live.items ++ items_of run.next_root run.live.next_owner roots
  items_admitted run [] = sym (append-nil run.live.items)
  items_admitted run (it ∷ roots) =
      items_admitted (next run it) roots
      ∙ append_assoc run.live.items (root_item run.next_root run.live.next_owner (root_scope it.partition) (work.Planner it.planner) ∷ []) (items_of (run.next_root + 1) (run.live.next_owner + 1) roots)

  slots_admitted : (run : RunState (Work PlannerState MorselState) S) (roots : List (Root S)) → (admits run roots).live.slots ≡ run.live.slots ++ map slot_of roots
  slots_admitted run [] = sym (append-nil run.live.slots)
  slots_admitted run (it ∷ roots) = slots_admitted (next run it) roots ∙ append_assoc run.live.slots (slot_of it ∷ []) (map slot_of roots)

  owners_admitted : (run : RunState (Work PlannerState MorselState) S) (roots : List (Root S)) → (admits run roots).live.next_owner ≡ run.live.next_owner + length roots
  owners_admitted run [] = omega arith
  owners_admitted run (it ∷ roots) = owners_admitted (next run it) roots ∙ omega arith

  others_admitted : (run : RunState (Work PlannerState MorselState) S) (roots : List (Root S)) → ((admits run roots).visits ≡ run.visits) × ((admits run roots).limit ≡ run.limit) × ((admits run roots).failed ≡ run.failed)
  others_admitted run [] = (refl, refl, refl)
  others_admitted run (it ∷ roots) = others_admitted (next run it) roots

  pub begins : (steps : ℕ) (roots : List (Root S)) → Begins steps roots (admits (record new_run { limit = steps }) roots)
  begins steps roots =
      let first : RunState (Work PlannerState MorselState) S = record new_run { limit = steps } in
      let o = others_admitted first roots in
      record { items = items_admitted first roots; slots = slots_admitted first roots; owners = owners_admitted first roots ∙ omega arith; visits = o.0; limit = o.1; well = o.2 }

  -- ---- single items

  -- the item at a place is that of the root there
  pub item_at : (root owner : ℕ) (roots : List (Root S)) (k : ℕ) (item : Item (Work PlannerState MorselState)) → slice_get (items_of root owner roots) k ≡ Some item
      → (it : Root S) × (slice_get roots k ≡ Some it) × (item.root.0 ≡ root + k) × (item.work ≡ work.Planner it.planner)
  item_at root owner [] k item e = absurd (cc)
  item_at root owner (it ∷ roots) zero item e =
      let is : root_item root owner (root_scope it.partition) (work.Planner it.planner) ≡ item = (cc) in
      (it, refl, sym (ap (λ (i : Item (Work PlannerState MorselState)). i.root.0) is) ∙ omega arith, sym (ap (λ (i : Item (Work PlannerState MorselState)). i.work) is))
  item_at root owner (it ∷ roots) (suc k) item e = let rest = item_at (root + 1) (owner + 1) roots k item e in (rest.0, rest.1, rest.2 ∙ omega arith, rest.3)

  -- what holds of the item of each root
  each_item : (P : Root S → Type 0) (Q : Item (Work PlannerState MorselState) → Type 0) → ((root owner : ℕ) (it : Root S) → P it → Q (root_item root owner (root_scope it.partition) (work.Planner it.planner))) → (root owner : ℕ) (roots : List (Root S)) → AllByRecursion P roots
      → AllByRecursion Q (items_of root owner roots)
  each_item P Q f root owner [] all = tt
  each_item P Q f root owner (it ∷ roots) all = (f root owner it all.0, each_item P Q f (root + 1) (owner + 1) roots all.1)

  module _ (source : Ghosts S Chunk) where
    fit_items : (slots : List (Slot S)) (owners root owner : ℕ) (roots : List (Root S)) → ((k : ℕ) (it : Root S) → slice_get roots k ≡ Some it → slice_get slots (root + k) ≡ Some (slot_of it)) → owner + length roots ≤ owners
        → AllByRecursion (ItemFits source slots owners) (items_of root owner roots)
    fit_items slots owners root owner [] there most = tt
    fit_items slots owners root owner (it ∷ roots) there most =
        let here : root + 0 ≡ root = omega arith in (
          record {
            slot = slot_of it;
            there = sym (ap (slice_get slots) here) ∙ there 0 it refl;
            live = refl;
            kept = tt;
            own = tt;
            distinct = refl;
            owner = omega (arith, most);
            next = omega arith;
            parked = λ e. absurd (cc);
          },
          fit_items slots owners (root + 1) (owner + 1) roots (λ k other e. let on : root + 1 + k ≡ root + suc k = omega arith in ap (slice_get slots) on ∙ there (suc k) other e) (omega (arith, most)),
        )

  later_owners : (least root owner : ℕ) (roots : List (Root S)) → least < owner → AllByRecursion (λ (other : Item (Work PlannerState MorselState)). least < other.owner.0) (items_of root owner roots)
  later_owners least root owner [] less = tt
  later_owners least root owner (it ∷ roots) less = (less, later_owners least (root + 1) (owner + 1) roots (omega (arith, less)))

  rising_items : (root owner : ℕ) (roots : List (Root S)) → AreRising (items_of root owner roots)
  rising_items root owner [] = tt
  rising_items root owner (it ∷ roots) = (later_owners owner (root + 1) (owner + 1) roots (omega arith), rising_items (root + 1) (owner + 1) roots)

  slot_there : (roots : List (Root S)) (k : ℕ) (it : Root S) → slice_get roots k ≡ Some it → slice_get (map slot_of roots) (0 + k) ≡ Some (slot_of it)
  slot_there roots k it e = let same : 0 + k ≡ k = omega arith in ap (slice_get (map slot_of roots)) same ∙ slice_get-map slot_of roots k ∙ ap (λ (o : Option (Root S)). option_map slot_of o) e

  -- what is live fits
  pub begins_fits : (source : Ghosts S Chunk) (steps : ℕ) (roots : List (Root S)) (run : RunState (Work PlannerState MorselState) S) → Begins steps roots run → LiveFits source run.live
  begins_fits source steps roots run b =
      let items = b.items in
      let slots = b.slots in
      let owners = b.owners in
      record {
        each = subst (λ list. AllByRecursion (ItemFits source run.live.slots run.live.next_owner) list) (sym items)
            (fit_items source run.live.slots run.live.next_owner 0 0 roots (λ k it e. ap (λ list. slice_get list (0 + k)) slots ∙ slot_there roots k it e) (omega (arith, owners)));
        rising = subst AreRising (sym items) (rising_items 0 0 roots);
      }

  -- each root is in step with its source, at which nothing is outstanding
  pub begins_in_step : (source : Ghosts S Chunk) (steps : ℕ) (roots : List (Root S)) (run : RunState (Work PlannerState MorselState) S) → Begins steps roots run → AllByRecursion (λ (it : Root S). source.outstanding it.source ≡ []) roots
      → (root : RootId) → IsInStep source run.live root
  begins_in_step source steps roots run b idle root slot there live test =
      let none : AllByRecursion (λ (item : Item (Work PlannerState MorselState)). kept_of root test item ≡ 0) (items_of 0 0 roots) =
      each_item (λ it. Unit {0}) (λ item. kept_of root test item ≡ 0) (λ number owner it u. kept_none (is_of_root {W = Work PlannerState MorselState} root (root_item number owner (root_scope it.partition) (work.Planner it.planner)))) 0 0 roots (each_any roots) in
      let found = sources_at roots root.0 slot (sym (ap (λ list. slice_get list root.0) b.slots) ∙ there) idle in
      ap (count_by test) found ∙ sym (ap (λ list. sum_by (kept_of root test) list) b.items ∙ none_sum (kept_of root test) (items_of 0 0 roots) none)
    where
      kept_none : (c : Bool) → ◌≡◌ {A = ℕ} (cond c 0 0) 0
      kept_none true = refl
      kept_none false = refl

      each_any : (list : List (Root S)) → AllByRecursion (λ (it : Root S). Unit {0}) list
      each_any [] = tt
      each_any (it ∷ list) = (tt, each_any list)

      sources_at : (list : List (Root S)) (k : ℕ) (found : Slot S) → slice_get (map slot_of list) k ≡ Some found → AllByRecursion (λ (it : Root S). source.outstanding it.source ≡ []) list → source.outstanding found.source ≡ []
      sources_at [] k found e all = absurd (cc)
      sources_at (it ∷ list) zero found e all = let is : slot_of it ≡ found = (cc) in sym (ap (λ (s : Slot S). source.outstanding s.source) is) ∙ all.0
      sources_at (it ∷ list) (suc k) found e all = sources_at list k found e all.1

  -- ---- the seats of a root

  none_earlier : (root : RootId) (number owner : ℕ) (roots : List (Root S)) → root.0 < number → seats (work_seats planner_plan morsel_plan is_fresh) root None (items_of number owner roots) ≡ []
  none_earlier root number owner [] less = refl
  none_earlier root number owner (it ∷ roots) less = rw (apart number root.0 less) (none_earlier root (number + 1) (owner + 1) roots (omega (arith, less)))
    where
      apart : (m n : ℕ) → n < m → eqb m n ≡ false
      apart m n l = grind (arith, l)

  -- they are those of its planner's plan
  pub seats_of : (root : RootId) (number owner : ℕ) (roots : List (Root S)) (k : ℕ) (it : Root S) → root.0 ≡ number + k → slice_get roots k ≡ Some it
      → seats (work_seats planner_plan morsel_plan is_fresh) root None (items_of number owner roots) ≡ planned_seats (root.0 ∷ []) 0 (planner_plan it.planner None) (planner_plan it.planner None)
  seats_of root number owner [] k it e there = absurd (cc)
  seats_of root number owner (first ∷ roots) zero it e there =
      let is : first ≡ it = (cc) in
      let same : number ≡ root.0 = omega (arith, e) in
      let own : eqb number root.0 ≡ true = grind (arith, e) in
      let later = none_earlier root (number + 1) (owner + 1) roots (omega (arith, e)) in
      ap (λ b. cond b (planned_seats (number ∷ []) 0 (planner_plan first.planner None) (planner_plan first.planner None)) [] ++ seats (work_seats planner_plan morsel_plan is_fresh) root None (items_of (number + 1) (owner + 1) roots)) own
      ∙ ap (λ list. planned_seats (number ∷ []) 0 (planner_plan first.planner None) (planner_plan first.planner None) ++ list) later ∙ append-nil (planned_seats (number ∷ []) 0 (planner_plan first.planner None) (planner_plan first.planner None))
      ∙ ap (λ n. planned_seats (n ∷ []) 0 (planner_plan first.planner None) (planner_plan first.planner None)) same
      ∙ ap (λ (r : Root S). planned_seats (root.0 ∷ []) 0 (planner_plan r.planner None) (planner_plan r.planner None)) is
  seats_of root number owner (first ∷ roots) (suc k) it e there =
      let apart : eqb number root.0 ≡ false = grind (arith, e) in
      ap (λ b. cond b (planned_seats (number ∷ []) 0 (planner_plan first.planner None) (planner_plan first.planner None)) [] ++ seats (work_seats planner_plan morsel_plan is_fresh) root None (items_of (number + 1) (owner + 1) roots)) apart
      ∙ seats_of root (number + 1) (owner + 1) roots k it (e ∙ omega arith) there

  -- and where there is no such root, none
  pub seats_none : (root : RootId) (number owner : ℕ) (roots : List (Root S)) (k : ℕ) → root.0 ≡ number + k → slice_get roots k ≡ None → seats (work_seats planner_plan morsel_plan is_fresh) root None (items_of number owner roots) ≡ []
  seats_none root number owner [] k e there = refl
  seats_none root number owner (first ∷ roots) zero e there = absurd (cc)
  seats_none root number owner (first ∷ roots) (suc k) e there =
      let apart : eqb number root.0 ≡ false = grind (arith, e) in
      ap (λ b. cond b (planned_seats (number ∷ []) 0 (planner_plan first.planner None) (planner_plan first.planner None)) [] ++ seats (work_seats planner_plan morsel_plan is_fresh) root None (items_of (number + 1) (owner + 1) roots)) apart
      ∙ seats_none root (number + 1) (owner + 1) roots k (e ∙ omega arith) there

  -- ---- roots beside the partitions

  module _ (columns : List ColumnDesc) (request : ScanRequest) where
    -- the roots of the chosen ones of these partitions, of which the first has number p
    abbrev pub AreAligned : ℕ → List PartitionDesc → List (Root S) → Type 0
    AreAligned p [] roots = roots ≡ []
    AreAligned p (partition ∷ partitions) roots =
        ((is_partition_chosen request p ≡ true) × ((it : Root S) × (rest : List (Root S)) × (roots ≡ it ∷ rest) × IsPlannerOf columns p partition request it.planner × AreAligned (p + 1) partitions rest))
        ⊎ ((is_partition_chosen request p ≡ false) × AreAligned (p + 1) partitions roots)

    -- they are those of all partitions that are chosen
    pub aligned : (all : List PartitionDesc) (p : ℕ) (partitions : List PartitionDesc) (roots : List (Root S)) → map (λ (it : Root S). it.partition) roots ≡ filter (is_partition_chosen request) (range_with_len p (length partitions))
        → AllByRecursion (λ (it : Root S). IsPlannerAt columns all request it.partition it.planner) roots → ((k : ℕ) (partition : PartitionDesc) → slice_get partitions k ≡ Some partition → slice_get all (p + k) ≡ Some partition)
        → AreAligned p partitions roots
    aligned all p [] [] names planners there = refl
    aligned all p [] (it ∷ roots) names planners there = absurd (cc)
    aligned all p (partition ∷ partitions) roots names planners there =
        by (is_partition_chosen request p) refl roots names planners (λ rest n q. aligned all (p + 1) partitions rest n q (λ k d e. let on : p + 1 + k ≡ p + suc k = omega arith in ap (slice_get all) on ∙ there (suc k) d e))
      where
        by : (b : Bool) → is_partition_chosen request p ≡ b → (list : List (Root S)) → map (λ (it : Root S). it.partition) list ≡ filter (is_partition_chosen request) (range_with_len p (suc (length partitions)))
            → AllByRecursion (λ (it : Root S). IsPlannerAt columns all request it.partition it.planner) list
            → ((rest : List (Root S)) → map (λ (it : Root S). it.partition) rest ≡ filter (is_partition_chosen request) (range_with_len (p + 1) (length partitions))
            → AllByRecursion (λ (it : Root S). IsPlannerAt columns all request it.partition it.planner) rest → AreAligned (p + 1) partitions rest) → AreAligned p (partition ∷ partitions) list
        by true e [] n q later = absurd (let others = filter (is_partition_chosen request) (range_with_len (p + 1) (length partitions)) in let clash : [] ≡ p ∷ others = n ∙ ap (λ b. cond b (p ∷ others) others) e in cc)
        by true e (it ∷ rest) n q later =
            let others = filter (is_partition_chosen request) (range_with_len (p + 1) (length partitions)) in
            let names' : it.partition ∷ map (λ (r : Root S). r.partition) rest ≡ p ∷ others = n ∙ ap (λ b. cond b (p ∷ others) others) e in
            let is : it.partition ≡ p = (cc) in
            let tails : map (λ (r : Root S). r.partition) rest ≡ others = (cc) in
            let planner = q.0 in
            let first : p + 0 ≡ p = omega arith in
            let found : slice_get all it.partition ≡ Some partition = ap (slice_get all) (is ∙ sym first) ∙ there 0 partition refl in
            let same : planner.0 ≡ partition = (let f = planner.1 in cc) in
            inl (e, (it, rest, refl, subst (λ d. IsPlannerOf columns p d request it.planner) same (subst (λ n. IsPlannerOf columns n planner.0 request it.planner) is planner.2), later rest tails q.1))
        by false e list n q later =
            let others = filter (is_partition_chosen request) (range_with_len (p + 1) (length partitions)) in
            inr (e, later list (n ∙ ap (λ b. cond b (p ∷ others) others) e) q)

    -- together they make few visits, and few owners
    pub work_bounded : (p : ℕ) (partitions : List PartitionDesc) (roots : List (Root S)) (root owner : ℕ) → AreAligned p partitions roots → work_left works (items_of root owner roots) + length roots ≤ 6 * split_count partitions + 2 * length partitions
    work_bounded p [] roots root owner a = rw a (omega arith)
    work_bounded p (partition ∷ partitions) roots root owner a =
        let splits = sum_by-cons (λ (d : PartitionDesc). length d.splits) partition partitions in
        ⊎_elim
        (λ chosen.
        let h = chosen.1 in
        let it : Root S = h.0 in
        let rest : List (Root S) = h.1 in
        let later = work_bounded (p + 1) partitions rest (root + 1) (owner + 1) h.4 in
        let one = h.3.work in
        let sum = sum_by-cons (λ (item : Item (Work PlannerState MorselState)). works.work item.work) (root_item root owner (root_scope it.partition) (work.Planner it.planner)) (items_of (root + 1) (owner + 1) rest) in
        let bound : work_left works (items_of root owner (it ∷ rest)) + length (it ∷ rest) ≤ 6 * split_count (partition ∷ partitions) + 2 * length (partition ∷ partitions) = omega (arith, later, one, sum, splits) in
        subst (λ list. work_left works (items_of root owner list) + length list ≤ 6 * split_count (partition ∷ partitions) + 2 * length (partition ∷ partitions)) (sym h.2) bound)
        (λ other. let later = work_bounded (p + 1) partitions roots root owner other.1 in omega (arith, later, splits)) a

    -- what the roots owe is what all partitions owe
    pub bag_sum : (contents : ℕ → Content Chunk) (test : Entry → Bool) (p : ℕ) (partitions : List PartitionDesc) (told : List (Content Chunk)) (roots : List (Root S)) (root owner : ℕ) → AreAligned p partitions roots
        → AllZip (λ partition (content : Content Chunk). FitsPartition partition (content_of content)) partitions told
        → ((k : ℕ) (content : Content Chunk) → slice_get told k ≡ Some content → is_partition_chosen request (p + k) ≡ true → contents (root + count_by (is_partition_chosen request) (range_with_len p k)) ≡ content)
        → sum_by (owes owed contents test) (items_of root owner roots) ≡ count_by test (map entry_of (parts_turn columns request p partitions (map content_of told)))
    bag_sum contents test p [] told roots root owner a fits are = ap (λ list. sum_by (owes owed contents test) (items_of root owner list)) a
    bag_sum contents test p (partition ∷ partitions) [] roots root owner a fits are = absurd fits
    bag_sum contents test p (partition ∷ partitions) (content ∷ told) roots root owner a fits are =
        let here : List Given = part_turn columns request p partition (content_of content) in
        let others : List Given = parts_turn columns request (p + 1) partitions (map content_of told) in
        let split : count_by test (map entry_of (here ++ others)) ≡ count_by test (map entry_of here) + count_by test (map entry_of others) =
        ap (count_by test) (map-append entry_of here others) ∙ count_join test (map entry_of here) (map entry_of others) in
        ⊎_elim
        (λ chosen.
        let h = chosen.1 in
        let it : Root S = h.0 in
        let rest : List (Root S) = h.1 in
        let first : p + 0 ≡ p = omega arith in
        let same : contents root ≡ content = (let here' : root ≡ root + 0 = omega arith in ap contents here') ∙ are 0 content refl (ap (is_partition_chosen request) first ∙ chosen.0) in
        let owes' : planner_owed it.planner (contents root) ≡ map entry_of here = ap (planner_owed it.planner) same ∙ h.3.owed content fits.0 in
        let later = bag_sum contents test (p + 1) partitions told rest (root + 1) (owner + 1) h.4 fits.1 (λ k c e q. after chosen.0 k c e q) in
        let sum = sum_by-cons (owes owed contents test) (root_item root owner (root_scope it.partition) (work.Planner it.planner)) (items_of (root + 1) (owner + 1) rest) in
        let one : count_by test (planner_owed it.planner (contents root)) ≡ count_by test (map entry_of here) = ap (count_by test) owes' in
        ap (λ list. sum_by (owes owed contents test) (items_of root owner list)) h.2 ∙ omega (arith, sum, one, later, split))
        (λ other.
        let none : count_by test (map entry_of here) ≡ 0 = ap (λ list. count_by test (map entry_of list)) (part_unchosen columns request p partition (content_of content) other.0) in
        let later = bag_sum contents test (p + 1) partitions told roots root owner other.1 fits.1 (λ k c e q. past other.0 k c e q) in
        omega (arith, none, later, split)) a
      where
        on : (k : ℕ) → p + 1 + k ≡ p + suc k
        on k = omega arith

        after : is_partition_chosen request p ≡ true → (k : ℕ) (c : Content Chunk) → slice_get told k ≡ Some c → is_partition_chosen request (p + 1 + k) ≡ true
            → contents (root + 1 + count_by (is_partition_chosen request) (range_with_len (p + 1) k)) ≡ c
        after e k c there q =
            let counted : root + 1 + count_by (is_partition_chosen request) (range_with_len (p + 1) k) ≡ root + count_by (is_partition_chosen request) (range_with_len p (suc k)) =
            (let n = counted_first (is_partition_chosen request) p k e in let next' : p + 1 ≡ suc p = omega arith in let m = ap (λ j. count_by (is_partition_chosen request) (range_with_len j k)) next' in omega (arith, n, m)) in
            ap contents counted ∙ are (suc k) c there (ap (is_partition_chosen request) (sym (on k)) ∙ q)

        past : is_partition_chosen request p ≡ false → (k : ℕ) (c : Content Chunk) → slice_get told k ≡ Some c → is_partition_chosen request (p + 1 + k) ≡ true
            → contents (root + count_by (is_partition_chosen request) (range_with_len (p + 1) k)) ≡ c
        past e k c there q =
            let counted : root + count_by (is_partition_chosen request) (range_with_len (p + 1) k) ≡ root + count_by (is_partition_chosen request) (range_with_len p (suc k)) =
            (let n = counted_other (is_partition_chosen request) p k e in let next' : p + 1 ≡ suc p = omega arith in let m = ap (λ j. count_by (is_partition_chosen request) (range_with_len j k)) next' in omega (arith, n, m)) in
            ap contents counted ∙ are (suc k) c there (ap (is_partition_chosen request) (sym (on k)) ∙ q)

    -- each item is orderly
    pub begins_orderly : (all : List PartitionDesc) (steps : ℕ) (roots : List (Root S)) (run : RunState (Work PlannerState MorselState) S) → Begins steps roots run
        → AllByRecursion (λ (it : Root S). IsPlannerAt columns all request it.partition it.planner) roots → IsOrderly works run.live
    begins_orderly all steps roots run b planners =
        subst (λ list. AllByRecursion (ItemIsOrderly works) list) (sym b.items)
        (each_item (λ it. IsPlannerAt columns all request it.partition it.planner) (ItemIsOrderly works)
        (λ root owner it p. record { orderly = p.2.orderly; asked = sym (ap (as_fetches (record { 0 = owner })) p.2.asked); acts = λ ready. p.2.acts }) 0 0 roots planners)
