-- The sources of a scan, from its begin to its end: each at its root in between, or where it was.
use Rattle.std.proofs.Common.{◌≡◌, ◌∙◌, sym, ap, subst, refl, ℕ, zero, suc, ◌+◌, List, [], ◌∷◌, Bool, true, false, not, length, Option, Some, arith}
use Rattle.std.specs.Prelude.{All, count_by, option_map, slice_get}
use Rattle.std.specs.List.{AllZip, range_with_len}
use Rattle.std.proofs.lemmas.Option.{get_or_from_slice_get, slice_get-map, slice_get_within}
use Rattle.vortex_array_types.specs.declared.column.ColumnDesc.{ColumnDesc}
use Rattle.vortex_io.specs.declared.source.IoSource.{Ghosts}
use Rattle.vortex_scan.specs.Driving.{Returns}
use Rattle.vortex_scan.specs.RunState.{RunState}
use Rattle.vortex_scan.specs.Sources.{Clears, ClearsEach, Keeps, KeepsEach}
use Rattle.vortex_scan.specs.declared.item.Slot.{Slot}
use Rattle.vortex_scan.specs.declared.worker.Work.{Work}
use Rattle.vortex_scan.proofs.Keeping.{slot_after, slots_at}
use Rattle.vortex_scan.proofs.Kept.{keeps_on, keeps_same}
use Rattle.vortex_scan.proofs.Places.{each_at}
use Rattle.vortex_scan_types.specs.declared.request.ScanRequest.{ScanRequest}
use Rattle.vortex_table_chunks.specs.declared.chunk.Chunk.{Chunk}
use Rattle.vortex_table_planner.specs.Morsels.{MorselState}
use Rattle.vortex_table_planner.specs.Planners.{PlannerState}
use Rattle.vortex_table_types.specs.Described.{IsTable}
use Rattle.vortex_table_types.specs.declared.describe.PartitionDesc.{PartitionDesc}
use Rattle.vortex_table_scan.specs.Admitting.{Root}
use Rattle.vortex_table_scan.specs.Over.{AreBack, IsSource}
use Rattle.vortex_table_scan.specs.Parted.{is_admitted, is_left, picked}
use Rattle.vortex_table_scan.specs.Planned.{IsPlannerAt}
use Rattle.vortex_table_scan.specs.Went.{Went}
use Rattle.vortex_table_scan.proofs.Begun.{Begins, begins, slot_of}
use Rattle.vortex_table_scan.proofs.Ranked.{mapped_at, numbers_at, picked_at, picked_from}

-- what holds at each place of two lists holds of the lists
pub zip_by : {A B : Type 0} (R : A → B → Type 0) (xs : List A) (ys : List B) → length ys ≡ length xs → ((k : ℕ) (x : A) (y : B) → slice_get xs k ≡ Some x → slice_get ys k ≡ Some y → R x y) → AllZip R xs ys
zip_by R [] [] long at = tt
zip_by R [] (y ∷ ys) long at = absurd (omega (arith, long))
zip_by R (x ∷ xs) [] long at = absurd (omega (arith, long))
zip_by R (x ∷ xs) (y ∷ ys) long at = (at 0 x y refl refl, zip_by R xs ys (omega (arith, long)) (λ k a b e f. at (suc k) a b e f))

-- what a slot's source is cleared to
clears_at : {S C : Type 0} (source : Ghosts S C) (slots : List (Slot S)) (back : List S) (k : ℕ) (slot : Slot S) (after : S) → ClearsEach source slots back → slice_get slots k ≡ Some slot → slice_get back k ≡ Some after → Clears source slot.source after
clears_at source [] back k slot after c e f = absurd (cc)
clears_at source (s ∷ slots) [] k slot after c e f = absurd (cc)
clears_at {S} source (s ∷ slots) (b ∷ back) zero slot after c e f =
    let one : s ≡ slot = (cc) in
    let two : b ≡ after = (cc) in
    subst (λ a. Clears source slot.source a) two (subst (λ (t : Slot S). Clears source t.source b) one c.0)
clears_at source (s ∷ slots) (b ∷ back) (suc k) slot after c e f = clears_at source slots back k slot after c.1 e f

zero_on : (test : ℕ → Bool) (p : ℕ) → test p ≡ true → test (0 + p) ≡ true
zero_on test p e = let same : p ≡ 0 + p = omega arith in subst (λ q. test q ≡ true) same e

zero_off : (test : ℕ → Bool) (p : ℕ) → test (0 + p) ≡ true → test p ≡ true
zero_off test p e = let same : 0 + p ≡ p = omega arith in subst (λ q. test q ≡ true) same e

pub same_some : {X : Type 0} (x y : X) → Some x ≡ Some y → x ≡ y
same_some x y e = cc

module _ {S : Type 0} (source : Ghosts S Chunk) (columns : List ColumnDesc) (partitions : List PartitionDesc) (request : ScanRequest) (steps : ℕ) (stopped : Option ℕ) (old now : List S)
    (begun ended : RunState (Work PlannerState MorselState) S) (w : Went source columns partitions request steps stopped old now begun ended) where
  -- whether a partition's source is at a root
  abbrev pub is_in : ℕ → Bool
  is_in p = is_admitted request stopped p

  -- the number of its root
  abbrev pub root_of : ℕ → ℕ
  root_of p = count_by (is_admitted request stopped) (range_with_len 0 p)

  pub run_begins : Begins steps w.admitted.roots begun
  run_begins = subst (Begins steps w.admitted.roots) (sym w.admitted.now) (begins steps w.admitted.roots)

  -- a source that is at a root: the root, and the slot in which it stands as the run begins
  pub record AtRoot (p : ℕ) (before : S) : Type 0 where
    pub it : Root S
    pub there : slice_get w.admitted.roots (root_of p) ≡ Some it
    pub number : it.partition ≡ p
    pub held : it.source ≡ before
    pub first : slice_get begun.live.slots (root_of p) ≡ Some (slot_of it)
    pub planner : IsPlannerAt columns partitions request it.partition it.planner

  pub at_root : (p : ℕ) (before : S) → slice_get old p ≡ Some before → is_in p ≡ true → AtRoot p before
  at_root p before was inside =
      let roots = w.admitted.roots in
      let are = w.admitted.are in
      let is = mapped_at (λ (r : Root S). r.source) roots (root_of p) before (ap (λ list. slice_get list (root_of p)) are.sources ∙ picked_at (is_admitted request stopped) 0 old p before was (zero_on (is_admitted request stopped) p inside)) in
      let numbered : Some (is.0.partition) ≡ Some (0 + p) =
      sym (slice_get-map (λ (r : Root S). r.partition) roots (root_of p) ∙ ap (option_map (λ (r : Root S). r.partition)) is.1) ∙ ap (λ list. slice_get list (root_of p)) are.numbers
      ∙ numbers_at (is_admitted request stopped) 0 (length old) p (slice_get_within old p before was) (zero_on (is_admitted request stopped) p inside) in
      let same : 0 + p ≡ p = omega arith in
      record {
        it = is.0;
        there = is.1;
        number = same_some is.0.partition (0 + p) numbered ∙ same;
        held = is.2;
        first = ap (λ list. slice_get list (root_of p)) run_begins.slots ∙ slice_get-map slot_of roots (root_of p) ∙ ap (option_map slot_of) is.1;
        planner = each_at (λ (r : Root S). IsPlannerAt columns partitions request r.partition r.planner) roots (root_of p) is.0 are.planners is.1;
      }

  -- of a slot in which a root's source stands: the partition
  pub record FromRoot (root : ℕ) (slot : Slot S) : Type 0 where
    pub partition : ℕ
    pub was : slice_get old partition ≡ Some slot.source
    pub inside : is_in partition ≡ true
    pub number : root ≡ root_of partition

  pub from_root : (root : ℕ) (slot : Slot S) → slice_get begun.live.slots root ≡ Some slot → FromRoot root slot
  from_root root slot there =
      let roots = w.admitted.roots in
      let is = mapped_at slot_of roots root slot (sym (ap (λ list. slice_get list root) run_begins.slots) ∙ there) in
      let found : slice_get (picked (is_admitted request stopped) 0 old) root ≡ Some slot.source =
      sym (ap (λ list. slice_get list root) w.admitted.are.sources) ∙ slice_get-map (λ (r : Root S). r.source) roots root ∙ ap (option_map (λ (r : Root S). r.source)) is.1 ∙ ap (λ (s : Slot S). Some s.source) is.2 in
      let at = picked_from (is_admitted request stopped) 0 old root slot.source found in
      record { partition = at.place; was = at.there; inside = zero_off (is_admitted request stopped) at.place at.passes; number = at.rank }

  -- a source that is at no root is where it was, as it was
  pub kept_out : (p : ℕ) (before after : S) → IsSource p old now before after → is_in p ≡ false → after ≡ before
  kept_out p before after is outside =
      let left : is_left request stopped p ≡ true = ap not outside in
      let place : ℕ = count_by (is_left request stopped) (range_with_len 0 p) in
      let first = picked_at (is_left request stopped) 0 old p before is.was (zero_on (is_left request stopped) p left) in
      let last = picked_at (is_left request stopped) 0 now p after is.now (zero_on (is_left request stopped) p left) in
      same_some after before (sym last ∙ ap (λ list. slice_get list place) w.others ∙ first)

  module _ (keeps : KeepsEach source begun.live.slots ended.live.slots) where
    -- the slot in which a root's source stands as the run ends, and what it is cleared to
    pub record Ends (p : ℕ) (before after : S) (a : AtRoot p before) : Type 0 where
      pub slot : Slot S
      pub last : slice_get ended.live.slots (root_of p) ≡ Some slot
      pub kept : Keeps source before slot.source
      pub clears : Clears source slot.source after

    pub ends_at : (p : ℕ) (before after : S) → IsSource p old now before after → (inside : is_in p ≡ true) → (a : AtRoot p before) → Ends p before after a
    ends_at p before after is inside a =
        let end = slot_after source begun.live.slots ended.live.slots (root_of p) (slot_of a.it) keeps a.first in
        let kept = slots_at source begun.live.slots ended.live.slots (root_of p) (slot_of a.it) end.0 keeps a.first end.1 in
        let back : slice_get w.back (root_of p) ≡ Some after = sym (ap (λ list. slice_get list (root_of p)) w.placed) ∙ picked_at (is_admitted request stopped) 0 now p after is.now (zero_on (is_admitted request stopped) p inside) in
        record { slot = end.0; last = end.1; kept = subst (λ s. Keeps source s end.0.source) a.held kept.keeps; clears = clears_at source ended.live.slots w.back (root_of p) end.0 after w.cleared end.1 back }

    all_idle : (list : List S) (p : ℕ) (before : S) → All (λ s. source.outstanding s ≡ []) list → slice_get list p ≡ Some before → source.outstanding before ≡ []
    all_idle list p before all there = subst (λ s. source.outstanding s ≡ []) (get_or_from_slice_get list p before before there) (all p before (slice_get_within list p before there))

    -- each source is back in its place
    pub all_back : IsTable source.outstanding columns partitions old → AreBack source old now
    all_back table = zip_by (Returns source) old now w.long (λ p before after was here. by p before after (record { was = was; now = here }) (is_in p) refl)
      where
        by : (p : ℕ) (before after : S) → IsSource p old now before after → (b : Bool) → is_in p ≡ b → Returns source before after
        by p before after is true inside =
            let e = ends_at p before after is inside (at_root p before is.was inside) in
            record { keeps = keeps_on source before e.slot.source after e.kept e.clears.keeps; none = e.clears.accounts }
        by p before after is false outside =
            let same = kept_out p before after is outside in
            subst (Returns source before) (sym same) (record { keeps = keeps_same source before; none = all_idle old p before table.idle is.was })
