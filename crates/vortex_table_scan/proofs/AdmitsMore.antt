-- Roots that are admitted one after another, until one is not.
use Rattle.std.proofs.Common.{◌≡◌, ◌∙◌, sym, ap, subst, refl, ℕ, ◌+◌, ◌<◌, ◌≤◌, true, false, not, List, [], ◌∷◌, ◌++◌, length, map, arith, ⊎_elim}
use Rattle.std.specs.Prelude.{Option, None, Some, filter, nat_lt}
use Rattle.std.specs.List.{range_with_len}
use Rattle.std.proofs.lemmas.Bool.{le-ltb, lt-ltb}
use Rattle.std.proofs.lemmas.List.{map-append}
use Rattle.vortex_array_types.specs.declared.column.ColumnDesc.{ColumnDesc}
use Rattle.vortex_scan.specs.RunState.{RunState}
use Rattle.vortex_scan.specs.Steps.{admitted}
use Rattle.vortex_scan.specs.declared.worker.Work.{Work}
use Rattle.vortex_scan.specs.declared.worker.Work.TheVariants as work
use Rattle.vortex_scan_types.specs.declared.request.ScanRequest.{ScanRequest}
use Rattle.vortex_table_planner.specs.Morsels.{MorselState}
use Rattle.vortex_table_planner.specs.Planners.{PlannerState}
use Rattle.vortex_table_types.specs.declared.describe.PartitionDesc.{PartitionDesc}
use Rattle.vortex_table_scan.specs.Admitting.{IsAdmitted, IsPlaced, Root, admits, root_scope}
use Rattle.vortex_table_scan.specs.Parted.{is_admitted, is_left, picked}
use Rattle.vortex_table_scan.specs.Planned.{IsPlannerAt}
use Rattle.vortex_table_scan.proofs.Picking.{numbers_on, numbers_past, numbers_same, picked_on, picked_past, picked_same}
use Rattle.vortex_table_scan.proofs.Placing.{each_join}

module _ {S : Type 0} (columns : List ColumnDesc) (partitions : List PartitionDesc) (request : ScanRequest) where
  admits_both : (run : RunState (Work PlannerState MorselState) S) (first then : List (Root S)) → admits run (first ++ then) ≡ admits (admits run first) then
  admits_both run [] then = refl
  admits_both run (root ∷ first) then = admits_both (admitted run (work.Planner root.planner) (root_scope root.partition) root.source) first then

  pub admitted_none : (run : RunState (Work PlannerState MorselState) S) → IsAdmitted columns partitions request run [] [] run
  admitted_none run = record { roots = []; are = record { numbers = refl; sources = refl; planners = tt }; now = refl }

  pub admitted_one : (partition : ℕ) (planner : PlannerState) (source : S) (old new : RunState (Work PlannerState MorselState) S) → IsPlannerAt columns partitions request partition planner
      → new ≡ admitted old (work.Planner planner) (root_scope partition) source → IsAdmitted columns partitions request old (partition ∷ []) (source ∷ []) new
  admitted_one partition planner source old new is now = record { roots = record { partition = partition; planner = planner; source = source } ∷ []; are = record { numbers = refl; sources = refl; planners = (is, tt) }; now = now }

  pub admitted_then : (numbers later : List ℕ) (sources more : List S) (a b d : RunState (Work PlannerState MorselState) S) → IsAdmitted columns partitions request a numbers sources b
      → IsAdmitted columns partitions request b later more d → IsAdmitted columns partitions request a (numbers ++ later) (sources ++ more) d
  admitted_then numbers later sources more a b d k l = record {
    roots = k.roots ++ l.roots;
    are = record {
      numbers = map-append (λ (root : Root S). root.partition) k.roots l.roots ∙ ap (λ list. list ++ map (λ (root : Root S). root.partition) l.roots) k.are.numbers ∙ ap (λ list. numbers ++ list) l.are.numbers;
      sources = map-append (λ (root : Root S). root.source) k.roots l.roots ∙ ap (λ list. list ++ map (λ (root : Root S). root.source) l.roots) k.are.sources ∙ ap (λ list. sources ++ list) l.are.sources;
      planners = each_join (λ (root : Root S). IsPlannerAt columns partitions request root.partition root.planner) k.roots l.roots k.are.planners l.are.planners;
    };
    now = l.now ∙ ap (λ run. admits run l.roots) k.now ∙ sym (admits_both a k.roots l.roots);
  }

-- where admission stops at a partition, those before it are admitted as they were, and it is not
pub stops_later : (request : ScanRequest) (n i : ℕ) → i < n → is_admitted request None i ≡ is_admitted request (Some n) i
stops_later request n i less = let yes : nat_lt i n ≡ true = lt-ltb i n less in rw yes refl

pub stops_here : (request : ScanRequest) (at n : ℕ) → at ≤ n → is_admitted request (Some at) n ≡ false
stops_here request at n more = let no : nat_lt n at ≡ false = le-ltb n at more in rw no refl

none_stopped : (request : ScanRequest) (stopped : Option ℕ) (partition : ℕ) → ((at : ℕ) → stopped ≡ Some at → at < partition) → is_admitted request stopped partition ≡ true → stopped ≡ None
none_stopped request None partition stops is = refl
none_stopped request (Some at) partition stops is = absurd (let less = stops at refl in let past = stops_here request at partition (omega (arith, less)) in cc)

-- of the sources so far, those of the admitted partitions are in the run, and the others beside it
pub record SoFar {S : Type 0} (columns : List ColumnDesc) (partitions : List PartitionDesc) (request : ScanRequest) (begun : RunState (Work PlannerState MorselState) S) (yielded : List S) (partition : ℕ) (stopped : Option ℕ)
    (run : RunState (Work PlannerState MorselState) S) (beside : List S) : Type 0 where
  pub number : partition ≡ length yielded
  pub stops : (at : ℕ) → stopped ≡ Some at → at < partition
  pub admitted : IsAdmitted columns partitions request begun (filter (is_admitted request stopped) (range_with_len 0 partition)) (picked (is_admitted request stopped) 0 yielded) run
  pub others : beside ≡ picked (is_left request stopped) 0 yielded

module _ {S : Type 0} (columns : List ColumnDesc) (partitions : List PartitionDesc) (request : ScanRequest) where
  pub so_far_none : (run : RunState (Work PlannerState MorselState) S) (beside : List S) → beside ≡ [] → SoFar columns partitions request run [] 0 None run beside
  so_far_none run beside none = record { number = refl; stops = λ at e. absurd (cc); admitted = admitted_none columns partitions request run; others = none }

  module _ (begun run new : RunState (Work PlannerState MorselState) S) (yielded : List S) (source : S) (partition next : ℕ) (stopped now : Option ℕ) (beside later : List S)
      (so : SoFar columns partitions request begun yielded partition stopped run beside) (step : next ≡ partition + 1) where
    count_more : next ≡ length (yielded ++ source ∷ [])
    count_more = let here = so.number in let more = length_one yielded in omega (arith, here, more, step)
      where
        length_one : (list : List S) → length (list ++ source ∷ []) ≡ length list + 1
        length_one [] = refl
        length_one (x ∷ list) = let rest = length_one list in omega (arith, rest)

    -- one more root
    admits_it : is_admitted request stopped partition ≡ true → IsAdmitted columns partitions request run (partition ∷ []) (source ∷ []) new → later ≡ beside → SoFar columns partitions request begun (yielded ++ source ∷ []) next stopped new later
    admits_it is one same = record {
      number = count_more;
      stops = λ at e. let less = so.stops at e in omega (arith, less, step);
      admitted = rw (numbers_on (is_admitted request stopped) partition next step is, picked_on (is_admitted request stopped) yielded source partition so.number is)
          (admitted_then columns partitions request _ _ _ _ begun run new so.admitted one);
      others = same ∙ so.others ∙ sym (picked_past (is_left request stopped) yielded source partition so.number (ap not is));
    }

    -- one that is not admitted
    passes_it : is_admitted request stopped partition ≡ false → new ≡ run → later ≡ beside ++ source ∷ [] → SoFar columns partitions request begun (yielded ++ source ∷ []) next stopped new later
    passes_it is same joins = record {
      number = count_more;
      stops = λ at e. let less = so.stops at e in omega (arith, less, step);
      admitted = rw (numbers_past (is_admitted request stopped) partition next step is, picked_past (is_admitted request stopped) yielded source partition so.number is, same) so.admitted;
      others = joins ∙ ap (λ list. list ++ source ∷ []) so.others ∙ sym (picked_on (is_left request stopped) yielded source partition so.number (ap not is));
    }

    -- one at which admission stops
    stops_at : is_admitted request stopped partition ≡ true → new ≡ run → later ≡ beside ++ source ∷ [] → SoFar columns partitions request begun (yielded ++ source ∷ []) next (Some partition) new later
    stops_at is same joins =
        let none = none_stopped request stopped partition so.stops is in
        let past = stops_here request partition partition (omega arith) in
        let numbers : filter (is_admitted request (Some partition)) (range_with_len 0 next) ≡ filter (is_admitted request stopped) (range_with_len 0 partition) =
        numbers_past (is_admitted request (Some partition)) partition next step past
        ∙ sym (rw none (numbers_same (is_admitted request None) (is_admitted request (Some partition)) partition (λ i less. stops_later request partition i less))) in
        let taken : picked (is_admitted request (Some partition)) 0 (yielded ++ source ∷ []) ≡ picked (is_admitted request stopped) 0 yielded =
        picked_past (is_admitted request (Some partition)) yielded source partition so.number past
        ∙ sym (rw none (picked_same (is_admitted request None) (is_admitted request (Some partition)) 0 yielded (λ i less. stops_later request partition i (let here = so.number in omega (arith, less, here))))) in
        let left : picked (is_left request (Some partition)) 0 (yielded ++ source ∷ []) ≡ picked (is_left request stopped) 0 yielded ++ source ∷ [] =
        picked_on (is_left request (Some partition)) yielded source partition so.number (ap not past)
        ∙ ap (λ list. list ++ source ∷ []) (sym (rw none (picked_same (is_left request None) (is_left request (Some partition)) 0 yielded (λ i less. ap not (stops_later request partition i (let here = so.number in omega (arith, less, here))))))) in
        record {
          number = count_more;
          stops = λ at e. let at_it : partition ≡ at = (cc) in omega (arith, at_it, step);
          admitted = rw (numbers, taken, same) so.admitted;
          others = joins ∙ ap (λ list. list ++ source ∷ []) so.others ∙ sym left;
        }

    pub so_far_then : IsPlaced columns partitions request partition source stopped now run new beside later → SoFar columns partitions request begun (yielded ++ source ∷ []) next now new later
    so_far_then placed =
        ⊎_elim
        (λ a. subst (λ s. SoFar columns partitions request begun (yielded ++ source ∷ []) next s new later) (sym a.0) (admits_it a.1 a.2 a.3))
        (λ more. ⊎_elim
        (λ p. subst (λ s. SoFar columns partitions request begun (yielded ++ source ∷ []) next s new later) (sym p.0) (passes_it p.1 p.2 p.3))
        (λ s. subst (λ o. SoFar columns partitions request begun (yielded ++ source ∷ []) next o new later) (sym s.0) (stops_at s.1 s.2 s.3)) more)
        placed
