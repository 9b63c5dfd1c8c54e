-- How many sources come back of a run.
use Rattle.std.proofs.Common.{◌≡◌, ◌∙◌, ap, subst, refl, ℕ, ◌+◌, true, false, List, [], ◌∷◌, ◌++◌, length, map, arith}
use Rattle.std.specs.Prelude.{IfOk, Result, Ok, Err}
use Rattle.std.proofs.lemmas.List.{length-map}
use Rattle.vortex_array_types.specs.declared.column.ColumnDesc.{ColumnDesc}
use Rattle.vortex_io.specs.declared.source.IoSource.{Ghosts}
use Rattle.vortex_scan.specs.RunState.{RunState, new_run}
use Rattle.vortex_scan.specs.Sources.{ClearsEach, KeepsEach}
use Rattle.vortex_scan.specs.Steps.{admitted}
use Rattle.vortex_scan.specs.declared.worker.Work.{Work}
use Rattle.vortex_scan.specs.declared.worker.Work.TheVariants as work
use Rattle.vortex_scan_types.specs.declared.request.ScanRequest.{ScanRequest}
use Rattle.vortex_table_planner.specs.Morsels.{MorselState}
use Rattle.vortex_table_planner.specs.Planners.{PlannerState}
use Rattle.vortex_table_types.specs.declared.describe.PartitionDesc.{PartitionDesc}
use Rattle.vortex_table_types.proofs.Zipped.{zipped-long}
use Rattle.vortex_table_scan.specs.Admitting.{IsAdmitted, Root, admits, root_scope}

one_longer : {X : Type 0} (list : List X) (x : X) → length (list ++ x ∷ []) ≡ length list + 1
one_longer [] x = refl
one_longer (y ∷ list) x = let rest = one_longer list x in omega (arith, rest)

-- a source for each root
admits_long : {S : Type 0} (run : RunState (Work PlannerState MorselState) S) (roots : List (Root S)) → length (admits run roots).live.slots ≡ length run.live.slots + length roots
admits_long run [] = omega arith
admits_long run (root ∷ roots) =
    let one = one_longer run.live.slots (record { source = root.source; live = true }) in
    let rest = admits_long (admitted run (work.Planner root.planner) (root_scope root.partition) root.source) roots in
    omega (arith, one, rest)

-- the run that roots were admitted to is not refused
admits_well : {S : Type 0} (run : RunState (Work PlannerState MorselState) S) (roots : List (Root S)) → (admits run roots).failed ≡ run.failed
admits_well run [] = refl
admits_well run (root ∷ roots) = admits_well (admitted run (work.Planner root.planner) (root_scope root.partition) root.source) roots

-- a new run with a limit
pub from_new : {S : Type 0} (columns : List ColumnDesc) (partitions : List PartitionDesc) (request : ScanRequest) (steps : ℕ) (numbers : List ℕ) (given : List S) (made limited begun : RunState (Work PlannerState MorselState) S)
    → made ≡ new_run → limited ≡ record made { limit = steps } → IsAdmitted columns partitions request limited numbers given begun → IsAdmitted columns partitions request (record new_run { limit = steps }) numbers given begun
from_new {S} columns partitions request steps numbers given made limited begun new with_limit is =
    subst (λ (run : RunState (Work PlannerState MorselState) S). IsAdmitted columns partitions request run numbers given begun) (with_limit ∙ ap (λ (run : RunState (Work PlannerState MorselState) S). record run { limit = steps }) new) is

module _ {S : Type 0} (columns : List ColumnDesc) (partitions : List PartitionDesc) (request : ScanRequest) (steps : ℕ) (numbers : List ℕ) (given : List S) (begun : RunState (Work PlannerState MorselState) S)
    (is : IsAdmitted columns partitions request (record new_run { limit = steps }) numbers given begun) where
  pub begun_well : begun.failed ≡ false
  begun_well = ap (λ (run : RunState (Work PlannerState MorselState) S). run.failed) is.now ∙ admits_well (record new_run { limit = steps }) is.roots

  begun_long : length begun.live.slots ≡ length given
  begun_long =
      let all = admits_long (record new_run { limit = steps }) is.roots in
      let same : length begun.live.slots ≡ length (admits (record new_run { limit = steps }) is.roots).live.slots = ap (λ (run : RunState (Work PlannerState MorselState) S). length run.live.slots) is.now in
      let mapped : length (map (λ (root : Root S). root.source) is.roots) ≡ length is.roots = length-map is.roots (λ (root : Root S). root.source) in
      let ends : length (map (λ (root : Root S). root.source) is.roots) ≡ length given = ap length is.are.sources in
      omega (arith, all, same, mapped, ends)

  -- as many come back as were handed over
  pub back_long : {C : Type 0} (source : Ghosts S C) (ended : RunState (Work PlannerState MorselState) S) (back : List S) → KeepsEach source begun.live.slots ended.live.slots → ClearsEach source ended.live.slots back → length back ≡ length given
  back_long source ended back keeps clears =
      let one = zipped-long _ begun.live.slots ended.live.slots keeps in
      let two = zipped-long _ ended.live.slots back clears in
      let three = begun_long in
      omega (arith, one, two, three)

-- what holds of each
pub each_ok : {T E : Type 0} (result : Result T E) (P : T → Type 0) → ((value : T) → P value) → IfOk result P
each_ok (Ok value) P f = f value
each_ok (Err error) P f = tt
