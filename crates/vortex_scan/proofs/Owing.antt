-- What the work of an item owes, by the rules of planners and of morsels.
use Rattle.std.proofs.Common.{◌≡◌, ℕ, List, [], ◌∷◌, ◌++◌, refl, sym, ap, subst, Option, Some, Result, Ok, Err}
use Rattle.vortex_io.specs.Source.{Agrees, Content}
use Rattle.vortex_io.specs.declared.ids.IoRequestId.{IoRequestId}
use Rattle.vortex_io.specs.declared.request.IoRequest.{IoRequest}
use Rattle.vortex_io.specs.declared.request.IoResult.{IoResult}
use Rattle.vortex_io.specs.declared.request.IoTarget.{IoTarget}
use Rattle.vortex_scan_types.specs.declared.batch.WorkScope.{WorkScope}
use Rattle.vortex_scan.specs.declared.state.MorselOutput.{MorselOutput}
use Rattle.vortex_scan.specs.declared.state.MorselOutput.TheVariants as morsel
use Rattle.vortex_scan.specs.declared.state.Output.{Output}
use Rattle.vortex_scan.specs.declared.state.Output.TheVariants as output
use Rattle.vortex_scan.specs.declared.state.PlannerOutput.{PlannerOutput}
use Rattle.vortex_scan.specs.declared.state.PlannerOutput.TheVariants as planner
use Rattle.vortex_scan.specs.declared.state.State.{State}
use Rattle.vortex_scan.specs.declared.state.State.TheVariants as state
use Rattle.vortex_scan.specs.declared.worker.Work.{Work}
use Rattle.vortex_scan.specs.declared.worker.Work.TheVariants as work
use Rattle.vortex_scan.specs.declared.worker.Worker.{Ghosts as Works}
use Rattle.vortex_scan.specs.Bag.{Owing, work_owed}
use Rattle.vortex_scan.specs.Owed.{Entry, MorselGives, MorselOwes, NamesTargets, PlannerGives, PlannerOwes, Rows, rows_of, under}
use Rattle.vortex_scan.specs.Works.{WorkComputes, WorkTakes, of_morsel, of_planner, work_names, work_state}

-- what an answer takes from an item's list, whether it is a planner's or a morsel's
abbrev pub OutputGives : {W E : Type 0} → (WorkScope → W → List Entry) → WorkScope → List Entry → Result (Output W) E → List Entry → Type 0
OutputGives owed scope old (Ok output.Done) new = old ≡ []
OutputGives owed scope old (Ok output.Continue) new = new ≡ old
OutputGives owed scope old (Ok (output.NeedsIO batch)) new = new ≡ old
OutputGives owed scope old (Ok (output.Child other child)) new = old ≡ owed other child ++ new
OutputGives owed scope old (Ok (output.Batch array)) new = old ≡ record { scope = scope; rows = rows_of array } ∷ new
OutputGives owed scope old (Err error) new = Unit {0}

-- the rules of work that tells what it owes
pub record WorkOwes {W C E V : Type 0} (means : C → V) (works : Works W C E) (owed : Owing W C) : Type 0 where
  pub gives : (content : Content C) (scope : WorkScope) (old : W) (answer : Result (Output W) E) (new : W) → works.computes old answer new
      → OutputGives (λ other it. owed other it content) scope (owed scope old content) answer (owed scope new content)
  pub ends : (content : Content C) (scope : WorkScope) (it : W) → works.state_is it ≡ state.Done → owed scope it content ≡ []
  pub delivers : (content : Content C) (scope : WorkScope) (old : W) (number : IoRequestId) (target : IoTarget) (outcome : IoResult C) (new : W) → works.takes old number outcome new
      → works.names old number ≡ Some target → Agrees means content target outcome → owed scope new content ≡ owed scope old content
  pub publishes : (old : W) (batch : List IoRequest) (new : W) → works.computes old (Ok (output.NeedsIO batch)) new → NamesTargets (works.names old) batch

module _ {P M C E V : Type 0} (means : C → V) (planner_takes : P → IoRequestId → IoResult C → P → Type 0) (morsel_takes : M → IoRequestId → IoResult C → M → Type 0)
    (planner_names : P → IoRequestId → Option IoTarget) (morsel_names : M → IoRequestId → Option IoTarget) (planner_state : P → State) (morsel_state : M → State)
    (planner_computes : P → Result (PlannerOutput P M) E → P → Type 0) (morsel_computes : M → Result MorselOutput E → M → Type 0)
    (planner_owed : P → Content C → List Entry) (morsel_owed : M → Content C → List Rows) where
  of_planner_gives : (content : Content C) (scope : WorkScope) (old : P) (own : Result (PlannerOutput P M) E) (new : P)
      → PlannerGives (λ child. planner_owed child content) (λ child. morsel_owed child content) (planner_owed old content) own (planner_owed new content)
      → OutputGives (λ other it. work_owed planner_owed morsel_owed other it content) scope (planner_owed old content) (of_planner own) (planner_owed new content)
  of_planner_gives content scope old (Ok planner.Done) new g = g
  of_planner_gives content scope old (Ok planner.Continue) new g = g
  of_planner_gives content scope old (Ok (planner.NeedsIO batch)) new g = g
  of_planner_gives content scope old (Ok (planner.Planner other child)) new g = g
  of_planner_gives content scope old (Ok (planner.Morsel other child)) new g = g
  of_planner_gives content scope old (Err error) new g = tt

  of_morsel_gives : (content : Content C) (scope : WorkScope) (old : M) (own : Result MorselOutput E) (new : M) → MorselGives (morsel_owed old content) own (morsel_owed new content)
      → OutputGives (λ other it. work_owed planner_owed morsel_owed other it content) scope (under scope (morsel_owed old content)) (of_morsel own) (under scope (morsel_owed new content))
  of_morsel_gives content scope old (Ok morsel.Done) new g = ap (under scope) g
  of_morsel_gives content scope old (Ok morsel.Continue) new g = ap (under scope) g
  of_morsel_gives content scope old (Ok (morsel.NeedsIO batch)) new g = ap (under scope) g
  of_morsel_gives content scope old (Ok (morsel.Batch array)) new g = ap (under scope) g
  of_morsel_gives content scope old (Err error) new g = tt

  gives_by : PlannerOwes means planner_takes planner_names planner_state planner_computes planner_owed morsel_owed → MorselOwes means morsel_takes morsel_names morsel_state morsel_computes morsel_owed
      → (content : Content C) (scope : WorkScope) (old : Work P M) (answer : Result (Output (Work P M)) E) (new : Work P M) → WorkComputes planner_computes morsel_computes old answer new
      → OutputGives (λ other it. work_owed planner_owed morsel_owed other it content) scope (work_owed planner_owed morsel_owed scope old content) answer (work_owed planner_owed morsel_owed scope new content)
  gives_by p m content scope (work.Planner old) answer (work.Planner new) c =
      subst (λ z. OutputGives (λ other it. work_owed planner_owed morsel_owed other it content) scope (planner_owed old content) z (planner_owed new content)) (sym c.2)
      (of_planner_gives content scope old c.0 new (p.gives content old c.0 new c.1))
  gives_by p m content scope (work.Morsel old) answer (work.Morsel new) c =
      subst (λ z. OutputGives (λ other it. work_owed planner_owed morsel_owed other it content) scope (under scope (morsel_owed old content)) z (under scope (morsel_owed new content))) (sym c.2)
      (of_morsel_gives content scope old c.0 new (m.gives content old c.0 new c.1))
  gives_by p m content scope (work.Planner old) answer (work.Morsel new) c = absurd c
  gives_by p m content scope (work.Morsel old) answer (work.Planner new) c = absurd c

  ends_by : PlannerOwes means planner_takes planner_names planner_state planner_computes planner_owed morsel_owed → MorselOwes means morsel_takes morsel_names morsel_state morsel_computes morsel_owed
      → (content : Content C) (scope : WorkScope) (it : Work P M) → work_state planner_state morsel_state it ≡ state.Done → work_owed planner_owed morsel_owed scope it content ≡ []
  ends_by p m content scope (work.Planner it) e = p.ends content it e
  ends_by p m content scope (work.Morsel it) e = ap (under scope) (m.ends content it e)

  delivers_by : PlannerOwes means planner_takes planner_names planner_state planner_computes planner_owed morsel_owed → MorselOwes means morsel_takes morsel_names morsel_state morsel_computes morsel_owed
      → (content : Content C) (scope : WorkScope) (old : Work P M) (number : IoRequestId) (target : IoTarget) (outcome : IoResult C) (new : Work P M) → WorkTakes planner_takes morsel_takes old number outcome new
      → work_names planner_names morsel_names old number ≡ Some target → Agrees means content target outcome → work_owed planner_owed morsel_owed scope new content ≡ work_owed planner_owed morsel_owed scope old content
  delivers_by p m content scope (work.Planner old) number target outcome (work.Planner new) t named agrees = p.delivers content old number target outcome new t named agrees
  delivers_by p m content scope (work.Morsel old) number target outcome (work.Morsel new) t named agrees = ap (under scope) (m.delivers content old number target outcome new t named agrees)
  delivers_by p m content scope (work.Planner old) number target outcome (work.Morsel new) t named agrees = absurd t
  delivers_by p m content scope (work.Morsel old) number target outcome (work.Planner new) t named agrees = absurd t

  planner_asked : (own : Result (PlannerOutput P M) E) (batch : List IoRequest) → Ok (output.NeedsIO batch) ≡ of_planner own → own ≡ Ok (planner.NeedsIO batch)
  planner_asked (Ok planner.Done) batch e = absurd (cc)
  planner_asked (Ok planner.Continue) batch e = absurd (cc)
  planner_asked (Ok (planner.NeedsIO other)) batch e = let same : batch ≡ other = cc in ap (λ z. Ok (planner.NeedsIO z)) (sym same)
  planner_asked (Ok (planner.Planner other child)) batch e = absurd (cc)
  planner_asked (Ok (planner.Morsel other child)) batch e = absurd (cc)
  planner_asked (Err error) batch e = absurd (cc)

  morsel_asked : (own : Result MorselOutput E) (batch : List IoRequest) (of : Result (Output (Work P M)) E) → of ≡ of_morsel own → of ≡ Ok (output.NeedsIO batch) → own ≡ Ok (morsel.NeedsIO batch)
  morsel_asked (Ok morsel.Done) batch of is e = absurd (cc)
  morsel_asked (Ok morsel.Continue) batch of is e = absurd (cc)
  morsel_asked (Ok (morsel.NeedsIO other)) batch of is e = let same : batch ≡ other = cc in ap (λ z. Ok (morsel.NeedsIO z)) (sym same)
  morsel_asked (Ok (morsel.Batch array)) batch of is e = absurd (cc)
  morsel_asked (Err error) batch of is e = absurd (cc)

  -- and its publications name their targets
  pub publishes_by : PlannerOwes means planner_takes planner_names planner_state planner_computes planner_owed morsel_owed → MorselOwes means morsel_takes morsel_names morsel_state morsel_computes morsel_owed
      → (old : Work P M) (batch : List IoRequest) (new : Work P M) → WorkComputes planner_computes morsel_computes old (Ok (output.NeedsIO batch)) new → NamesTargets (work_names planner_names morsel_names old) batch
  publishes_by p m (work.Planner old) batch (work.Planner new) c = p.publishes old batch new (subst (λ z. planner_computes old z new) (planner_asked c.0 batch c.2) c.1)
  publishes_by p m (work.Morsel old) batch (work.Morsel new) c = m.publishes old batch new (subst (λ z. morsel_computes old z new) (morsel_asked c.0 batch (Ok (output.NeedsIO batch)) c.2 refl) c.1)
  publishes_by p m (work.Planner old) batch (work.Morsel new) c = absurd c
  publishes_by p m (work.Morsel old) batch (work.Planner new) c = absurd c

  -- where planners and morsels tell what they owe, their work does
  pub work_owes : {orderly : Work P M → Type 0} {asked : Work P M → List IoRequest} {bound : Work P M → ℕ} {permits : Work P M → Content C → E → Type 0} → PlannerOwes means planner_takes planner_names planner_state planner_computes planner_owed morsel_owed → MorselOwes means morsel_takes morsel_names morsel_state morsel_computes morsel_owed
      → WorkOwes means (record { state_is = work_state planner_state morsel_state; computes = WorkComputes planner_computes morsel_computes; takes = WorkTakes planner_takes morsel_takes; names = work_names planner_names morsel_names; orderly = orderly; asked = asked; work = bound; permits = permits }) (work_owed planner_owed morsel_owed)
  work_owes p m = record { gives = gives_by p m; ends = ends_by p m; delivers = delivers_by p m; publishes = publishes_by p m }
