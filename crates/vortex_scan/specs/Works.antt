-- The work of an item as a planner's or a morsel's own.
use Rattle.std.specs.Prelude.{◌≡◌, ℕ, List, Option, Result, Ok, Err}
use Rattle.vortex_io.specs.Source.{Content}
use Rattle.vortex_io.specs.declared.ids.IoRequestId.{IoRequestId}
use Rattle.vortex_io.specs.declared.request.IoRequest.{IoRequest}
use Rattle.vortex_io.specs.declared.request.IoResult.{IoResult}
use Rattle.vortex_io.specs.declared.request.IoTarget.{IoTarget}
use Rattle.vortex_scan.specs.declared.state.State.{State}
use Rattle.vortex_scan.specs.declared.state.PlannerOutput.{PlannerOutput}
use Rattle.vortex_scan.specs.declared.state.PlannerOutput.TheVariants as planner
use Rattle.vortex_scan.specs.declared.state.MorselOutput.{MorselOutput}
use Rattle.vortex_scan.specs.declared.state.MorselOutput.TheVariants as morsel
use Rattle.vortex_scan.specs.declared.state.Output.{Output}
use Rattle.vortex_scan.specs.declared.state.Output.TheVariants as output
use Rattle.vortex_scan.specs.declared.worker.Work.{Work}
use Rattle.vortex_scan.specs.declared.worker.Work.TheVariants as work

-- the state that it shows
abbrev pub work_state : {P M : Type 0} → (P → State) → (M → State) → Work P M → State
work_state planners morsels (work.Planner it) = planners it
work_state planners morsels (work.Morsel it) = morsels it

-- what a planner answered, as an item's answer
abbrev pub of_planner : {P M E : Type 0} → Result (PlannerOutput P M) E → Result (Output (Work P M)) E
of_planner (Ok planner.Done) = Ok output.Done
of_planner (Ok planner.Continue) = Ok output.Continue
of_planner (Ok (planner.NeedsIO batch)) = Ok (output.NeedsIO batch)
of_planner (Ok (planner.Planner scope child)) = Ok (output.Child scope (work.Planner child))
of_planner (Ok (planner.Morsel scope child)) = Ok (output.Child scope (work.Morsel child))
of_planner (Err error) = Err error

-- what a morsel answered, as an item's answer
abbrev pub of_morsel : {P M E : Type 0} → Result MorselOutput E → Result (Output (Work P M)) E
of_morsel (Ok morsel.Done) = Ok output.Done
of_morsel (Ok morsel.Continue) = Ok output.Continue
of_morsel (Ok (morsel.NeedsIO batch)) = Ok (output.NeedsIO batch)
of_morsel (Ok (morsel.Batch array)) = Ok (output.Batch array)
of_morsel (Err error) = Err error

-- one computation
abbrev pub WorkComputes : {P M E : Type 0} → (P → Result (PlannerOutput P M) E → P → Type 0) → (M → Result MorselOutput E → M → Type 0)
    → Work P M → Result (Output (Work P M)) E → Work P M → Type 0
WorkComputes {P} {M} {E} planners morsels (work.Planner old) answer (work.Planner new) = (own : Result (PlannerOutput P M) E) × planners old own new × (answer ≡ of_planner own)
WorkComputes {P} {M} {E} planners morsels (work.Morsel old) answer (work.Morsel new) = (own : Result MorselOutput E) × morsels old own new × (answer ≡ of_morsel own)
WorkComputes planners morsels (work.Planner old) answer (work.Morsel new) = ⊥
WorkComputes planners morsels (work.Morsel old) answer (work.Planner new) = ⊥

-- one result taken
abbrev pub WorkTakes : {P M C : Type 0} → (P → IoRequestId → IoResult C → P → Type 0) → (M → IoRequestId → IoResult C → M → Type 0)
    → Work P M → IoRequestId → IoResult C → Work P M → Type 0
WorkTakes planners morsels (work.Planner old) number outcome (work.Planner new) = planners old number outcome new
WorkTakes planners morsels (work.Morsel old) number outcome (work.Morsel new) = morsels old number outcome new
WorkTakes planners morsels (work.Planner old) number outcome (work.Morsel new) = ⊥
WorkTakes planners morsels (work.Morsel old) number outcome (work.Planner new) = ⊥

-- the target that a number names
abbrev pub work_names : {P M : Type 0} → (P → IoRequestId → Option IoTarget) → (M → IoRequestId → Option IoTarget) → Work P M → IoRequestId → Option IoTarget
work_names planners morsels (work.Planner it) number = planners it number
work_names planners morsels (work.Morsel it) number = morsels it number

-- whether it is as its kind says
abbrev pub WorkIs : {P M : Type 0} → (P → Type 0) → (M → Type 0) → Work P M → Type 0
WorkIs planners morsels (work.Planner it) = planners it
WorkIs planners morsels (work.Morsel it) = morsels it

-- the fetches that it has published and was not given
abbrev pub work_asked : {P M : Type 0} → (P → List IoRequest) → (M → List IoRequest) → Work P M → List IoRequest
work_asked planners morsels (work.Planner it) = planners it
work_asked planners morsels (work.Morsel it) = morsels it

-- a bound on its computations
abbrev pub work_bound : {P M : Type 0} → (P → ℕ) → (M → ℕ) → Work P M → ℕ
work_bound planners morsels (work.Planner it) = planners it
work_bound planners morsels (work.Morsel it) = morsels it

-- whether a content permits it an error
abbrev pub WorkPermits : {P M C E : Type 0} → (P → Content C → E → Type 0) → (M → Content C → E → Type 0) → Work P M → Content C → E → Type 0
WorkPermits planners morsels (work.Planner it) content failure = planners it content failure
WorkPermits planners morsels (work.Morsel it) content failure = morsels it content failure
