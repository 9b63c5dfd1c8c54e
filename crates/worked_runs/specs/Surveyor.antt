-- Planners that first ask how many splits there are, and hand them to a planner of their own kind, which makes a reader for each, the last one first.
use Rattle.std.specs.Prelude.{◌≡◌, ℕ, suc, ◌+◌, ◌*◌, ◌⊎◌, min, Bool, true, false, cond, Option, Some, Result, Ok, Err, List, [], ◌∷◌, length}
use Rattle.vortex_io.specs.Source.{Content}
use Rattle.vortex_io.specs.declared.ids.IoRequestId.{IoRequestId}
use Rattle.vortex_io.specs.declared.request.IoError.{IoError}
use Rattle.vortex_io.specs.declared.request.IoError.TheVariants as error
use Rattle.vortex_io.specs.declared.request.IoIntent.TheVariants as intent
use Rattle.vortex_io.specs.declared.request.IoRequest.{IoRequest}
use Rattle.vortex_io.specs.declared.request.IoResult.{IoResult}
use Rattle.vortex_io.specs.declared.request.IoResult.TheVariants as result
use Rattle.vortex_io.specs.declared.request.IoTarget.{IoTarget}
use Rattle.vortex_io.specs.declared.request.IoTarget.TheVariants as target
use Rattle.vortex_scan.specs.Owed.{Entry}
use Rattle.vortex_scan.specs.declared.state.PlannerOutput.{PlannerOutput}
use Rattle.vortex_scan.specs.declared.state.PlannerOutput.TheVariants as planner
use Rattle.vortex_scan.specs.declared.state.State.{State}
use Rattle.vortex_scan.specs.declared.state.State.TheVariants as state
use Rattle.worked_runs.specs.Lister.{HasNoRows, owed_below, scope_of}
use Rattle.worked_runs.specs.Reader.{ReaderState, new_reader}

-- at most so many splits, or just so many once it knows; whether it waits for their number; and whether it makes readers
pub record SurveyorState : Type 0 where
  pub left : ℕ
  pub waits : Bool
  pub knows : Bool
  pub lists : Bool

-- a surveyor of at most so many splits
abbrev pub new_surveyor : ℕ → SurveyorState
new_surveyor limit = record { left = limit; waits = false; knows = false; lists = false }

-- one that makes readers of so many splits
abbrev pub listing : ℕ → SurveyorState
listing splits = record { left = splits; waits = false; knows = true; lists = true }

-- the state that it shows
abbrev pub surveyor_state : SurveyorState → State
surveyor_state it = cond it.waits state.Waiting state.NeedsCompute

-- the fetch of the number of splits
abbrev pub size_request : IoRequest
size_request = record { intent = intent.Fetch; request = record { 0 = 0 }; target = target.Size }

-- one computation: it asks how many splits there are and waits; hands them to a planner that makes readers; makes the reader of its last split; or is
-- done where none is left. That there is no split at all is a fault
abbrev pub SurveyorComputes : SurveyorState → Result (PlannerOutput SurveyorState ReaderState) IoError → SurveyorState → Type 0
SurveyorComputes old (Ok planner.Done) new = (surveyor_state old ≡ state.NeedsCompute) × (old.knows ≡ true) × (old.left ≡ 0) × (new ≡ old)
SurveyorComputes old (Ok planner.Continue) new = ⊥
SurveyorComputes old (Ok (planner.NeedsIO batch)) new = (surveyor_state old ≡ state.NeedsCompute) × (old.knows ≡ false) × (batch ≡ size_request ∷ []) × (new ≡ record old { waits = true })
SurveyorComputes old (Ok (planner.Planner scope child)) new = (surveyor_state old ≡ state.NeedsCompute) × (old.knows ≡ true) × (old.lists ≡ false) × (child ≡ listing old.left) × (new ≡ listing 0)
SurveyorComputes old (Ok (planner.Morsel scope child)) new =
    (surveyor_state old ≡ state.NeedsCompute) × (old.knows ≡ true) × (old.lists ≡ true) × (old.left ≡ suc new.left) × (scope ≡ scope_of new.left) × (child ≡ new_reader new.left) × (new ≡ listing new.left)
SurveyorComputes old (Err error.Fault) new = (old.knows ≡ true) × (old.lists ≡ false) × (old.left ≡ 0)
SurveyorComputes old (Err error.OutOfMemory) new = Unit {0}

-- how many splits are left, where there are so many in all
abbrev pub splits_at : Bool → ℕ → ℕ → ℕ
splits_at false left all = min all left
splits_at true left all = left

-- a result taken: the number of splits for which it waits
abbrev pub counted : {C : Type 0} → Bool → SurveyorState → IoResult C → SurveyorState
counted false it outcome = it
counted true it (result.Chunk chunk) = it
counted true it (result.Size size) = record it { left = splits_at it.knows it.left size; waits = false; knows = true }

abbrev pub SurveyorTakes : {C : Type 0} → SurveyorState → IoRequestId → IoResult C → SurveyorState → Type 0
SurveyorTakes old number outcome new = new ≡ counted old.waits old outcome

-- every number of a fetch names the number of splits
abbrev pub surveyor_names : SurveyorState → IoRequestId → Option IoTarget
surveyor_names it number = Some target.Size

abbrev pub splits_left : {C : Type 0} → SurveyorState → Content C → ℕ
splits_left it content = splits_at it.knows it.left (length content)

-- the rows of these splits
abbrev pub surveyor_owed : {C : Type 0} → (C → ℕ) → SurveyorState → Content C → List Entry
surveyor_owed means it content = owed_below means content (splits_left it content)

-- what it has asked: the number of splits, for which it waits
abbrev pub asked_if : Bool → List IoRequest
asked_if false = []
asked_if true = size_request ∷ []

abbrev pub surveyor_asked : SurveyorState → List IoRequest
surveyor_asked it = asked_if it.waits

-- the computations of its own before it makes readers
abbrev pub work_before : Bool → Bool → Bool → ℕ
work_before false lists false = 3
work_before false lists true = 2
work_before true false waits = 2
work_before true true waits = 0

-- a bound on its computations and those of its children
abbrev pub surveyor_work : SurveyorState → ℕ
surveyor_work it = 4 * it.left + 1 + work_before it.knows it.lists it.waits

-- no split is left to hand on
abbrev pub HasNoSplits : {C : Type 0} → SurveyorState → Content C → Type 0
HasNoSplits it content = (it.lists ≡ false) × (splits_left it content ≡ 0)

-- it is permitted want of memory, and a fault where one of its splits has a chunk of no rows, or there is none to hand on
abbrev pub surveyor_permits : {C : Type 0} → (C → ℕ) → SurveyorState → Content C → IoError → Type 0
surveyor_permits means it content error.Fault = HasNoRows means content (splits_left it content) ⊎ HasNoSplits it content
surveyor_permits means it content error.OutOfMemory = Unit {0}
