-- Planners that make a reader for each split below a number, the last one first.
use Rattle.std.specs.Prelude.{◌≡◌, ℕ, zero, suc, ◌+◌, ◌*◌, ◌<◌, Option, Some, Result, Ok, Err, List, [], ◌∷◌, ◌++◌}
use Rattle.vortex_io.specs.Source.{Content}
use Rattle.vortex_io.specs.declared.ids.IoRequestId.{IoRequestId}
use Rattle.vortex_io.specs.declared.request.IoError.{IoError}
use Rattle.vortex_io.specs.declared.request.IoError.TheVariants as error
use Rattle.vortex_io.specs.declared.request.IoRequest.{IoRequest}
use Rattle.vortex_io.specs.declared.request.IoResult.{IoResult}
use Rattle.vortex_io.specs.declared.request.IoTarget.{IoTarget}
use Rattle.vortex_io.specs.declared.request.IoTarget.TheVariants as target
use Rattle.vortex_scan_types.specs.declared.batch.WorkScope.{WorkScope}
use Rattle.vortex_scan.specs.Owed.{Entry, under}
use Rattle.vortex_scan.specs.Plans.{Planned}
use Rattle.vortex_scan.specs.declared.state.PlannerOutput.{PlannerOutput}
use Rattle.vortex_scan.specs.declared.state.PlannerOutput.TheVariants as planner
use Rattle.vortex_scan.specs.declared.state.State.{State}
use Rattle.vortex_scan.specs.declared.state.State.TheVariants as state
use Rattle.worked_runs.specs.Reader.{ReaderState, first_chunk, new_reader, number_at, rows_for}

-- how many splits are left
pub record ListerState : Type 0 where
  pub left : ℕ

-- it always computes
abbrev pub lister_state : ListerState → State
lister_state it = state.NeedsCompute

-- the scope of a split: one row of a partition of its own
abbrev pub scope_of : ℕ → WorkScope
scope_of split = record { file_ordinal = split; rows = record { start = 0; end = 1 } }

-- one computation: it makes the reader of its last split, or is done where none is left
abbrev pub ListerComputes : ListerState → Result (PlannerOutput ListerState ReaderState) IoError → ListerState → Type 0
ListerComputes old (Ok planner.Done) new = (old.left ≡ 0) × (new ≡ old)
ListerComputes old (Ok planner.Continue) new = ⊥
ListerComputes old (Ok (planner.NeedsIO batch)) new = ⊥
ListerComputes old (Ok (planner.Planner scope child)) new = ⊥
ListerComputes old (Ok (planner.Morsel scope child)) new = (old.left ≡ suc new.left) × (scope ≡ scope_of new.left) × (child ≡ new_reader new.left)
ListerComputes old (Err failure) new = ⊥

-- it asks for nothing, and takes nothing
abbrev pub ListerTakes : {C : Type 0} → ListerState → IoRequestId → IoResult C → ListerState → Type 0
ListerTakes old number outcome new = new ≡ old

abbrev pub lister_names : ListerState → IoRequestId → Option IoTarget
lister_names it number = Some target.Size

abbrev pub lister_asked : ListerState → List IoRequest
lister_asked it = []

-- the rows of the splits below a number, the last split first
abbrev pub owed_below : {C : Type 0} → (C → ℕ) → Content C → ℕ → List Entry
owed_below means content zero = []
owed_below means content (suc split) = under (scope_of split) (rows_for (number_at means content split)) ++ owed_below means content split

abbrev pub lister_owed : {C : Type 0} → (C → ℕ) → ListerState → Content C → List Entry
lister_owed means it content = owed_below means content it.left

-- a bound on its computations and those of its readers
abbrev pub lister_work : ListerState → ℕ
lister_work it = 4 * it.left + 1

-- some split below a number has a chunk of no rows
abbrev pub HasNoRows : {C : Type 0} → (C → ℕ) → Content C → ℕ → Type 0
HasNoRows means content splits = (split : ℕ) × (split < splits) × (number_at means content split ≡ Some 0)

-- its readers are permitted a fault where one of its splits has a chunk of no rows
abbrev pub lister_permits : {C : Type 0} → (C → ℕ) → ListerState → Content C → IoError → Type 0
lister_permits means it content error.Fault = HasNoRows means content it.left
lister_permits means it content error.OutOfMemory = Unit {0}

-- the readers of the splits below a number, the last one first
abbrev pub plan_below : ℕ → List Planned
plan_below zero = []
plan_below (suc split) = record { scope = scope_of split; targets = first_chunk split ∷ [] } ∷ plan_below split

abbrev pub lister_plan : {C : Type 0} → ListerState → Option (Content C) → List Planned
lister_plan it told = plan_below it.left
