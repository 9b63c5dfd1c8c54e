-- What planners and morsels still have to give.
use Rattle.std.specs.Prelude.{◌≡◌, ℕ, List, [], ◌∷◌, ◌++◌, map, All, Option, Some, Result, Ok, Err, IsTrue}
use Rattle.vortex_array_types.specs.Row.{Column}
use Rattle.vortex_array.specs.Batch.{BatchParts}
use Rattle.vortex_array.specs.ColumnOf.{column_of}
use Rattle.vortex_io.specs.Source.{Agrees, Content, is_fetch}
use Rattle.vortex_io.specs.declared.ids.IoRequestId.{IoRequestId}
use Rattle.vortex_io.specs.declared.request.IoRequest.{IoRequest}
use Rattle.vortex_io.specs.declared.request.IoResult.{IoResult}
use Rattle.vortex_io.specs.declared.request.IoTarget.{IoTarget}
use Rattle.vortex_scan_types.specs.declared.batch.WorkScope.{WorkScope}
use Rattle.vortex_scan.specs.declared.state.State.{State}
use Rattle.vortex_scan.specs.declared.state.State.TheVariants as state
use Rattle.vortex_scan.specs.declared.state.PlannerOutput.{PlannerOutput}
use Rattle.vortex_scan.specs.declared.state.PlannerOutput.TheVariants as planner
use Rattle.vortex_scan.specs.declared.state.MorselOutput.{MorselOutput}
use Rattle.vortex_scan.specs.declared.state.MorselOutput.TheVariants as morsel

-- the rows of a batch: how many, and their columns with types
pub record Rows : Type 0 where
  pub count : ℕ
  pub columns : List Column

-- rows of a scope
pub record Entry : Type 0 where
  pub scope : WorkScope
  pub rows : Rows

-- the rows of a record batch
abbrev pub rows_of : BatchParts → Rows
rows_of array = record { count = array.rows; columns = map column_of array.columns }

-- the rows that a morsel owes, under the scope with which it was made
abbrev pub under : WorkScope → List Rows → List Entry
under scope owed = map (λ rows. record { scope = scope; rows = rows }) owed

-- each fetch of a batch asks for the target that its number names
abbrev pub NamesTargets : (IoRequestId → Option IoTarget) → List IoRequest → Type 0
NamesTargets names batch = All (λ (request : IoRequest). IsTrue (is_fetch request) → names request.request ≡ Some request.target) batch

-- what an answer takes from a morsel's list: a batch is its head, and it ends with none left
abbrev pub MorselGives : {E : Type 0} → List Rows → Result MorselOutput E → List Rows → Type 0
MorselGives old (Ok morsel.Done) new = old ≡ []
MorselGives old (Ok morsel.Continue) new = new ≡ old
MorselGives old (Ok (morsel.NeedsIO batch)) new = new ≡ old
MorselGives old (Ok (morsel.Batch array)) new = old ≡ rows_of array ∷ new
MorselGives old (Err error) new = Unit {0}

-- what an answer takes from a planner's list: a child's list is its beginning, and it ends with none left
abbrev pub PlannerGives : {P M E : Type 0} → (P → List Entry) → (M → List Rows) → List Entry → Result (PlannerOutput P M) E → List Entry → Type 0
PlannerGives planners morsels old (Ok planner.Done) new = old ≡ []
PlannerGives planners morsels old (Ok planner.Continue) new = new ≡ old
PlannerGives planners morsels old (Ok (planner.NeedsIO batch)) new = new ≡ old
PlannerGives planners morsels old (Ok (planner.Planner scope child)) new = old ≡ planners child ++ new
PlannerGives planners morsels old (Ok (planner.Morsel scope child)) new = old ≡ under scope (morsels child) ++ new
PlannerGives planners morsels old (Err error) new = Unit {0}

-- the rules of a morsel type that tells what it owes
pub record MorselOwes {M C E V : Type 0} (means : C → V) (takes : M → IoRequestId → IoResult C → M → Type 0) (names : M → IoRequestId → Option IoTarget)
    (state_is : M → State) (computes : M → Result MorselOutput E → M → Type 0) (owed : M → Content C → List Rows) : Type 0 where
  pub gives : (content : Content C) (old : M) (answer : Result MorselOutput E) (new : M) → computes old answer new → MorselGives (owed old content) answer (owed new content)
  pub ends : (content : Content C) (it : M) → state_is it ≡ state.Done → owed it content ≡ []
  pub delivers : (content : Content C) (old : M) (number : IoRequestId) (target : IoTarget) (outcome : IoResult C) (new : M) → takes old number outcome new
      → names old number ≡ Some target → Agrees means content target outcome → owed new content ≡ owed old content
  pub publishes : (old : M) (batch : List IoRequest) (new : M) → computes old (Ok (morsel.NeedsIO batch)) new → NamesTargets (names old) batch

-- the rules of a planner type that tells what it owes
pub record PlannerOwes {P M C E V : Type 0} (means : C → V) (takes : P → IoRequestId → IoResult C → P → Type 0) (names : P → IoRequestId → Option IoTarget)
    (state_is : P → State) (computes : P → Result (PlannerOutput P M) E → P → Type 0) (owed : P → Content C → List Entry) (morsels : M → Content C → List Rows) : Type 0 where
  pub gives : (content : Content C) (old : P) (answer : Result (PlannerOutput P M) E) (new : P) → computes old answer new
      → PlannerGives (λ child. owed child content) (λ child. morsels child content) (owed old content) answer (owed new content)
  pub ends : (content : Content C) (it : P) → state_is it ≡ state.Done → owed it content ≡ []
  pub delivers : (content : Content C) (old : P) (number : IoRequestId) (target : IoTarget) (outcome : IoResult C) (new : P) → takes old number outcome new
      → names old number ≡ Some target → Agrees means content target outcome → owed new content ≡ owed old content
  pub publishes : (old : P) (batch : List IoRequest) (new : P) → computes old (Ok (planner.NeedsIO batch)) new → NamesTargets (names old) batch
