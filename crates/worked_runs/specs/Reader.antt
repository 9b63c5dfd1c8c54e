-- Morsels that read one chunk, whose number says how many rows it stands for.
use Rattle.std.specs.Prelude.{◌≡◌, ◌≢◌, ℕ, ◌==◌, Bool, true, false, Option, None, Some, Result, Ok, Err, List, [], ◌∷◌, length}
use Rattle.std.specs.Option.{option_map}
use Rattle.vortex_array.specs.Batch.{BatchParts}
use Rattle.vortex_io.specs.Source.{Content, chunk_at}
use Rattle.vortex_io.specs.declared.ids.IoRequestId.{IoRequestId}
use Rattle.vortex_io.specs.declared.request.IoError.{IoError}
use Rattle.vortex_io.specs.declared.request.IoError.TheVariants as error
use Rattle.vortex_io.specs.declared.request.IoIntent.TheVariants as intent
use Rattle.vortex_io.specs.declared.request.IoRequest.{IoRequest}
use Rattle.vortex_io.specs.declared.request.IoResult.{IoResult}
use Rattle.vortex_io.specs.declared.request.IoResult.TheVariants as result
use Rattle.vortex_io.specs.declared.request.IoTarget.{IoTarget}
use Rattle.vortex_io.specs.declared.request.IoTarget.TheVariants as target
use Rattle.vortex_scan.specs.Owed.{Rows}
use Rattle.vortex_scan.specs.declared.state.MorselOutput.{MorselOutput}
use Rattle.vortex_scan.specs.declared.state.MorselOutput.TheVariants as morsel
use Rattle.vortex_scan.specs.declared.state.State.{State}
use Rattle.vortex_scan.specs.declared.state.State.TheVariants as state

-- a reader of a split's first chunk: what it is about to do, and the number that it was given
pub record ReaderState : Type 0 where
  pub split : ℕ
  pub shown : State
  pub given : Option ℕ

-- a reader that has done nothing yet
abbrev pub new_reader : ℕ → ReaderState
new_reader split = record { split = split; shown = state.NeedsCompute; given = None }

-- the state that it shows
abbrev pub reader_state : ReaderState → State
reader_state it = it.shown

-- the first chunk of a split, and the fetch of it
abbrev pub first_chunk : ℕ → IoTarget
first_chunk split = target.Chunk split 0

abbrev pub chunk_request : ℕ → IoRequest
chunk_request split = record { intent = intent.Fetch; request = record { 0 = 0 }; target = first_chunk split }

-- which errors are want of memory
abbrev pub is_want : IoError → Bool
is_want error.Fault = false
is_want error.OutOfMemory = true

-- one computation: it fetches its chunk and waits, or gives as many rows as its number says, without columns; a chunk of no rows is a fault
abbrev pub ReaderComputes : ReaderState → Result MorselOutput IoError → ReaderState → Type 0
ReaderComputes old (Ok morsel.Done) new = ⊥
ReaderComputes old (Ok morsel.Continue) new = ⊥
ReaderComputes old (Ok (morsel.NeedsIO batch)) new = (old.shown ≡ state.NeedsCompute) × (old.given ≡ None) × (batch ≡ chunk_request old.split ∷ []) × (new ≡ record old { shown = state.Waiting })
ReaderComputes old (Ok (morsel.Batch array)) new = (old.shown ≡ state.NeedsCompute) × (old.given ≡ Some array.rows) × (array.rows ≢ 0) × (array.columns ≡ []) × (new ≡ record old { shown = state.Done })
ReaderComputes old (Err error.Fault) new = (old.shown ≡ state.NeedsCompute) × (old.given ≡ Some 0) × (new ≡ old)
ReaderComputes old (Err error.OutOfMemory) new = new ≡ old

-- a result taken: the number of a chunk for which it waits
abbrev pub handed : {C : Type 0} → (C → ℕ) → State → ReaderState → IoResult C → ReaderState
handed means state.Done it outcome = it
handed means state.NeedsCompute it outcome = it
handed means state.Waiting it (result.Chunk chunk) = record it { shown = state.NeedsCompute; given = Some (means chunk) }
handed means state.Waiting it (result.Size size) = it

abbrev pub ReaderTakes : {C : Type 0} → (C → ℕ) → ReaderState → IoRequestId → IoResult C → ReaderState → Type 0
ReaderTakes means old number outcome new = new ≡ handed means old.shown old outcome

-- every number of a fetch names its chunk
abbrev pub reader_names : ReaderState → IoRequestId → Option IoTarget
reader_names it number = Some (first_chunk it.split)

-- the number of a split's first chunk
abbrev pub number_at : {C : Type 0} → (C → ℕ) → Content C → ℕ → Option ℕ
number_at means content split = option_map means (chunk_at content split 0)

-- the number that was given, or else another
abbrev pub given_or : Option ℕ → Option ℕ → Option ℕ
given_or None other = other
given_or (Some number) other = Some number

-- the number whose rows are left to give, where the content has another
abbrev pub left_at : State → Option ℕ → Option ℕ → Option ℕ
left_at state.Done given at = None
left_at state.NeedsCompute given at = given_or given at
left_at state.Waiting given at = at

-- the number whose rows it still has to give
abbrev pub number_left : {C : Type 0} → (C → ℕ) → ReaderState → Content C → Option ℕ
number_left means it content = left_at it.shown it.given (number_at means content it.split)

-- so many rows, without columns
abbrev pub rows_for : Option ℕ → List Rows
rows_for None = []
rows_for (Some number) = record { count = number; columns = [] } ∷ []

-- the rows that it owes
abbrev pub reader_owed : {C : Type 0} → (C → ℕ) → ReaderState → Content C → List Rows
reader_owed means it content = rows_for (number_left means it content)

-- what it has asked: its chunk, for which it waits
abbrev pub asked_while : State → IoRequest → List IoRequest
asked_while state.Done request = []
asked_while state.NeedsCompute request = []
asked_while state.Waiting request = request ∷ []

abbrev pub reader_asked : ReaderState → List IoRequest
reader_asked it = asked_while it.shown (chunk_request it.split)

-- a bound on its computations
abbrev pub work_at : State → Option ℕ → ℕ
work_at state.Done given = 1
work_at state.NeedsCompute None = 3
work_at state.NeedsCompute (Some number) = 2
work_at state.Waiting given = 2

abbrev pub reader_work : ReaderState → ℕ
reader_work it = work_at it.shown it.given

-- it is permitted want of memory, and a fault where its number is 0
abbrev pub reader_permits : {C : Type 0} → (C → ℕ) → ReaderState → Content C → IoError → Type 0
reader_permits means it content error.Fault = number_left means it content ≡ Some 0
reader_permits means it content error.OutOfMemory = Unit {0}

-- it is fresh until it fetches its chunk, which is all that it fetches
abbrev pub is_fresh_at : State → Option ℕ → Bool
is_fresh_at state.Done given = false
is_fresh_at state.NeedsCompute None = true
is_fresh_at state.NeedsCompute (Some number) = false
is_fresh_at state.Waiting given = false

abbrev pub is_fresh : ReaderState → Bool
is_fresh it = is_fresh_at it.shown it.given

abbrev pub targets_if : Bool → ℕ → List IoTarget
targets_if false split = []
targets_if true split = first_chunk split ∷ []

abbrev pub reader_plan : {C : Type 0} → ReaderState → Option (Content C) → List IoTarget
reader_plan it told = targets_if (is_fresh it) it.split

-- an array without columns
abbrev pub has_no_columns : BatchParts → Bool
has_no_columns array = length array.columns == 0
