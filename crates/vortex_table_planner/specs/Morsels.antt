-- Morsels of tables: each fetches the needed chunks of its split, waits for them, and gives the split's chosen rows.
use Rattle.std.specs.Prelude.{◌≡◌, ◌≢◌, ℕ, ◌+◌, ◌<◌, ◌&&◌, ◌==◌, Bool, true, false, IsTrue, Option, None, Some, Result, Ok, Err, List, [], ◌∷◌, length, map, filter, is_none, is_some, All, slice_get, slice_set, if◌then◌else◌}
use Rattle.std.specs.Option.{option_map, option_and_then}
use Rattle.std.specs.List.{AllByRecursion, AllZip, filter_map, list_all, list_any}
use Rattle.vortex_array.specs.Batch.{BatchParts}
use Rattle.vortex_array.specs.ColumnOf.{is_plain}
use Rattle.vortex_array_types.specs.Cells.{dtype_of}
use Rattle.vortex_array_types.specs.Row.{Column}
use Rattle.vortex_array_types.specs.Truth.{Cells}
use Rattle.vortex_array_types.specs.Typed.{well_typed}
use Rattle.vortex_array_types.specs.declared.column.ColumnDesc.{ColumnDesc}
use Rattle.vortex_io.specs.Source.{Content, chunk_at}
use Rattle.vortex_io.specs.declared.ids.IoRequestId.{IoRequestId}
use Rattle.vortex_io.specs.declared.request.IoIntent.TheVariants as intent
use Rattle.vortex_io.specs.declared.request.IoRequest.{IoRequest}
use Rattle.vortex_io.specs.declared.request.IoResult.{IoResult}
use Rattle.vortex_io.specs.declared.request.IoResult.TheVariants as result
use Rattle.vortex_io.specs.declared.request.IoTarget.{IoTarget}
use Rattle.vortex_io.specs.declared.request.IoTarget.TheVariants as target
use Rattle.vortex_scan.specs.Numbers.{repeats}
use Rattle.vortex_scan.specs.Owed.{Rows}
use Rattle.vortex_scan.specs.declared.state.MorselOutput.{MorselOutput}
use Rattle.vortex_scan.specs.declared.state.MorselOutput.TheVariants as morsel
use Rattle.vortex_scan.specs.declared.state.State.{State}
use Rattle.vortex_scan.specs.declared.state.State.TheVariants as state
use Rattle.vortex_table_types.specs.Chosen.{projected_names}
use Rattle.vortex_table_types.specs.Described.{HaveOwnNames}
use Rattle.vortex_table_chunks.specs.ChunkOf.{chunk_column}
use Rattle.vortex_table_chunks.specs.Kept.{IsBatchOf, StandsFor, kept_rows, rows_of}
use Rattle.vortex_table_chunks.specs.declared.chunk.Chunk.{Chunk}
use Rattle.vortex_table_planner.specs.Live.{chunks_of, columns_named, names_in}
use Rattle.vortex_table_planner.specs.Owing.{Differs}
use Rattle.vortex_table_planner.specs.declared.errors.PlanError.{PlanError}
use Rattle.vortex_table_planner.specs.declared.errors.PlanError.TheVariants as error
use Rattle.vortex_table_planner.specs.declared.phase.Phase.{Phase}
use Rattle.vortex_table_planner.specs.declared.phase.Phase.TheVariants as phase
use Rattle.vortex_table_planner.specs.declared.wanted.Wanted.{Wanted}

-- what is wanted of each split; which rows of this one are selected, a bit a row; its number; for each column the chunk that was given; and what comes next
pub record MorselState : Type 0 where
  pub wanted : Wanted
  pub bits : List Bool
  pub split : ℕ
  pub chunks : List (Option Chunk)
  pub step : Phase

-- a chunk for no column
abbrev pub no_chunks : List ColumnDesc → List (Option Chunk)
no_chunks columns = map (λ column. None) columns

-- a morsel that has done nothing yet
abbrev pub new_morsel : Wanted → List Bool → ℕ → MorselState
new_morsel wanted bits split = record { wanted = wanted; bits = bits; split = split; chunks = no_chunks wanted.columns; step = phase.Fresh }

-- the state that it shows
abbrev pub state_at : Phase → State
state_at phase.Fresh = state.NeedsCompute
state_at phase.Asking = state.Waiting
state_at phase.Ready = state.NeedsCompute
state_at phase.Done = state.Done

abbrev pub morsel_state : MorselState → State
morsel_state it = state_at it.step

-- which errors are want of memory
abbrev pub is_want : PlanError → Bool
is_want (error.ChunkMismatch split column) = false
is_want error.OutOfMemory = true

-- ---- chunks

-- the chunk of a column that was given
abbrev pub slot : List (Option Chunk) → ℕ → Option Chunk
slot chunks column = option_and_then (λ chunk. chunk) (slice_get chunks column)

-- no chunk of the column was given
abbrev pub is_missing : List (Option Chunk) → ℕ → Bool
is_missing chunks column = is_none (slot chunks column)

-- there is a place for the column's chunk, and none was given
abbrev pub is_free : Option (Option Chunk) → Bool
is_free None = false
is_free (Some None) = true
is_free (Some (Some chunk)) = false

-- the column is needed
abbrev pub is_among : List ℕ → ℕ → Bool
is_among needed column = list_any (λ other. other == column) needed

-- some needed chunk was not given
abbrev pub lacks : List ℕ → List (Option Chunk) → Bool
lacks needed chunks = list_any (is_missing chunks) needed

-- the fetch of a column's chunk: the column's number is the request's
abbrev pub chunk_request : ℕ → ℕ → IoRequest
chunk_request split column = record { intent = intent.Fetch; request = record { 0 = column }; target = target.Chunk split column }

-- the fetches of these columns' chunks
abbrev pub requests_of : ℕ → List ℕ → List IoRequest
requests_of split needed = map (chunk_request split) needed

-- ---- rows

-- the column of the chunk that was given, or else of another
abbrev pub seen : Option Chunk → Option Chunk → Option Column
seen (Some chunk) other = Some (chunk_column chunk)
seen None other = option_map chunk_column other

-- a column, or one of its type without rows
abbrev pub or_empty : ColumnDesc → Option Column → Column
or_empty column None = record { dtype = column.dtype; rows = [] }
or_empty column (Some some) = some

-- for each column, the first having number n, what its chunk stands for: the given one, or else the one that stands there
abbrev pub seen_from : List ColumnDesc → List (Option Chunk) → (ℕ → Option Chunk) → ℕ → List Column
seen_from [] chunks stands n = []
seen_from (column ∷ columns) [] stands n = or_empty column (seen None (stands n)) ∷ seen_from columns [] stands (n + 1)
seen_from (column ∷ columns) (chunk ∷ chunks) stands n = or_empty column (seen chunk (stands n)) ∷ seen_from columns chunks stands (n + 1)

-- the same, where the content has the other chunks
abbrev pub seen_columns : MorselState → Content Chunk → List Column
seen_columns it content = seen_from it.wanted.columns it.chunks (chunk_at content it.split) 0

-- the names of the projection
abbrev pub names_of : Wanted → List (List ℕ)
names_of wanted = projected_names wanted.columns wanted.projection

-- the rows that are kept, where these columns hold the split
abbrev pub kept_of : Wanted → List Bool → List Column → List Cells
kept_of wanted bits contents = kept_rows wanted.filter bits (rows_of wanted.columns contents (length bits))

-- what stands under a name in these rows, of the column's type
abbrev pub named_column : List ColumnDesc → List Cells → List ℕ → Option Column
named_column columns rows name = option_map (λ dtype. record { dtype = dtype; rows = map (λ cells. cells name) rows }) (dtype_of columns name)

-- these rows, in a column for each name
abbrev pub rows_under : List ColumnDesc → List (List ℕ) → List Cells → Rows
rows_under columns names rows = record { count = length rows; columns = filter_map (named_column columns rows) names }

-- rows, if there are any
abbrev pub if_any : List Cells → Rows → List Rows
if_any [] rows = []
if_any (cells ∷ more) rows = rows ∷ []

-- the kept rows of these columns, in the projected columns, if there are any
abbrev pub rows_for : Wanted → List Bool → List Column → List Rows
rows_for wanted bits contents = if_any (kept_of wanted bits contents) (rows_under wanted.columns (names_of wanted) (kept_of wanted bits contents))

-- the rows that it owes
abbrev pub owed_at : Phase → List Rows → List Rows
owed_at phase.Fresh rows = rows
owed_at phase.Asking rows = rows
owed_at phase.Ready rows = rows
owed_at phase.Done rows = []

abbrev pub morsel_owed : MorselState → Content Chunk → List Rows
morsel_owed it content = owed_at it.step (rows_for it.wanted it.bits (seen_columns it content))

-- what is wanted is valid for the columns: these have names of their own, every name is theirs, the filter meets its type rules, and the named columns are needed
pub record IsWanted (wanted : Wanted) : Type 0 where
  pub names : HaveOwnNames wanted.columns
  pub known : All (λ name. IsTrue (is_some (dtype_of wanted.columns name))) (names_in wanted.columns wanted.projection wanted.filter)
  pub types : IsTrue (well_typed wanted.columns wanted.filter)
  pub needed : wanted.needed ≡ columns_named wanted.columns (names_in wanted.columns wanted.projection wanted.filter)

-- what a morsel keeps: what is wanted is valid; there is a place for each column's chunk, and none is given of a column that is not needed; and with the
-- chunks at hand all needed ones were given
pub record IsMorsel (it : MorselState) : Type 0 where
  pub wanted : IsWanted it.wanted
  pub long : length it.chunks ≡ length it.wanted.columns
  pub spare : (column : ℕ) → is_missing it.chunks column ≡ false → is_among it.wanted.needed column ≡ true
  pub whole : it.step ≡ phase.Ready → lacks it.wanted.needed it.chunks ≡ false

-- ---- one computation

-- it is about to give its rows: all that it needs was given, or it needs nothing
abbrev pub is_ready : Phase → List ℕ → Bool
is_ready phase.Fresh [] = true
is_ready phase.Fresh (column ∷ columns) = false
is_ready phase.Asking needed = false
is_ready phase.Ready needed = true
is_ready phase.Done needed = false

-- the array has the kept rows, in the projected columns, whatever the columns hold that were not given
pub record Gives (it : MorselState) (array : BatchParts) : Type 0 where
  pub ready : is_ready it.step it.wanted.needed ≡ true
  pub long : length it.chunks ≡ length it.wanted.columns
  pub rows : (contents : List Column) → AllZip StandsFor it.chunks contents → IsBatchOf it.wanted.columns (names_of it.wanted) (kept_of it.wanted it.bits contents) array

-- the chunk of a needed column that it sees differs from its description, where it sees what `stands` has
pub record Mismatches (it : MorselState) (stands : ℕ → Option Chunk) (split column : ℕ) : Type 0 where
  pub here : split ≡ it.split
  pub needed : is_among it.wanted.needed column ≡ true
  pub described : ColumnDesc
  pub named : slice_get it.wanted.columns column ≡ Some described
  pub chunk : Column
  pub there : seen (slot it.chunks column) (stands column) ≡ Some chunk
  pub differs : Differs (length it.bits) described chunk

-- one computation: it fetches its needed chunks at once and waits, gives its rows, or is done where there are none
abbrev pub MorselComputes : MorselState → Result MorselOutput PlanError → MorselState → Type 0
MorselComputes old (Ok morsel.Done) new = ((array : BatchParts) × Gives old array × (array.rows ≡ 0)) × (new ≡ record old { step = phase.Done })
MorselComputes old (Ok morsel.Continue) new = ⊥
MorselComputes old (Ok (morsel.NeedsIO batch)) new = (old.step ≡ phase.Fresh) × (old.wanted.needed ≢ []) × (batch ≡ requests_of old.split old.wanted.needed) × (new ≡ record old { step = phase.Asking })
MorselComputes old (Ok (morsel.Batch array)) new = Gives old array × (array.rows ≢ 0) × (new ≡ record old { step = phase.Done })
MorselComputes old (Err (error.ChunkMismatch split column)) new = Mismatches old (λ _. None) split column × (new ≡ old)
MorselComputes old (Err error.OutOfMemory) new = new ≡ old

-- ---- results

-- every number names the chunk of the column with this number
abbrev pub morsel_names : MorselState → IoRequestId → Option IoTarget
morsel_names it number = Some (target.Chunk it.split number.0)

-- it waits for chunks
abbrev pub is_asking : Phase → Bool
is_asking phase.Fresh = false
is_asking phase.Asking = true
is_asking phase.Ready = false
is_asking phase.Done = false

-- it goes on waiting while a needed chunk is missing
abbrev pub settled : MorselState → MorselState
settled it = if lacks it.wanted.needed it.chunks then it else record it { step = phase.Ready }

-- it takes the chunk of this column: it waits, needs the column, and has no chunk of it
abbrev pub is_awaited : MorselState → ℕ → Bool
is_awaited it column = is_asking it.step && is_among it.wanted.needed column && is_free (slice_get it.chunks column)

-- a result taken: the chunk of a needed column that was not given, while it waits
abbrev pub handed : MorselState → ℕ → IoResult Chunk → MorselState
handed it column (result.Chunk chunk) =
    if is_awaited it column then settled (record it { chunks = slice_set it.chunks column (Some chunk) }) else it
handed it column (result.Size size) = it

abbrev pub MorselTakes : MorselState → IoRequestId → IoResult Chunk → MorselState → Type 0
MorselTakes old number outcome new = new ≡ handed old number.0 outcome

-- ---- behaviour

-- what it has asked: the needed chunks that were not given
abbrev pub asked_at : Phase → List IoRequest → List IoRequest
asked_at phase.Fresh requests = []
asked_at phase.Asking requests = requests
asked_at phase.Ready requests = []
asked_at phase.Done requests = []

abbrev pub morsel_asked : MorselState → List IoRequest
morsel_asked it = asked_at it.step (requests_of it.split (filter (is_missing it.chunks) it.wanted.needed))

-- a bound on its computations
abbrev pub work_at : Phase → ℕ
work_at phase.Fresh = 3
work_at phase.Asking = 2
work_at phase.Ready = 2
work_at phase.Done = 1

abbrev pub morsel_work : MorselState → ℕ
morsel_work it = work_at it.step

-- the needed columns are columns, each once
pub record IsFitting (wanted : Wanted) : Type 0 where
  pub inside : AllByRecursion (λ column. column < length wanted.columns) wanted.needed
  pub apart : repeats wanted.needed ≡ false

-- there is a place for each column's chunk; while it is fresh none was given, and while it waits some needed one is missing
pub record IsSound (it : MorselState) : Type 0 where
  pub wanted : IsFitting it.wanted
  pub long : length it.chunks ≡ length it.wanted.columns
  pub none : it.step ≡ phase.Fresh → filter (is_missing it.chunks) it.wanted.needed ≡ it.wanted.needed
  pub some : it.step ≡ phase.Asking → lacks it.wanted.needed it.chunks ≡ true

-- it is permitted want of memory, and a mismatch where a needed chunk that it sees differs from its description
abbrev pub morsel_permits : MorselState → Content Chunk → PlanError → Type 0
morsel_permits it content (error.ChunkMismatch split column) = Mismatches it (chunk_at content it.split) split column
morsel_permits it content error.OutOfMemory = Unit {0}

-- ---- plan

-- the targets that it may fetch
abbrev pub targets_at : Phase → List IoTarget → List IoTarget
targets_at phase.Fresh targets = targets
targets_at phase.Asking targets = []
targets_at phase.Ready targets = []
targets_at phase.Done targets = []

abbrev pub morsel_plan : MorselState → Option (Content Chunk) → List IoTarget
morsel_plan it told = targets_at it.step (chunks_of it.split it.wanted.needed)

-- it is fresh until it fetches, where it needs something
abbrev pub is_fresh_at : Phase → List ℕ → Bool
is_fresh_at phase.Fresh [] = false
is_fresh_at phase.Fresh (column ∷ columns) = true
is_fresh_at phase.Asking needed = false
is_fresh_at phase.Ready needed = false
is_fresh_at phase.Done needed = false

abbrev pub is_fresh : MorselState → Bool
is_fresh it = is_fresh_at it.step it.wanted.needed

-- all columns are plain arrays
abbrev pub has_plain_columns : BatchParts → Bool
has_plain_columns array = list_all is_plain array.columns
