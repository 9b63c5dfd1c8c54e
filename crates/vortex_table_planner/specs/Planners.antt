-- Planners of tables: each makes the morsels of a partition's live splits, in order.
use Rattle.std.specs.Prelude.{◌≡◌, ◌⊎◌, ℕ, ◌+◌, ◌*◌, ◌&&◌, min, max, Bool, Option, None, Some, Result, Ok, Err, List, [], ◌∷◌, length, map, flat_map}
use Rattle.std.specs.declared.ops.Range.{Range}
use Rattle.vortex_array_types.specs.declared.column.ColumnDesc.{ColumnDesc}
use Rattle.vortex_io.specs.Source.{Content}
use Rattle.vortex_io.specs.declared.ids.IoRequestId.{IoRequestId}
use Rattle.vortex_io.specs.declared.request.IoRequest.{IoRequest}
use Rattle.vortex_io.specs.declared.request.IoResult.{IoResult}
use Rattle.vortex_io.specs.declared.request.IoTarget.{IoTarget}
use Rattle.vortex_io.specs.declared.request.IoTarget.TheVariants as target
use Rattle.vortex_scan.specs.Owed.{Entry, under}
use Rattle.vortex_scan.specs.Plans.{Planned}
use Rattle.vortex_scan.specs.declared.state.PlannerOutput.{PlannerOutput}
use Rattle.vortex_scan.specs.declared.state.PlannerOutput.TheVariants as planner
use Rattle.vortex_scan.specs.declared.state.State.{State}
use Rattle.vortex_scan.specs.declared.state.State.TheVariants as state
use Rattle.vortex_scan_types.specs.Members.{in_selection, in_some_range, places_of}
use Rattle.vortex_scan_types.specs.declared.request.ScanRequest.{ScanRequest}
use Rattle.vortex_scan_types.specs.declared.selection.Selection.{Selection}
use Rattle.vortex_table_types.specs.declared.describe.PartitionDesc.{PartitionDesc}
use Rattle.vortex_table_chunks.specs.declared.chunk.Chunk.{Chunk}
use Rattle.vortex_table_planner.specs.Live.{live_splits, morsels_of, needed_columns}
use Rattle.vortex_table_planner.specs.Morsels.{IsFitting, MorselState, morsel_owed, morsel_permits, new_morsel}
use Rattle.vortex_table_planner.specs.declared.errors.PlanError.{PlanError}
use Rattle.vortex_table_planner.specs.declared.errors.PlanError.TheVariants as error
use Rattle.vortex_table_planner.specs.declared.live.LiveSplit.{LiveSplit}
use Rattle.vortex_table_planner.specs.declared.wanted.Wanted.{Wanted}

-- what is wanted of each split; which rows of the partition are selected; and the live splits that are left
pub record PlannerState : Type 0 where
  pub wanted : Wanted
  pub row_range : Option (Range ℕ)
  pub selection : Selection
  pub left : List LiveSplit

-- a row of the partition is selected
abbrev pub is_picked : Option (Range ℕ) → Selection → ℕ → Bool
is_picked range selection row = in_some_range range row && in_selection selection row

-- which rows of a split are selected, a bit a row
abbrev pub picked_bits : Option (Range ℕ) → Selection → Range ℕ → List Bool
picked_bits range selection rows = map (is_picked range selection) (places_of rows)

-- the rows that lie in a range too
abbrev pub clipped : Option (Range ℕ) → Range ℕ → Range ℕ
clipped None rows = rows
clipped (Some range) rows = record { start = max rows.start range.start; end = min rows.end range.end }

-- the morsel of a live split
abbrev pub morsel_for : PlannerState → LiveSplit → MorselState
morsel_for it live = new_morsel it.wanted (picked_bits it.row_range it.selection live.scope.rows) live.split

-- it always computes
abbrev pub planner_state : PlannerState → State
planner_state it = state.NeedsCompute

-- one computation: it makes the morsel of its first live split, or is done where none is left
abbrev pub PlannerComputes : PlannerState → Result (PlannerOutput PlannerState MorselState) PlanError → PlannerState → Type 0
PlannerComputes old (Ok planner.Done) new = (old.left ≡ []) × (new ≡ old)
PlannerComputes old (Ok planner.Continue) new = ⊥
PlannerComputes old (Ok (planner.NeedsIO batch)) new = ⊥
PlannerComputes old (Ok (planner.Planner scope child)) new = ⊥
PlannerComputes old (Ok (planner.Morsel scope child)) new =
    (live : LiveSplit) × (old.left ≡ live ∷ new.left) × (scope ≡ live.scope) × (child ≡ morsel_for old live) × (new ≡ record old { left = new.left })
PlannerComputes old (Err failure) new = (failure ≡ error.OutOfMemory) × (new ≡ old)

-- it asks for nothing, and takes nothing
abbrev pub PlannerTakes : PlannerState → IoRequestId → IoResult Chunk → PlannerState → Type 0
PlannerTakes old number outcome new = new ≡ old

abbrev pub planner_names : PlannerState → IoRequestId → Option IoTarget
planner_names it number = Some target.Size

abbrev pub planner_asked : PlannerState → List IoRequest
planner_asked it = []

-- the chosen rows of the splits that are left
abbrev pub planner_owed : PlannerState → Content Chunk → List Entry
planner_owed it content = flat_map (λ (live : LiveSplit). under live.scope (morsel_owed (morsel_for it live) content)) it.left

-- a bound on its computations and those of its morsels
abbrev pub planner_work : PlannerState → ℕ
planner_work it = 4 * length it.left + 1

-- the needed columns are columns, each once
abbrev pub planner_orderly : PlannerState → Type 0
planner_orderly it = IsFitting it.wanted

-- some morsel of these splits is permitted the error
abbrev pub PermitsSome : PlannerState → Content Chunk → PlanError → List LiveSplit → Type 0
PermitsSome it content failure [] = ⊥
PermitsSome it content failure (live ∷ left) = morsel_permits (morsel_for it live) content failure ⊎ PermitsSome it content failure left

-- it is permitted want of memory, and what its morsels are
abbrev pub planner_permits : PlannerState → Content Chunk → PlanError → Type 0
planner_permits it content (error.ChunkMismatch split column) = PermitsSome it content (error.ChunkMismatch split column) it.left
planner_permits it content error.OutOfMemory = Unit {0}

-- the morsels of the splits that are left
abbrev pub planner_plan : PlannerState → Option (Content Chunk) → List Planned
planner_plan it told = morsels_of it.wanted.needed it.left

-- what a request wants of every split
abbrev pub wanted_by : List ColumnDesc → ScanRequest → Wanted
wanted_by columns request = record { columns = columns; filter = request.filter; projection = request.projection; needed = needed_columns columns request }

-- a new planner of partition p
abbrev pub new_planner : List ColumnDesc → ℕ → PartitionDesc → ScanRequest → PlannerState
new_planner columns p partition request = record {
  wanted = wanted_by columns request;
  row_range = request.row_range;
  selection = request.selection;
  left = live_splits request p partition;
}
