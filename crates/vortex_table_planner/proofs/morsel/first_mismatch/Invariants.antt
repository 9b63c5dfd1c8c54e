use Rattle.std.proofs.Common.{ℕ, ◌<◌, Option}
use Rattle.std.specs.Prelude.{slice_index_or}
use Rattle.vortex_array_types.specs.declared.column.ColumnDesc.{ColumnDesc}
use Rattle.vortex_table_chunks.specs.Rows.{IsPartOrMissing}
use Rattle.vortex_table_chunks.specs.declared.chunk.Chunk.{Chunk}
use Rattle.vortex_table_planner.proofs.morsel.first_mismatch.Given as goal

abbrev pub invariant-loop-place : goal.invariant-loop-place
invariant-loop-place l = (i : ℕ) (d : ColumnDesc) (e : Option Chunk) → i < l.place → IsPartOrMissing l.rows (slice_index_or l.columns i d) (slice_index_or l.chunks i e)
