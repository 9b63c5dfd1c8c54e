use Rattle.std.proofs.Common.{ℕ, ◌<◌}
use Rattle.std.specs.Prelude.{slice_index_or}
use Rattle.vortex_array_types.specs.declared.column.ColumnDesc.{ColumnDesc}
use Rattle.vortex_table_types.specs.declared.describe.ChunkDesc.{ChunkDesc}
use Rattle.vortex_table_types.specs.Described.{IsChunkOf}
use Rattle.vortex_table_types.proofs.check.are_chunks_of.Given as goal

abbrev pub invariant-loop-place : goal.invariant-loop-place
invariant-loop-place l = (i : ℕ) (d : ColumnDesc) (e : ChunkDesc) → i < l.place → IsChunkOf l.split (slice_index_or l.columns i d) (slice_index_or l.chunks i e)
