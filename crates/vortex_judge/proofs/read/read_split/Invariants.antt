use Rattle.std.proofs.Common.{◌≡◌, take, map}
use Rattle.vortex_table.specs.ChunkOf.{chunk_column}
use Rattle.vortex_judge.proofs.read.read_split.Given as goal

abbrev pub invariant-loop-chunk : goal.invariant-loop-chunk
invariant-loop-chunk l = l.columns.items ≡ map chunk_column (take l.chunk-index l.chunks)
