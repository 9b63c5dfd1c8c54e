use Rattle.std.proofs.Common.{length}
use Rattle.vortex_table_chunks.proofs.named.+find_chunk.Given as goal

abbrev pub decreases-find_chunk : goal.decreases-find_chunk
decreases-find_chunk l = length l.columns.now
