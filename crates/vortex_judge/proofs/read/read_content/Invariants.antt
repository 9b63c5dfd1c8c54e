use Rattle.std.proofs.Common.{◌≡◌, take, map}
use Rattle.vortex_io.specs.Memory.{columns_of}
use Rattle.vortex_table.specs.ChunkOf.{content_of}
use Rattle.vortex_judge.proofs.read.read_content.Given as goal

abbrev pub invariant-loop-columns : goal.invariant-loop-columns
invariant-loop-columns l = l.splits.items ≡ content_of (map columns_of (take l.columns-index l.chunks))
