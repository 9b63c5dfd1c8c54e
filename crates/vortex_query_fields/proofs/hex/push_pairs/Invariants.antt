use Rattle.std.proofs.Common.{length}
use Rattle.vortex_query_fields.proofs.Hexed.{Going}
use Rattle.vortex_query_fields.proofs.hex.push_pairs.Given as goal

abbrev pub invariant-loop-rest : goal.invariant-loop-rest
invariant-loop-rest l = Going l.fn.bytes.items l.bytes.items l.fn.pairs l.rest

abbrev pub decreases-loop-rest : goal.decreases-loop-rest
decreases-loop-rest l = length l.rest
