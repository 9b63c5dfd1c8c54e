use Rattle.std.proofs.Common.{ℕ, ◌<◌}
use Rattle.std.specs.Prelude.{slice_index_or, Contains}
use Rattle.vortex_table_types.specs.Answers.{Given}
use Rattle.vortex_judge.proofs.judge.are_named.Given as goal

abbrev pub invariant-loop-batch : goal.invariant-loop-batch
invariant-loop-batch l = (k : ℕ) (d : Given) → k < l.batch-index → Contains l.scopes (slice_index_or l.batches k d).scope
