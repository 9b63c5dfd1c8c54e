use Rattle.std.proofs.Common.{ℕ, ◌<◌}
use Rattle.std.specs.Prelude.{slice_index_or}
use Rattle.vortex_table_types.specs.Answers.{Given}
use Rattle.vortex_judge.proofs.judge.are_filled.Given as goal

abbrev pub invariant-loop-batch : goal.invariant-loop-batch
invariant-loop-batch l = (k : ℕ) (d : Given) → k < l.batch-index → 0 < (slice_index_or l.batches k d).rows
