use Rattle.std.proofs.Common.{ℕ, ◌<◌}
use Rattle.std.specs.Prelude.{slice_index_or}
use Rattle.vortex_table_types.specs.Answers.{Given, IsBefore}
use Rattle.vortex_judge.proofs.judge.is_last.Given as goal

abbrev pub invariant-loop-earlier : goal.invariant-loop-earlier
invariant-loop-earlier l = (k : ℕ) (d : Given) → k < l.earlier → IsBefore (slice_index_or l.batches k d).scope (slice_index_or l.batches l.place d).scope
