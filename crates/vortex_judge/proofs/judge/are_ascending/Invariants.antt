use Rattle.std.proofs.Common.{ℕ, ◌<◌}
use Rattle.vortex_judge.specs.Steps.{Before}
use Rattle.vortex_table_types.specs.Answers.{IsBefore}
use Rattle.vortex_judge.proofs.judge.are_ascending.Given as goal

abbrev pub invariant-loop-place : goal.invariant-loop-place
invariant-loop-place l = (j : ℕ) → j < l.place → Before (λ b c. IsBefore b.scope c.scope) l.batches j
