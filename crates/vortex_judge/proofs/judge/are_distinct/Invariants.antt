use Rattle.std.proofs.Common.{ℕ, ◌<◌}
use Rattle.std.specs.Prelude.{◌≢◌}
use Rattle.vortex_judge.specs.Steps.{Before}
use Rattle.vortex_judge.proofs.judge.are_distinct.Given as goal

abbrev pub invariant-loop-place : goal.invariant-loop-place
invariant-loop-place l = (j : ℕ) → j < l.place → Before (λ b c. b.scope ≢ c.scope) l.batches j
