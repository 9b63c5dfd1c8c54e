use Rattle.std.proofs.Common.{ℕ, ◌<◌}
use Rattle.vortex_table_types.specs.Described.{IsApart}
use Rattle.vortex_table_types.proofs.check.have_own_names.Given as goal

abbrev pub invariant-loop-place : goal.invariant-loop-place
invariant-loop-place l = (j : ℕ) → j < l.place → IsApart l.columns j
