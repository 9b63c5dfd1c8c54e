use Rattle.std.proofs.Common.{ℕ, ◌<◌, ◌≡◌, get_or, None}
use Rattle.vortex_array.specs.ColumnOf.{column_of}
use Rattle.vortex_dict.proofs.fill.first_equal.Given as goal

abbrev pub invariant-loop-place : goal.invariant-loop-place
invariant-loop-place l = (j : ℕ) → j < l.place → get_or (column_of l.values).rows j None ≡ l.fill.value → ⊥
