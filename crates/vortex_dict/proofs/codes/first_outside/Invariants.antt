use Rattle.std.proofs.Common.{ℕ, ◌<◌, ◌≡◌, true, map, get_or}
use Rattle.vortex_array_kinds.specs.Validities.{valid_at}
use Rattle.vortex_dict.proofs.codes.first_outside.Given as goal

abbrev pub invariant-loop-row : goal.invariant-loop-row
invariant-loop-row g l = (k : ℕ) → k < l.row → valid_at l.nulls k ≡ true → get_or (map g.P.RowIndex.place l.places) k 0 < l.bound
