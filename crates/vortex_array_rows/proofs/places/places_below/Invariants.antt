use Rattle.std.proofs.Common.{ℕ, ◌<◌, map, get_or}
use Rattle.vortex_array_rows.proofs.places.places_below.Given as goal

abbrev pub invariant-loop-i : goal.invariant-loop-i
invariant-loop-i g l = (k : ℕ) → k < l.i → get_or (map g.P.RowIndex.place l.places) k 0 < l.bound
