use Rattle.std.proofs.Common.{◌≡◌, take, map, get_or}
use Rattle.vortex_array_rows.proofs.items.take_items.Given as goal

abbrev pub invariant-loop-place : goal.invariant-loop-place
invariant-loop-place g l = (d : _) → l.taken.items ≡ map (λ place. get_or l.items place d) (take l.place-index (map g.P.RowIndex.place l.places))
