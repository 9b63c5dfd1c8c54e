use Rattle.std.proofs.Common.{◌≡◌, [], map, take, get_or}
use Rattle.vortex_array_rows.proofs.items.take_lists.Given as goal

abbrev pub invariant-loop-place : goal.invariant-loop-place
invariant-loop-place g l = l.taken ≡ map (λ place. get_or l.lists place []) (take l.place-index (map g.P.RowIndex.place l.places))
