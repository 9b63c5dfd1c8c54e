use Rattle.std.proofs.Common.{◌≡◌, take, map}
use Rattle.vortex_array_rows.specs.Taken.{taken_or}
use Rattle.vortex_array_rows.proofs.items.take_items_or.Given as goal

abbrev pub invariant-loop-i : goal.invariant-loop-i
invariant-loop-i g l = l.taken.items ≡ taken_or l.default l.items (take l.i (map g.P.RowIndex.place l.places)) (take l.i l.valid)
