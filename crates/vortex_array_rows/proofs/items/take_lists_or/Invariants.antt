use Rattle.std.proofs.Common.{◌≡◌, [], map, take}
use Rattle.vortex_array_rows.specs.Taken.{taken_or}
use Rattle.vortex_array_rows.proofs.items.take_lists_or.Given as goal

abbrev pub invariant-loop-i : goal.invariant-loop-i
invariant-loop-i g l = l.taken ≡ taken_or [] l.lists (take l.i (map g.P.RowIndex.place l.places)) (take l.i l.valid)
