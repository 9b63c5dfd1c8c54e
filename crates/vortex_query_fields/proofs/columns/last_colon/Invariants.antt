use Rattle.std.proofs.Common.{◌≡◌, ◌≤◌, length, take}
use Rattle.vortex_query_fields.specs.Columns.{last_place}
use Rattle.vortex_query_fields.proofs.columns.last_colon.Given as goal

abbrev pub invariant-loop-left : goal.invariant-loop-left
invariant-loop-left l = (l.left ≤ length l.cell) × (last_place 58 (take l.left l.cell) ≡ last_place 58 l.cell)

abbrev pub decreases-loop-left : goal.decreases-loop-left
decreases-loop-left l = l.left
