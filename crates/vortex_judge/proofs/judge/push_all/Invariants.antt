use Rattle.std.proofs.Common.{◌≡◌, ◌++◌, take}
use Rattle.vortex_judge.proofs.judge.push_all.Given as goal

abbrev pub invariant-loop-row : goal.invariant-loop-row
invariant-loop-row l = l.list.items ≡ l.initial.list.items ++ take l.row-index l.rows
