use Rattle.std.proofs.Common.{◌≡◌, take}
use Rattle.std.specs.Prelude.{filter}
use Rattle.vortex_table_types.specs.Chosen.{lies_in}
use Rattle.vortex_judge.proofs.judge.rows_in.Given as goal

abbrev pub invariant-loop-row : goal.invariant-loop-row
invariant-loop-row l = l.list.items ≡ filter (lies_in l.scope) (take l.row-index l.rows)
