use Rattle.std.proofs.Common.{◌≡◌, take}
use Rattle.vortex_array.specs.ColumnOf.{column_of}
use Rattle.vortex_judge.proofs.read.read_column.Given as goal

abbrev pub invariant-loop-i : goal.invariant-loop-i
invariant-loop-i l = l.rows.items ≡ take l.i (column_of l.array).rows
