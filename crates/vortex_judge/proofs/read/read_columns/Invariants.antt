use Rattle.std.proofs.Common.{◌≡◌, take, map}
use Rattle.vortex_array.specs.ColumnOf.{column_of}
use Rattle.vortex_judge.proofs.read.read_columns.Given as goal

abbrev pub invariant-loop-i : goal.invariant-loop-i
invariant-loop-i l = l.columns.items ≡ map column_of (take l.i l.array.columns)
