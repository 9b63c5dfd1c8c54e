use Rattle.std.proofs.Common.{◌≡◌, map, take}
use Rattle.vortex_array.specs.ColumnOf.{column_of}
use Rattle.vortex_table.specs.Scanning.{u64_row}
use Rattle.vortex_table.proofs.numbers.read_numbers.Given as goal

abbrev pub invariant-loop-i : goal.invariant-loop-i
invariant-loop-i l = map u64_row l.numbers.items ≡ take l.i (column_of l.array).rows
