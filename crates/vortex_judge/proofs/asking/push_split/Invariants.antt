use Rattle.std.proofs.Common.{◌≡◌, ◌++◌, ◌-◌, map}
use Rattle.std.specs.List.{range_with_len}
use Rattle.vortex_table_types.specs.Table.{row_at, split_rows}
use Rattle.vortex_judge.proofs.asking.push_split.Given as goal

abbrev pub invariant-loop-row : goal.invariant-loop-row
invariant-loop-row l = l.list.items ++ map (row_at l.columns) (range_with_len l.row (l.split.rows - l.row)) ≡ l.initial.list.items ++ split_rows l.split l.columns
