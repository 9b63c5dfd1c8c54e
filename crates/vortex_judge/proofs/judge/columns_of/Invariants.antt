use Rattle.std.proofs.Common.{◌≡◌, ◌++◌, drop}
use Rattle.vortex_judge.specs.Steps.{columns_from}
use Rattle.vortex_table_types.specs.Answers.{columns_of}
use Rattle.vortex_judge.proofs.judge.columns_of.Given as goal

abbrev pub invariant-loop-column : goal.invariant-loop-column
invariant-loop-column l = l.columns.items ++ columns_from l.column (drop l.column l.types) l.rows ≡ columns_of l.types l.rows
