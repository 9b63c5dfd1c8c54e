use Rattle.std.proofs.Common.{◌≡◌, take}
use Rattle.std.specs.Prelude.{sum_by}
use Rattle.vortex_table_scan.proofs.table.split_rows.Given as goal

abbrev pub invariant-loop-split : goal.invariant-loop-split
invariant-loop-split l = l.rows ≡ sum_by (λ split. split.rows) (take l.split-index l.splits)
