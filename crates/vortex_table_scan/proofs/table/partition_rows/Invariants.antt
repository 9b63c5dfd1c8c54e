use Rattle.std.proofs.Common.{◌≡◌, take}
use Rattle.std.specs.Prelude.{sum_by}
use Rattle.vortex_table_types.specs.Described.{rows_of}
use Rattle.vortex_table_scan.proofs.table.partition_rows.Given as goal

abbrev pub invariant-loop-partition : goal.invariant-loop-partition
invariant-loop-partition l = l.rows ≡ sum_by rows_of (take l.partition-index l.partitions)
