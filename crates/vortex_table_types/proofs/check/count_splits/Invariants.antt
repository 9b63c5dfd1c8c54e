use Rattle.std.proofs.Common.{◌≡◌, ◌<◌, ◌^◌, take, length}
use Rattle.std.specs.Prelude.{sum_by}
use Rattle.vortex_table_types.proofs.check.count_splits.Given as goal

abbrev pub invariant-loop-partition : goal.invariant-loop-partition
invariant-loop-partition l = (l.splits < 2 ^ 64) × (l.splits ≡ sum_by (λ partition. length partition.splits) (take l.partition-index l.partitions))
