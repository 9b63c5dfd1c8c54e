use Rattle.std.proofs.Common.{◌≡◌, ◌+◌}
use Rattle.vortex_table_scan.specs.Given.{rank}
use Rattle.vortex_table_scan.proofs.partitions.partition_at.Given as goal

-- the chosen partitions before the next one and those still to pass are as many as the root's number
abbrev pub invariant-partitions : goal.invariant-partitions
invariant-partitions l = rank l.fn.request l.partition + l.left ≡ l.fn.root
