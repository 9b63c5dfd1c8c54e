use Rattle.vortex_judge.proofs.Parts.{partition_done}
use Rattle.vortex_judge.proofs.chosen.chosen_rows.Goals as goal

pub loop-partition-preserved : goal.loop-partition-preserved
loop-partition-preserved c =
    partition_done c.args.request.now c.columns-columns.result.now c.loop-partition.list.items _ _ c.loop-partition.partition c.partitions-partitions.result.now c.index-partitions-partition.result _
    c.loop-partition-test.true c.index-partitions-partition.is c.as_slice.ensures c.in_ok-push_chosen.ensures c.loop-partition.invariant
