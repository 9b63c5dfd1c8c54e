use Rattle.std.proofs.Common.{◌≡◌, ap, arith, take}
use Rattle.std.specs.Prelude.{sum_by}
use Rattle.std.proofs.lemmas.List.{take_all}
use Rattle.vortex_table_types.specs.Described.{rows_of}
use Rattle.vortex_table_types.proofs.check.count_rows.Goals as goal

pub returns : goal.returns
returns c =
    let all : take c.loop-partition.partition-index c.args.partitions.now ≡ c.args.partitions.now = take_all c.loop-partition.partition-index c.args.partitions.now (omega arith) in
    let sums = ap (sum_by rows_of) all in
    (omega (arith, c.loop-partition.invariant.0, c.loop-partition.invariant.1, sums), omega (arith, c.loop-partition.invariant.1, sums))
