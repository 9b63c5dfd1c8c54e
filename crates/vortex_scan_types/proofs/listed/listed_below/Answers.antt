use Rattle.std.proofs.Common.{rules, arith, sym, ltb}
use Rattle.std.proofs.lemmas.List.Sorted.{IsPartitionPoint-from_clause, IsPartitionedBy-ltb}
use Rattle.std.proofs.lemmas.List.Sums.{prefix_len_is}
use Rattle.vortex_scan_types.proofs.Ascending.{rises}
use Rattle.vortex_scan_types.proofs.listed.listed_below.Goals as goal

pub returns-clause-place : goal.returns-clause-place
returns-clause-place c =
    let xs = c.args.listed.now in
    let at = c.partition_point.result in
    let point = IsPartitionPoint-from_clause (λ y. ltb y c.args.bound) xs at c.partition_point.ensures.partitioned (IsPartitionedBy-ltb (λ x. x) xs c.args.bound (rises xs c.requires)) (λ a r k called. search rules) in
    sym (prefix_len_is (λ y. ltb y c.args.bound) xs at 0 c.partition_point.ensures.bound (λ k l. point.0 k 0 (omega arith) l) (λ l. point.1 at 0 (omega arith) l))
