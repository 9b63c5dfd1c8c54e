use Rattle.vortex_table.proofs.SplitSteps.{none_outside}
use Rattle.vortex_table_types.proofs.Zipped.{from_false}
use Rattle.vortex_table.proofs.partition.fetch_and_scan.Goals as goal

pub unreachable-requires : goal.unreachable-requires
unreachable-requires c =
    let outside = (rw c.in-Err-Fault.field-0-is at c.in-Err-Fault.ensures.submits).0 in
    let none = none_outside c.args.source.now.chunks c.args.splits.now c.requires.held.0 c.requires.held.1 in
    from_false (rw (c.in_ok-batch.ensures, none) at outside)
