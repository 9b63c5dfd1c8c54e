use Rattle.std.proofs.Common.{◌≡◌, IsTrue, rules}
use Rattle.std.specs.List.{AllZip}
use Rattle.vortex_table_types.specs.Table.{FitsPartition}
use Rattle.judged_scans.proofs.Sources.{fit_made}
use Rattle.judged_scans.proofs.stored.fitting.Goals as goal

pub returns-in-Ok : goal.returns-in-Ok
returns-in-Ok c =
    let good : IsTrue c.are_fit.result = search rules in
    let fits : AllZip FitsPartition c.args.partitions.items c.args.contents.now = rw c.deref.ensures.value at (c.are_fit.ensures.0 good) in
    fit_made c.args.partitions.items c.in-Ok.table c.args.contents.now c.args.sources.items fits c.requires.contents c.requires.arrives c.in-Ok.ensures.partitions c.in-Ok.ensures.sources
