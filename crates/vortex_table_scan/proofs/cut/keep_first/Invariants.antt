use Rattle.std.proofs.Common.{◌≡◌, ◌++◌}
use Rattle.vortex_table_scan.proofs.Cutting.{CutSoFar}
use Rattle.vortex_table_scan.proofs.cut.keep_first.Given as goal

abbrev pub invariant-batches : goal.invariant-batches
invariant-batches l = record {
  whole : l.yielded ++ l.batch-iterator.rest.items ≡ l.fn.batches.items;
  cut : CutSoFar l.fn.limit l.yielded l.kept.items l.left;
}
