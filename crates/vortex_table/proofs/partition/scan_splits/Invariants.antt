use Rattle.std.proofs.Common.{◌≡◌, ◌++◌, ℕ, List, take, drop}
use Rattle.std.specs.Prelude.{sum_by, map}
use Rattle.vortex_io.specs.Source.{fetches}
use Rattle.vortex_table.specs.Given.{given}
use Rattle.vortex_table.specs.Fetching.{first_owner, split_requests, waits_for}
use Rattle.vortex_table.specs.Scanning.{AreOfFirstRoot, HasNumbers, IsExtended, kept_batches}
use Rattle.vortex_table.proofs.partition.scan_splits.Given as goal

abbrev pub invariant-loop-split : goal.invariant-loop-split
invariant-loop-split l = record {
  start_is : l.start ≡ sum_by (λ split. split.rows) (take l.split-index l.splits);
  outstanding : l.source.outstanding ≡ fetches first_owner (split_requests l.split-index (drop l.split-index l.splits));
  stands : IsExtended l.fn.source l.source;
  waits : l.source.journal ++ waits_for (split_requests l.split-index (drop l.split-index l.splits)) ≡ l.fn.source.journal ++ waits_for (split_requests 0 l.splits);
  batches : (numbers : List (List ℕ)) → HasNumbers l.fn.source.chunks l.splits numbers → map given l.batches.items ++ kept_batches l.keep l.start (drop l.split-index l.splits) (drop l.split-index numbers) ≡ kept_batches l.keep 0 l.splits numbers;
  roots : AreOfFirstRoot l.batches.items;
}
