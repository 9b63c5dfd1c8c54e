use Rattle.std.proofs.Common.{◌≡◌, ◌++◌, drop}
use Rattle.vortex_table.specs.Fetching.{split_requests}
use Rattle.vortex_table.proofs.partition.requests_of.Given as goal

abbrev pub invariant-loop-split : goal.invariant-loop-split
invariant-loop-split l = l.batch ++ split_requests l.split (drop l.split l.splits) ≡ split_requests 0 l.splits
