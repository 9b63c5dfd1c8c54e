use Rattle.std.proofs.Common.{◌≡◌, All}
use Rattle.vortex_table.specs.Given.{contents_of}
use Rattle.vortex_table.specs.State.{ArrivesInOrder}
use Rattle.judged_scans.proofs.stored.push_sources.Given as goal

abbrev pub invariant-loop-piece : goal.invariant-loop-piece
invariant-loop-piece l = record {
  contents : l.contents.items ≡ contents_of l.sources.items;
  arrives : All ArrivesInOrder l.sources.items;
}
