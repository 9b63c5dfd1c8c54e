use Rattle.std.proofs.Common.{◌≡◌, ◌++◌, false, take}
use Rattle.vortex_io.specs.Source.{fetches}
use Rattle.vortex_scan.specs.Fetching.{numbers}
use Rattle.vortex_scan.specs.Numbers.{repeats}
use Rattle.vortex_scan.proofs.fetches.add_all.Given as goal

abbrev pub invariant-loop-request : goal.invariant-loop-request
invariant-loop-request l = record {
  added : l.items.items ≡ l.initial.items.items ++ fetches l.owner (take l.request-index l.batch);
  fresh : repeats (numbers l.items.items) ≡ false;
}
