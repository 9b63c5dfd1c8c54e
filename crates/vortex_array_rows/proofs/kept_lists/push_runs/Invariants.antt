use Rattle.std.proofs.Common.{◌≡◌, ◌≤◌, ◌<◌, ◌-◌, ◌^◌, ◌++◌, drop, length}
use Rattle.vortex_array_rows.specs.Kept.{kept_in}
use Rattle.vortex_array_rows.proofs.kept_lists.push_runs.Given as goal

abbrev pub invariant-loop-rest : goal.invariant-loop-rest
invariant-loop-rest l = record {
  within : l.at ≤ length l.lists;
  small : l.rest < 2 ^ (length l.lists - l.at);
  so_far : l.kept ++ kept_in l.rest (drop l.at l.lists) ≡ l.fn.kept ++ kept_in l.word (drop l.start l.lists);
}

abbrev pub decreases-loop-rest : goal.decreases-loop-rest
decreases-loop-rest l = length l.lists - l.at
