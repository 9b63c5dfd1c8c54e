use Rattle.std.proofs.Common.{◌≡◌, ◌≤◌, ◌<◌, ◌-◌, ◌^◌, ◌++◌, drop, length}
use Rattle.vortex_array_rows.specs.Kept.{kept_in}
use Rattle.vortex_array_rows.proofs.kept_items.push_walked.Given as goal

abbrev pub invariant-loop-rest : goal.invariant-loop-rest
invariant-loop-rest g l = record {
  within : l.at ≤ length l.group;
  small : l.rest < 2 ^ (length l.group - l.at);
  so_far : l.kept.items ++ kept_in l.rest (drop l.at l.group) ≡ l.fn.kept.items ++ kept_in l.word l.group;
}

abbrev pub decreases-loop-rest : goal.decreases-loop-rest
decreases-loop-rest g l = length l.group - l.at
