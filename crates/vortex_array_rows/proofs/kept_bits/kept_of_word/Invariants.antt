use Rattle.std.proofs.Common.{◌≡◌, ◌≤◌, ◌<◌, ◌-◌, ◌^◌, Bool, List, length}
use Rattle.std.specs.Simd.Lanes.{mask_l}
use Rattle.vortex_array_rows.proofs.PackedBits.{Walk}
use Rattle.vortex_array_rows.proofs.kept_bits.kept_of_word.Given as goal

abbrev pub invariant-loop-rest : goal.invariant-loop-rest
invariant-loop-rest l = record {
  reach : l.at ≤ 64;
  rest_small : l.rest < 2 ^ (64 - l.at);
  few : l.count ≤ l.at;
  packed_small : l.packed < 2 ^ l.count;
  walk : (group : List Bool) → length group ≤ 64 → l.bits ≡ mask_l group → l.set < 2 ^ length group → Walk l.set group l.rest l.at l.packed l.count;
}

abbrev pub decreases-loop-rest : goal.decreases-loop-rest
decreases-loop-rest l = 64 - l.at
