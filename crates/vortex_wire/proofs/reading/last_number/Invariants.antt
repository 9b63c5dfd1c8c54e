use Rattle.std.proofs.Common.{◌≡◌, ◌≤◌, ◌-◌, length, List, ℕ}
use Rattle.vortex_wire.proofs.Leading.{Until}
use Rattle.vortex_wire.proofs.reading.last_number.Given as goal
use Rattle.vortex_wire.specs.Messages.{latest}

abbrev pub invariant-loop-told : goal.invariant-loop-told
invariant-loop-told l = record {
  order : l.place.at ≤ l.place.run_end;
  inside : l.place.run_end ≤ length l.bytes;
  told : (numbers : List ℕ) × (l.last ≡ latest numbers) × Until l.runs l.number l.bytes l.place numbers;
}

abbrev pub decreases-loop-told : goal.decreases-loop-told
decreases-loop-told l = length l.bytes - l.place.at
