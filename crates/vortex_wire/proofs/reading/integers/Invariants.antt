use Rattle.std.proofs.Common.{◌≡◌, ◌≤◌, ◌-◌, length, List, ℕ, map, true}
use Rattle.vortex_wire.proofs.Leading.{Until}
use Rattle.vortex_wire.proofs.reading.integers.Given as goal
use Rattle.vortex_wire.specs.Messages.{signed}

abbrev pub invariant-loop-integers : goal.invariant-loop-integers
invariant-loop-integers l = record {
  order : l.place.at ≤ l.place.run_end;
  inside : l.place.run_end ≤ length l.bytes;
  told : (numbers : List ℕ) × (l.integers.items ≡ map signed numbers) × Until true l.number l.bytes l.place numbers;
}

abbrev pub decreases-loop-integers : goal.decreases-loop-integers
decreases-loop-integers l = length l.bytes - l.place.at
