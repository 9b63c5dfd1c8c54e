use Rattle.std.proofs.Common.{◌≡◌, ◌≤◌, ◌+◌, ◌-◌, ◌++◌, length, map, take}
use Rattle.std.specs.Prelude.{vec_capacity, vec_len}
use Rattle.vortex_array_lists.proofs.byte_lists.push_moved.Given as goal

abbrev pub invariant-loop-end : goal.invariant-loop-end
invariant-loop-end l = record {
  moved : l.ends.items ≡ l.fn.ends.items ++ map (λ end. l.to + (end - l.from)) (take l.end-index l.part);
  room : vec_len l.ends + (length l.part - l.end-index) ≤ vec_capacity l.ends;
}
