use Rattle.std.proofs.Common.{◌≡◌, ◌+◌, ◌-◌, ◌≤◌, ◌++◌, length, take}
use Rattle.std.specs.VecDeque.{deque_len, deque_capacity}
use Rattle.vortex_io.specs.Source.{fetches}
use Rattle.vortex_io.proofs.held.add_fetches.Given as goal

abbrev pub invariant-loop-request : goal.invariant-loop-request
invariant-loop-request l = record {
  added : l.outstanding.items ≡ l.initial.outstanding.items ++ fetches l.owner (take l.request-index l.batch);
  room : deque_len l.outstanding + (length l.batch - l.request-index) ≤ deque_capacity l.outstanding;
}
