use Rattle.std.proofs.Common.{◌≡◌, ◌++◌, take, drop}
use Rattle.std.specs.VecDeque.{deque_len}
use Rattle.vortex_io.specs.Lying.{without}
use Rattle.vortex_io.proofs.lies.take_first.Given as goal

abbrev pub invariant-loop-place : goal.invariant-loop-place
invariant-loop-place l = record {
  same : l.outstanding ≡ l.fn.outstanding;
  end : l.place-end ≡ deque_len l.fn.outstanding;
  left : without l.owner l.request l.fn.outstanding.items ≡ take l.place l.fn.outstanding.items ++ without l.owner l.request (drop l.place l.fn.outstanding.items);
}
