use Rattle.std.proofs.Common.{◌≡◌, ◌<◌, ◌++◌, ℕ}
use Rattle.vortex_wire.proofs.Written.{limit}
use Rattle.vortex_wire.proofs.writing.push_varint.Given as goal
use Rattle.vortex_wire.specs.Canonical.{groups_of, shortest}

abbrev pub invariant-loop-left : goal.invariant-loop-left
invariant-loop-left l = (more : ℕ) × (l.left < limit more) × (l.out.items ++ groups_of more l.left ≡ l.fn.out.items ++ shortest l.number)

abbrev pub decreases-loop-left : goal.decreases-loop-left
decreases-loop-left l = l.left
