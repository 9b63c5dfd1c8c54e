use Rattle.std.proofs.Common.{◌≡◌, take}
use Rattle.vortex_wire.proofs.writing.run_bytes.Given as goal
use Rattle.vortex_wire.specs.Canonical.{run_of}

abbrev pub invariant-loop-integer : goal.invariant-loop-integer
invariant-loop-integer l = l.run.items ≡ run_of (take l.integer-index l.integers)
