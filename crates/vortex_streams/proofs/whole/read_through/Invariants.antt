use Rattle.std.proofs.Common.{◌≤◌, ◌<◌, ◌-◌, length, vec_len}
use Rattle.std.specs.Io.KnownBytes.{Consumes}
use Rattle.vortex_streams.proofs.whole.read_through.Given as goal

abbrev pub invariant-loop-n : goal.invariant-loop-n
invariant-loop-n g l = record {
  later : g.I.ByteSource.faults l.fn.input ≤ g.I.ByteSource.faults l.input;
  bytes : Consumes (g.I.ByteSource.left l.fn.input) (g.I.ByteSource.left l.input) l.bytes.items;
  short : vec_len l.bytes ≤ l.limit;
  room : 0 < length l.buffer;
}

abbrev pub decreases-loop-n : goal.decreases-loop-n
decreases-loop-n g l = l.limit - vec_len l.bytes
