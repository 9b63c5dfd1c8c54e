use Rattle.std.proofs.Common.{◌≡◌, ◌+◌, ◌≤◌, ◌++◌, length, vec_len, vec_capacity}
use Rattle.vortex_scan.specs.Sources.{ClearsEach}
use Rattle.vortex_scan.proofs.taking.clear_all.Given as goal

abbrev pub invariant-loop-slot : goal.invariant-loop-slot
invariant-loop-slot g l = record {
  whole : l.yielded ++ l.slot-iterator.rest.items ≡ l.fn.slots.items;
  cleared : ClearsEach g.S.IoSource l.yielded l.sources.items;
  room : vec_len l.sources + length l.slot-iterator.rest.items ≤ vec_capacity l.sources;
}
