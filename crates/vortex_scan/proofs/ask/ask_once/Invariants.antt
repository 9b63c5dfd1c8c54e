use Rattle.std.proofs.Common.{ℕ}
use Rattle.vortex_scan.specs.Asking.{AsksOnce}
use Rattle.vortex_scan.specs.RunState.{live_with}
use Rattle.vortex_scan.specs.Sources.{KeepsEach}
use Rattle.vortex_scan.proofs.ask.ask_once.Given as goal

abbrev pub invariant-loop-root : goal.invariant-loop-root
invariant-loop-root g l = record {
  asked : (owners : ℕ) → AsksOnce g.W.Worker g.S.IoSource g.W.Payload.Payload l.root (live_with l.initial.items.items l.initial.slots.items owners) (live_with l.items.items l.slots.items owners) l.came;
  kept : KeepsEach g.S.IoSource l.initial.slots.items l.slots.items;
}
