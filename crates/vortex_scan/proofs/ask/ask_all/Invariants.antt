use Rattle.std.proofs.Common.{ℕ}
use Rattle.vortex_scan.specs.Going.{AsksAll}
use Rattle.vortex_scan.specs.RunState.{live_with}
use Rattle.vortex_scan.specs.Sources.{KeepsEach}
use Rattle.vortex_scan.proofs.ask.ask_all.Given as goal

abbrev pub invariant-loop-root : goal.invariant-loop-root
invariant-loop-root g l = record {
  asked : (owners : ℕ) → AsksAll g.W.Worker g.S.IoSource g.W.Payload.Payload l.root (live_with l.initial.items.items l.initial.slots.items owners) (live_with l.items.items l.slots.items owners);
  kept : KeepsEach g.S.IoSource l.initial.slots.items l.slots.items;
}
