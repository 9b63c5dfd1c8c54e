use Rattle.std.proofs.Common.{ℕ, ◌-◌}
use Rattle.vortex_scan.specs.Fits.{LiveFits}
use Rattle.vortex_scan.specs.Going.{GoesOn, state_with}
use Rattle.vortex_scan.specs.RunState.{live_with}
use Rattle.vortex_scan.specs.Sources.{KeepsEach}
use Rattle.vortex_scan.proofs.turn.go_on.Given as goal

abbrev pub invariant-turns : goal.invariant-turns
invariant-turns g l = record {
  goes : (roots : ℕ) → (turns : ℕ) × GoesOn g.W.Worker g.S.IoSource g.W.Payload.Payload turns (state_with l.initial.items.items l.initial.slots.items l.initial.next_owner l.initial.counts roots) (state_with l.items.items l.slots.items l.next_owner l.counts roots);
  fits : LiveFits g.S.IoSource (live_with l.items.items l.slots.items l.next_owner);
  kept : KeepsEach g.S.IoSource l.initial.slots.items l.slots.items;
}

abbrev pub decreases-turns : goal.decreases-turns
decreases-turns g l = l.counts.limit - l.counts.visits
