use Rattle.std.proofs.Common.{◌≡◌, ℕ}
use Rattle.vortex_scan.specs.Going.{Gives}
use Rattle.vortex_scan.specs.RunState.{live_with}
use Rattle.vortex_scan.specs.Sources.{KeepsEach}
use Rattle.vortex_scan.specs.Visits.{asked_count}
use Rattle.vortex_scan.specs.declared.item.Slot.{Slot}
use Rattle.std.specs.Prelude.{slice_get, Some, true}
use Rattle.vortex_scan.proofs.ask.ask_out.Given as goal

abbrev pub invariant-asking : goal.invariant-asking
invariant-asking g l = record {
  gives : (times : ℕ) × ((owners : ℕ) → Gives g.W.Worker g.S.IoSource g.W.Payload.Payload l.root.0 times (live_with l.initial.items.items l.initial.slots.items owners) (live_with l.items.items l.slots.items owners));
  live : (slot : Slot _) → slice_get l.slots.items l.root.0 ≡ Some slot → slot.live ≡ true;
  kept : KeepsEach g.S.IoSource l.initial.slots.items l.slots.items;
}

abbrev pub decreases-asking : goal.decreases-asking
decreases-asking g l = asked_count l.items.items
