use Rattle.std.proofs.Common.{◌≡◌}
use Rattle.std.specs.Prelude.{replicate}
use Rattle.vortex_array_cast.proofs.fill.equal_items.Given as goal

abbrev pub invariant-loop : goal.invariant-loop
invariant-loop g l = l.made.items ≡ replicate l.counter l.item
