use Rattle.std.proofs.Common.{◌≡◌, replicate}
use Rattle.vortex_array.proofs.take.equal_places.Given as goal

abbrev pub invariant-loop : goal.invariant-loop
invariant-loop g l = l.places.items ≡ replicate l.counter l.place
