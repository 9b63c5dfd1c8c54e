use Rattle.std.proofs.Common.{◌≡◌, replicate}
use Rattle.vortex_decimal_byte_parts.proofs.numbers.repeated.Given as goal

abbrev pub invariant-loop : goal.invariant-loop
invariant-loop g l = l.items.items ≡ replicate l.counter l.item
