use Rattle.std.proofs.Common.{◌≡◌, ◌<◌, ◌+◌, ◌^◌, drop}
use Rattle.vortex_query_fields.specs.Numbers.{number_after}
use Rattle.vortex_query_fields.proofs.digits.few_digits.Given as goal

abbrev pub invariant-loop-byte : goal.invariant-loop-byte
invariant-loop-byte l = (l.number < 10 ^ (l.before + l.byte-index)) × (number_after l.number (drop l.byte-index l.bytes) ≡ number_after l.start l.bytes)
