use Rattle.vortex_buffer.specs.Mask.{mask_bits}
use Rattle.vortex_decimal_byte_parts.proofs.Growing.{SplitSoFar}
use Rattle.vortex_decimal_byte_parts.proofs.split.split_wide.Given as goal

abbrev pub invariant-loop-i : goal.invariant-loop-i
invariant-loop-i g l = SplitSoFar (λ x r. goal.F-post g l.to_parts x r) l.values (mask_bits l.validity) l.i l.msp.items l.lower.items
