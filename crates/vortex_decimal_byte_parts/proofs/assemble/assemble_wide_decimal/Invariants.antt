use Rattle.std.proofs.Common.{take}
use Rattle.std.specs.List.{AllZip, zip}
use Rattle.vortex_decimal_byte_parts.specs.Split.{IsNumberOf}
use Rattle.vortex_decimal_byte_parts.proofs.assemble.assemble_wide_decimal.Given as goal

abbrev pub invariant-loop-i : goal.invariant-loop-i
invariant-loop-i g l = AllZip (IsNumberOf g.M.Into.converts) (take l.i (zip l.msp l.lower)) l.numbers.items
