use Rattle.std.proofs.Common.{◌≡◌, true, take}
use Rattle.std.specs.List.{list_all}
use Rattle.vortex_decimal_byte_parts.specs.Checked.{has_length}
use Rattle.vortex_decimal_byte_parts.proofs.checks.have_length.Given as goal

abbrev pub invariant-loop-part : goal.invariant-loop-part
invariant-loop-part l = list_all (has_length l.len) (take l.part-index l.parts) ≡ true
