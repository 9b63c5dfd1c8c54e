use Rattle.std.proofs.Common.{take}
use Rattle.std.specs.Prelude.{All, IsTrue}
use Rattle.vortex_array_types.specs.Row.{in_width}
use Rattle.vortex_decimal_byte_parts.proofs.numbers.items_fit.Given as goal

abbrev pub invariant-loop-item : goal.invariant-loop-item
invariant-loop-item g l = All (λ x. IsTrue (in_width g.T.NativeValue.width (g.T.NativeValue.number x))) (take l.item-index l.items)
