use Rattle.std.proofs.Common.{take}
use Rattle.std.specs.List.{AllZip}
use Rattle.vortex_array.specs.Head.{IsHeadOf}
use Rattle.vortex_array.proofs.select.heads.Given as goal

abbrev pub invariant-loop-column : goal.invariant-loop-column
invariant-loop-column l = AllZip (IsHeadOf l.k) (take l.column-index l.columns) l.heads.items
