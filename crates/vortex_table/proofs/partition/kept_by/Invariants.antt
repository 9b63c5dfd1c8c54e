use Rattle.std.proofs.Common.{◌≡◌, take, Some}
use Rattle.std.specs.Prelude.{filter}
use Rattle.vortex_table.specs.Kept.{passes}
use Rattle.vortex_table.proofs.partition.kept_by.Given as goal

abbrev pub invariant-loop-value : goal.invariant-loop-value
invariant-loop-value g l = l.kept.items ≡ filter (passes (Some l.comparison)) (take l.value-index l.values)
