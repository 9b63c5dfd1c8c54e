use Rattle.std.proofs.Common.{◌≡◌, map, take}
use Rattle.vortex_query.specs.Spelled.{partition_of}
use Rattle.vortex_query.proofs.table_text.cut.partitions.Given as goal

abbrev pub invariant-loop-part : goal.invariant-loop-part
invariant-loop-part l = l.partitions.items ≡ map (partition_of l.size) (map (λ part. part.now) (take l.part-index l.parts))
