use Rattle.std.proofs.Common.{◌≡◌, map, take}
use Rattle.vortex_query.specs.Spelled.{split_of}
use Rattle.vortex_query.proofs.table_text.cut.splits.Given as goal

abbrev pub invariant-loop-part : goal.invariant-loop-part
invariant-loop-part l = l.splits.items ≡ map split_of (map (λ part. part.now) (take l.part-index l.parts))
