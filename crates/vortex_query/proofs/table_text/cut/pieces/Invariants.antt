use Rattle.std.proofs.Common.{◌≡◌, map}
use Rattle.std.specs.List.{range_with_len}
use Rattle.vortex_query.specs.Spelled.{piece}
use Rattle.vortex_query.proofs.table_text.cut.pieces.Given as goal

abbrev pub invariant-loop-place : goal.invariant-loop-place
invariant-loop-place l = map (λ part. part.now) l.parts.items ≡ map (piece l.size l.numbers) (range_with_len 0 l.place)
