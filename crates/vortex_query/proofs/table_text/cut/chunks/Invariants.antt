use Rattle.std.proofs.Common.{◌≡◌, ◌∷◌, [], map, take}
use Rattle.vortex_io.specs.Memory.{columns_of}
use Rattle.vortex_table.specs.ChunkOf.{content_of}
use Rattle.vortex_query.specs.Spelled.{numbers_column}
use Rattle.vortex_query.proofs.table_text.cut.chunks.Given as goal

abbrev pub invariant-loop-part : goal.invariant-loop-part
invariant-loop-part l = content_of (map columns_of l.chunks.items) ≡ map (λ part. numbers_column part ∷ []) (map (λ part. part.now) (take l.part-index l.parts))
