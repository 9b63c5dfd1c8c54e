use Rattle.std.proofs.Common.{◌∙◌, ap}
use Rattle.std.specs.Prelude.{filter}
use Rattle.vortex_array_types.specs.Row.{Column}
use Rattle.vortex_table.specs.ChunkOf.{chunk_column}
use Rattle.vortex_table.specs.Kept.{passes}
use Rattle.vortex_table.proofs.ReadBack.{column_read, oldest_read}
use Rattle.vortex_table.proofs.partition.next_kept.Goals as goal

pub kept_in-requires : goal.kept_in-requires
kept_in-requires c =
    let taken = c.in_ok-completion.ensures.ok in
    let same = oldest_read c.args.source.now.chunks c.args.source.now.outstanding c.wait_oldest.new.source.outstanding taken.oldest c.in-Chunk.chunk c.requires.asked.0 taken.left (rw c.in-Chunk.is at taken.agrees) c.requires.asked.1 in
    ap (λ (column : Column). column.dtype) (c.array_of.ensures ∙ ap chunk_column c.in-Chunk.chunk-is ∙ same)

pub returns-clause-kept : goal.returns-clause-kept
returns-clause-kept c numbers e =
    let taken = c.in_ok-completion.ensures.ok in
    let same = oldest_read c.args.source.now.chunks c.args.source.now.outstanding c.wait_oldest.new.source.outstanding taken.oldest c.in-Chunk.chunk numbers taken.left (rw c.in-Chunk.is at taken.agrees) e in
    let column = c.array_of.ensures ∙ ap chunk_column c.in-Chunk.chunk-is ∙ same in
    c.in_ok-kept-in-Chunk.ensures ∙ ap (filter (passes c.args.keep.now)) (column_read _ numbers column)
