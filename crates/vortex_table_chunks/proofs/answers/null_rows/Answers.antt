use Rattle.vortex_buffer.specs.Mask.{mask_bits}
use Rattle.vortex_table_chunks.specs.ChunkOf.{chunk_column}
use Rattle.vortex_table_chunks.proofs.Asked.{null-answers}
use Rattle.vortex_table_chunks.proofs.answers.null_rows.Goals as goal

pub returns : goal.returns
returns c =
    null-answers (chunk_column c.args.chunk.now).rows (mask_bits c.in_ok-present.present) c.in_ok-nulls.nulls c.new.result c.in_ok-present.ensures c.in_ok-nulls.ensures c.new.ensures
