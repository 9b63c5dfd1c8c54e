use Rattle.vortex_table_types.specs.Table.{FitsChunk}
use Rattle.vortex_judge.proofs.Zipped.{first_passed}
use Rattle.vortex_judge.proofs.fit.+fit_chunks.Goals as goal

pub returns-then-fits_chunk : goal.returns-then-fits_chunk
returns-then-fits_chunk t c =
    first_passed FitsChunk c.args.described.now c.args.chunks.now c.first-item.result c.chunk-item.result c.in-len1-up.len_at_least c.in-len1-up-chunks.len_at_least c.first-item.is c.chunk-item.is
    c.fits_chunk.ensures c.if-fits_chunk.true c.fit_chunks.ensures
