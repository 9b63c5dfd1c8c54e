use Rattle.std.proofs.Common.{◌∙◌, ap, sym}
use Rattle.vortex_buffer.specs.Mask.{mask_bits}
use Rattle.vortex_table_chunks.specs.Rows.{chunk_of}
use Rattle.vortex_table_chunks.proofs.KeptRows.{holds-named, named-long}
use Rattle.vortex_table_chunks.proofs.chosen.named_array.Goals as goal

pub kept_rows-requires : goal.kept_rows-requires
kept_rows-requires c =
    named-long (mask_bits c.args.kept.now) c.args.columns.now c.args.chunks.now c.args.name.now c.chunk_named-chunk.result.now c.requires.fits
    (sym (ap (chunk_of c.args.columns.now c.args.chunks.now) c.as_str.ensures) ∙ c.chunk_named-chunk.ensures)

pub returns : goal.returns
returns c =
    holds-named (mask_bits c.args.kept.now) c.args.columns.now c.args.chunks.now c.args.name.now c.chunk_named-chunk.result.now c.in_ok-array.array c.requires.fits
    (sym (ap (chunk_of c.args.columns.now c.args.chunks.now) c.as_str.ensures) ∙ c.chunk_named-chunk.ensures) c.in_ok-array.ensures.column c.in_ok-array.ensures.plain
