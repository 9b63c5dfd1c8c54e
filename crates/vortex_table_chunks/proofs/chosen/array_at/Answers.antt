use Rattle.std.proofs.Common.{rules, ◌≡◌, ◌<◌, arith, length}
use Rattle.vortex_buffer.specs.Mask.{mask_bits}
use Rattle.vortex_table_chunks.proofs.KeptRows.{chunk-at, chunks-long, holds-named, name_at, named-long, not-missing}
use Rattle.vortex_table_chunks.proofs.chosen.array_at.Goals as goal

pub offset_bounds-chunks-i : goal.offset_bounds-chunks-i
offset_bounds-chunks-i c =
    let long : length c.args.chunks.now ≡ length c.args.columns.now = chunks-long (length (mask_bits c.args.kept.now)) c.args.columns.now c.args.chunks.now c.requires.fits in
    let inside : c.args.i < length c.args.chunks.now = omega (arith, long) in
    search rules

pub bounds-chunks-i : goal.bounds-chunks-i
bounds-chunks-i c =
    let long : length c.args.chunks.now ≡ length c.args.columns.now = chunks-long (length (mask_bits c.args.kept.now)) c.args.columns.now c.args.chunks.now c.requires.fits in
    omega (arith, long)

pub kept_rows-requires : goal.kept_rows-requires
kept_rows-requires c =
    let long : length c.args.chunks.now ≡ length c.args.columns.now = chunks-long (length (mask_bits c.args.kept.now)) c.args.columns.now c.args.chunks.now c.requires.fits in
    named-long (mask_bits c.args.kept.now) c.args.columns.now c.args.chunks.now (name_at c.args.columns.now c.args.i) c.in-Some.chunk c.requires.fits
    (chunk-at c.args.columns.now c.args.chunks.now c.args.i c.requires.names long c.requires.inside c.index-chunks-i.result c.in-Some.chunk c.index-chunks-i.is c.in-Some.is)

pub unreachable-requires : goal.unreachable-requires
unreachable-requires c =
    let long : length c.args.chunks.now ≡ length c.args.columns.now = chunks-long (length (mask_bits c.args.kept.now)) c.args.columns.now c.args.chunks.now c.requires.fits in
    not-missing c.args.columns.now c.args.chunks.now c.args.i c.requires.names long c.requires.inside c.index-chunks-i.result c.index-chunks-i.is c.in-None.is c.requires.there

pub returns : goal.returns
returns c =
    let long : length c.args.chunks.now ≡ length c.args.columns.now = chunks-long (length (mask_bits c.args.kept.now)) c.args.columns.now c.args.chunks.now c.requires.fits in
    holds-named (mask_bits c.args.kept.now) c.args.columns.now c.args.chunks.now (name_at c.args.columns.now c.args.i) c.in-Some.chunk c.in_ok-array-in-Some.array c.requires.fits
    (chunk-at c.args.columns.now c.args.chunks.now c.args.i c.requires.names long c.requires.inside c.index-chunks-i.result c.in-Some.chunk c.index-chunks-i.is c.in-Some.is) c.in_ok-array-in-Some.ensures.column c.in_ok-array-in-Some.ensures.plain
