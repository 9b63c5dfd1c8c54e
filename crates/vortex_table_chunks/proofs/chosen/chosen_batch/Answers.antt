use Rattle.std.proofs.Common.{◌∙◌, length, subst, sym}
use Rattle.vortex_array_rows.specs.Kept.{kept_by}
use Rattle.vortex_buffer.specs.Mask.{mask_bits}
use Rattle.vortex_table_types.specs.Chosen.{projected_names}
use Rattle.vortex_table_chunks.specs.Rows.{FitColumns, cells_of}
use Rattle.vortex_table_chunks.proofs.Contents.{batch-is}
use Rattle.vortex_table_chunks.proofs.KeptRows.{arrays-long, bits-long, rows-counted}
use Rattle.vortex_table_chunks.proofs.chosen.chosen_batch.Goals as goal

pub projected_arrays-requires-clause-fits : goal.projected_arrays-requires-clause-fits
projected_arrays-requires-clause-fits c =
    subst (λ n. FitColumns n c.args.columns.now c.args.chunks.now) (sym (bits-long c.args.columns.now c.args.chunks.now c.args.filter.now (mask_bits c.args.rows.now) (mask_bits c.in_ok-kept.kept) c.in_ok-kept.ensures)) c.requires.fits

pub unreachable-requires : goal.unreachable-requires
unreachable-requires c =
    let kept = mask_bits c.in_ok-kept.kept in
    c.in-Err.ensures.err
    (arrays-long c.args.columns.now (kept_by kept (cells_of c.args.columns.now c.args.chunks.now (length kept))) (projected_names c.args.columns.now c.args.projection.now) c.in_ok-arrays.arrays.items c.true_count.result
    (rows-counted c.args.columns.now c.args.chunks.now kept ∙ sym c.true_count.ensures) c.in_ok-arrays.ensures)

pub returns : goal.returns
returns c = λ contents stand.
    batch-is c.args.columns.now c.args.chunks.now contents stand c.args.filter.now (mask_bits c.args.rows.now) c.requires.filtered (mask_bits c.in_ok-kept.kept) c.in_ok-kept.ensures
    (projected_names c.args.columns.now c.args.projection.now) c.in_ok-arrays.arrays.items c.requires.projected c.in_ok-arrays.ensures c.true_count.result c.true_count.ensures c.in-Ok.batch c.in-Ok.ensures.ok
