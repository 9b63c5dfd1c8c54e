use Rattle.std.proofs.Common.{◌∙◌, Some, ap, length, sym}
use Rattle.std.proofs.lemmas.List.{length-map}
use Rattle.vortex_array_types.specs.Truth.{keeps}
use Rattle.vortex_buffer.specs.Mask.{mask_bits}
use Rattle.vortex_table_chunks.specs.Rows.{cells_of}
use Rattle.vortex_table_chunks.proofs.KeptRows.{kept-all, rows-long}
use Rattle.vortex_table_chunks.proofs.chosen.kept_mask.Goals as goal

pub and-requires : goal.and-requires
and-requires c =
    sym (
    ap length c.in_ok-truth-in-Some.ensures
    ∙ length-map (cells_of c.args.columns.now c.args.chunks.now c.len.result) (keeps (Some c.in-Some.filter))
    ∙ rows-long c.args.columns.now c.args.chunks.now c.len.result
    ∙ c.len.ensures)

pub returns-in-None : goal.returns-in-None
returns-in-None c =
    let bits = mask_bits c.args.rows.now in
    kept-all c.args.filter.now bits (cells_of c.args.columns.now c.args.chunks.now (length bits)) c.try_clone.result c.in-None.is (rows-long c.args.columns.now c.args.chunks.now (length bits)) c.try_clone.ensures
