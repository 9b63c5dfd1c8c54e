use Rattle.std.proofs.Common.{◌∙◌, List, ap, subst, sym}
use Rattle.std.specs.Prelude.{Option}
use Rattle.vortex_buffer.specs.Mask.{mask_bits}
use Rattle.vortex_table_chunks.specs.declared.chunk.Chunk.{Chunk}
use Rattle.vortex_table_planner.specs.Morsels.{IsMorsel, IsWanted, no_chunks}
use Rattle.vortex_table_planner.specs.declared.phase.Phase.TheVariants as phase
use Rattle.vortex_table_planner.proofs.Keeping.{new_keeps}
use Rattle.vortex_table_planner.proofs.morsel.ChunkMorsel.try_new.Goals as goal

pub invariant_of-result : goal.invariant_of-result
invariant_of-result c =
    let wanted = c.in_ok-wanted.wanted in
    let valid : IsWanted wanted = subst IsWanted (sym c.in_ok-wanted.ensures) c.requires in
    subst (λ (chunks : List (Option Chunk)). IsMorsel (record { wanted = wanted; bits = mask_bits c.args.rows; split = c.args.split; chunks = chunks; step = phase.Fresh }))
    (sym (c.in_ok-chunks.ensures ∙ ap no_chunks c.as_slice.ensures)) (new_keeps wanted (mask_bits c.args.rows) c.args.split valid)
