use Rattle.std.proofs.Common.{◌≡◌, List, refl, subst, sym, true, ℕ}
use Rattle.std.specs.Prelude.{All, None, Option, Some, slice_get}
use Rattle.vortex_array_types.specs.Typed.{filter_names}
use Rattle.vortex_array_types.specs.declared.column.ColumnDesc.{ColumnDesc}
use Rattle.vortex_buffer.specs.Mask.{mask_bits}
use Rattle.vortex_table_chunks.specs.ChunkOf.{chunk_column}
use Rattle.vortex_table_chunks.specs.Rows.{IsThere}
use Rattle.vortex_table_chunks.specs.declared.chunk.Chunk.{Chunk}
use Rattle.vortex_table_types.specs.Chosen.{projected_names}
use Rattle.vortex_table_planner.specs.Morsels.{Mismatches, MorselState, is_ready}
use Rattle.vortex_table_planner.specs.Owing.{Differs}
use Rattle.vortex_table_planner.proofs.Keeping.{filtered_there, mismatch_is, projected_there}
use Rattle.vortex_table_planner.proofs.morsel.ChunkMorsel.give.Goals as goal

pub returns-in-Some : goal.returns-in-Some
returns-in-Some c =
    let it : MorselState = record { wanted = c.self.inside.wanted; bits = mask_bits c.self.inside.rows; split = c.self.inside.split; chunks = c.self.inside.chunks.items; step = c.self.inside.step } in
    let some = c.in-Some.ensures.some in
    let named = subst (λ (columns : List ColumnDesc). slice_get columns c.in-Some.place ≡ Some some.0) c.as_slice-columns.ensures some.2 in
    let given = subst (λ (chunks : List (Option Chunk)). slice_get chunks c.in-Some.place ≡ Some (Some some.1)) c.as_slice-chunks.ensures.value some.3 in
    let differs = subst (λ (n : ℕ). Differs n some.0 (chunk_column some.1)) c.len.ensures some.4 in
    (subst (λ (m : MorselState). Mismatches m (λ _. None) c.self.inside.split c.in-Some.place) c.self.view_is (mismatch_is it c.in-Some.place some.0 some.1 c.self.invariant named given differs), refl)

pub chosen_batch-requires-clause-filtered : goal.chosen_batch-requires-clause-filtered
chosen_batch-requires-clause-filtered c =
    let it : MorselState = record { wanted = c.self.inside.wanted; bits = mask_bits c.self.inside.rows; split = c.self.inside.split; chunks = c.self.inside.chunks.items; step = c.self.inside.step } in
    let ready : is_ready it.step it.wanted.needed ≡ true = subst (λ (m : MorselState). is_ready m.step m.wanted.needed ≡ true) (sym c.self.view_is) c.requires in
    subst (λ (chunks : List (Option Chunk)). All (IsThere c.as_slice-columns.result.now chunks) (filter_names it.wanted.filter)) (sym c.as_slice-chunks.ensures.value)
    (subst (λ (columns : List ColumnDesc). All (IsThere columns it.chunks) (filter_names it.wanted.filter)) (sym c.as_slice-columns.ensures) (filtered_there it c.self.invariant ready))

pub chosen_batch-requires-clause-projected : goal.chosen_batch-requires-clause-projected
chosen_batch-requires-clause-projected c =
    let it : MorselState = record { wanted = c.self.inside.wanted; bits = mask_bits c.self.inside.rows; split = c.self.inside.split; chunks = c.self.inside.chunks.items; step = c.self.inside.step } in
    let ready : is_ready it.step it.wanted.needed ≡ true = subst (λ (m : MorselState). is_ready m.step m.wanted.needed ≡ true) (sym c.self.view_is) c.requires in
    subst (λ (chunks : List (Option Chunk)). All (IsThere c.as_slice-columns.result.now chunks) (projected_names c.as_slice-columns.result.now it.wanted.projection)) (sym c.as_slice-chunks.ensures.value)
    (subst (λ (columns : List ColumnDesc). All (IsThere columns it.chunks) (projected_names columns it.wanted.projection)) (sym c.as_slice-columns.ensures) (projected_there it c.self.invariant ready))
