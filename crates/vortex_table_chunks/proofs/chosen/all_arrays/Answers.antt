use Rattle.std.proofs.Common.{◌+◌, ◌<◌, ◌≡◌, ◌++◌, ◌∷◌, [], arith, length, List, map, subst, sym, take, ℕ}
use Rattle.std.specs.List.{AllZip}
use Rattle.std.proofs.lemmas.List.{length-map}
use Rattle.vortex_array.specs.declared.arrays.Array.{Array}
use Rattle.vortex_array_rows.specs.Kept.{kept_by}
use Rattle.vortex_array_types.specs.declared.column.ColumnDesc.{ColumnDesc}
use Rattle.vortex_buffer.specs.Mask.{mask_bits}
use Rattle.vortex_table_chunks.specs.Kept.{HoldsNamed}
use Rattle.vortex_table_chunks.specs.Rows.{cells_of}
use Rattle.vortex_table_chunks.proofs.KeptRows.{all-zip-more}
use Rattle.vortex_table_chunks.proofs.chosen.all_arrays.Goals as goal

pub loop-i-preserved : goal.loop-i-preserved
loop-i-preserved c =
    let bits = mask_bits c.args.kept.now in
    let holds = HoldsNamed c.args.columns.now (kept_by bits (cells_of c.args.columns.now c.args.chunks.now (length bits))) in
    let names : List (List ℕ) = map (λ (column : ColumnDesc). column.name) c.args.columns.now in
    let i = c.loop-i.i in
    let inside : i < length names = omega (arith, c.loop-i-test.true, length-map c.args.columns.now (λ (column : ColumnDesc). column.name)) in
    let pushed : c.push.new.self.items ≡ c.loop-i.arrays.items ++ (c.in_ok-array_at.field-0 ∷ []) = c.in_ok-push.ensures.items in
    let back : c.loop-i.arrays.items ++ (c.in_ok-array_at.field-0 ∷ []) ≡ c.push.new.self.items = sym pushed in
    subst (λ (items : List Array). AllZip holds (take (i + 1) names) items) back
    (all-zip-more holds names c.loop-i.arrays.items i [] c.in_ok-array_at.field-0 inside c.loop-i.invariant c.in_ok-array_at.ensures)
