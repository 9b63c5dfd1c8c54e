use Rattle.std.proofs.Common.{◌+◌, ◌≡◌, ◌++◌, ◌∷◌, [], List, length, subst, sym, take}
use Rattle.std.specs.List.{AllZip}
use Rattle.vortex_array.specs.declared.arrays.Array.{Array}
use Rattle.vortex_array_rows.specs.Kept.{kept_by}
use Rattle.vortex_buffer.specs.Mask.{mask_bits}
use Rattle.vortex_table_chunks.specs.Kept.{HoldsNamed}
use Rattle.vortex_table_chunks.specs.Rows.{cells_of}
use Rattle.vortex_table_chunks.proofs.KeptRows.{all-zip-more}
use Rattle.vortex_table_chunks.proofs.chosen.named_arrays.Goals as goal

pub loop-name-preserved : goal.loop-name-preserved
loop-name-preserved c =
    let bits = mask_bits c.args.kept.now in
    let holds = HoldsNamed c.args.columns.now (kept_by bits (cells_of c.args.columns.now c.args.chunks.now (length bits))) in
    let names = c.args.names.now in
    let i = c.loop-name.name-index in
    let pushed : c.push.new.self.items ≡ c.loop-name.arrays.items ++ (c.in_ok-named_array.field-0 ∷ []) = c.in_ok-push.ensures.items in
    let back : c.loop-name.arrays.items ++ (c.in_ok-named_array.field-0 ∷ []) ≡ c.push.new.self.items = sym pushed in
    subst (λ (items : List Array). AllZip holds (take (i + 1) names) items) back
    (all-zip-more holds names c.loop-name.arrays.items i c.name-item.result c.in_ok-named_array.field-0 c.loop-name-test.true c.loop-name.invariant
    (subst (λ name. holds name c.in_ok-named_array.field-0) c.name-item.is c.in_ok-named_array.ensures))
