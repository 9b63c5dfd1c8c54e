-- Values as fills of columns of their type.
use Rattle.std.proofs.Common.{ℕ, zero, suc, ◌≡◌, List, ◌∷◌, map, replicate, refl, ap, Option, None}
use Rattle.std.specs.Prelude.{slice_index_or}
use Rattle.vortex_array_types.specs.Row.{Column, TypedRow}
use Rattle.vortex_array_types.specs.declared.scalar.Value.{Value}
use Rattle.vortex_array_kinds.specs.Kinds.{constant_column}
use Rattle.vortex_array_kinds.specs.Parts.{ConstantParts}
use Rattle.vortex_array_select.specs.Selected.{row_at, taken}
use Rattle.vortex_array_select.specs.SelectedParts.{index_column}
use Rattle.vortex_array_kinds.specs.declared.validity.Validity.TheVariants.{NonNullable}
use Rattle.vortex_array_kinds.proofs.RowLemmas.{column_with}
use Rattle.vortex_array_kinds.proofs.TruthColumns.{same_column}
use Rattle.vortex_array_cast.specs.Filled.{filled, filled_row}

repeated_rows : (rows : List (Option Value)) (n : ℕ) → map (row_at rows) (index_column NonNullable (map (λ i. i) (replicate n 0))).rows ≡ replicate n (slice_index_or rows 0 None)
repeated_rows rows zero = refl
repeated_rows rows (suc n) = ap (λ rs. slice_index_or rows 0 None ∷ rs) (repeated_rows rows n)

-- the row at place 0 again and again
pub repeated-first : (c : Column) (n : ℕ) → taken (index_column NonNullable (map (λ i. i) (replicate n 0))) c ≡ column_with c.dtype (replicate n (slice_index_or c.rows 0 None))
repeated-first c n = same_column _ _ _ _ refl (repeated_rows c.rows n)

filled_equal : (fill x : Option Value) (n : ℕ) → replicate n (filled_row fill x) ≡ map (filled_row fill) (replicate n x)
filled_equal fill x zero = refl
filled_equal fill x (suc n) = ap (λ rs. filled_row fill x ∷ rs) (filled_equal fill x n)

-- equal rows are filled as one of them is
pub equal-filled : (fill : TypedRow) (k : ConstantParts) → column_with fill.dtype (replicate k.len (filled_row fill.value k.scalar.value)) ≡ filled fill (constant_column k)
equal-filled fill k = ap (column_with fill.dtype) (filled_equal fill.value k.scalar.value k.len)
