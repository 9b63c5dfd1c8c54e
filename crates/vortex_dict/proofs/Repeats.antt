-- Equal codes, and numbers that lie in each width.
use Rattle.std.proofs.Common.{ℕ, ◌-◌, ◌<◌, ◌≤◌, ◌≡◌, List, length, get_or, replicate, refl, sym, ap, ◌∙◌, arith, Option, Some, None}
use Rattle.std.specs.Prelude.{pos, IsTrue, IsFalse}
use Rattle.std.proofs.lemmas.Bool.{true≢false, false≢true}
use Rattle.std.proofs.lemmas.List.{get_or-replicate, length-replicate}
use Rattle.vortex_buffer.proofs.Bits.{map-replicate}
use Rattle.vortex_array_types.specs.Row.{Column, in_width, is_nullable}
use Rattle.vortex_array_types.specs.Widths.{nullable_form}
use Rattle.vortex_array_types.specs.declared.types.DType.{DType}
use Rattle.vortex_array_types.specs.declared.types.DType.TheVariants as dtype
use Rattle.vortex_array_types.specs.declared.types.Nullability.TheVariants as nulls
use Rattle.vortex_array_types.specs.declared.types.PType.{PType}
use Rattle.vortex_array_types.specs.declared.types.PType.TheVariants as width
use Rattle.vortex_array_types.specs.declared.scalar.Value.{Value}
use Rattle.vortex_array_kinds.specs.Kinds.{constant_column}
use Rattle.vortex_array_kinds.specs.Parts.{ConstantParts}
use Rattle.vortex_array_kinds.proofs.RowLemmas.{column_with}
use Rattle.vortex_array_select.specs.Selected.{row_at, sliced, taken}
use Rattle.vortex_array_kinds.proofs.TruthColumns.{same_column}
use Rattle.vortex_array_select.proofs.ConstantRows.{constant-sliced}
use Rattle.vortex_array_cast.specs.Filled.{filled, filled_row}
use Rattle.vortex_array.specs.ColumnOf.{column_of, is_plain}
use Rattle.vortex_array.specs.declared.arrays.Array.{Array}
use Rattle.vortex_array.specs.declared.arrays.Array.TheVariants.{Bool as Bools, Primitive, Decimal, VarBinView, Constant}
use Rattle.vortex_array.proofs.Filling.{equal-filled}
use Rattle.vortex_dict.specs.Decoded.{decoded}

-- equal codes are decoded to equal rows
equal_decoded : (k : ConstantParts) (values : Column) → (decoded (constant_column k) values).rows ≡ replicate k.len (row_at values.rows k.scalar.value)
equal_decoded k values = map-replicate (row_at values.rows) k.len k.scalar.value

-- the rows of a range are the first of them again and again
pub equal-sliced : (k : ConstantParts) (values : Column) (i j : ℕ) → i < j → j ≤ length (decoded (constant_column k) values).rows
    → column_with (decoded (constant_column k) values).dtype (replicate (j - i) (get_or (decoded (constant_column k) values).rows i None)) ≡ sliced i j (decoded (constant_column k) values)
equal-sliced k values i j order within =
    let t : DType = (decoded (constant_column k) values).dtype in
    let y : Option Value = row_at values.rows k.scalar.value in
    let long : length (decoded (constant_column k) values).rows ≡ k.len = ap length (equal_decoded k values) ∙ length-replicate k.len y in
    let first : get_or (decoded (constant_column k) values).rows i None ≡ y = ap (λ (rs : List (Option Value)). get_or rs i None) (equal_decoded k values) ∙ get_or-replicate k.len i y None (omega (arith, order, within, long)) in
    ap (λ r. column_with t (replicate (j - i) r)) first
    ∙ constant-sliced (record { dtype = t; value = y }) k.len i j (omega (arith, order)) (omega (arith, within, long, length-replicate k.len y))
    ∙ ap (λ rs. sliced i j (column_with t rs)) (sym (equal_decoded k values))

-- and so of an array that is not plain
pub codes-sliced : (codes : Array) (values : Column) (i j : ℕ) → IsFalse (is_plain codes) → i < j → j ≤ length (decoded (column_of codes) values).rows
    → column_with (decoded (column_of codes) values).dtype (replicate (j - i) (get_or (decoded (column_of codes) values).rows i None)) ≡ sliced i j (decoded (column_of codes) values)
codes-sliced (Constant k) values i j equal order within = equal-sliced k values i j order within
codes-sliced (Bools a) values i j equal order within = absurd (true≢false equal)
codes-sliced (Primitive a) values i j equal order within = absurd (true≢false equal)
codes-sliced (Decimal a) values i j equal order within = absurd (true≢false equal)
codes-sliced (VarBinView a) values i j equal order within = absurd (true≢false equal)

-- 0 lies in each width
pub zero-fits : (w : PType) → IsTrue (in_width w (pos 0))
zero-fits width.U8 = refl
zero-fits width.U16 = refl
zero-fits width.U32 = refl
zero-fits width.U64 = refl
zero-fits width.I8 = refl
zero-fits width.I16 = refl
zero-fits width.I32 = refl
zero-fits width.I64 = refl
