-- Equal rows as plain arrays.
use Rattle.std.proofs.Common.{ℕ, ◌≡◌, replicate, refl, sym, ap, ◌∙◌, Option, Some, None}
use Rattle.std.specs.Prelude.{pos, IsTrue}
use Rattle.std.proofs.lemmas.Bool.{false≢true}
use Rattle.vortex_buffer.proofs.Bits.{map-replicate}
use Rattle.vortex_array_types.specs.Row.{Column, in_width, is_nullable}
use Rattle.vortex_array_types.specs.Widths.{nullable_form}
use Rattle.vortex_array_types.specs.declared.types.DType.{DType}
use Rattle.vortex_array_types.specs.declared.types.DType.TheVariants as dtype
use Rattle.vortex_array_types.specs.declared.types.Nullability.TheVariants as nulls
use Rattle.vortex_array_types.specs.declared.types.PType.{PType}
use Rattle.vortex_array_types.specs.declared.types.PType.TheVariants as width
use Rattle.vortex_array_types.specs.declared.scalar.Value.{Value}
use Rattle.vortex_array_kinds.specs.Kinds.{constant_column}
use Rattle.vortex_array_kinds.specs.Parts.{ConstantParts}
use Rattle.vortex_array_kinds.proofs.RowLemmas.{column_with}
use Rattle.vortex_array_select.specs.Selected.{row_at, taken}
use Rattle.vortex_array_kinds.proofs.TruthColumns.{same_column}
use Rattle.vortex_array_cast.specs.Filled.{filled, filled_row}
use Rattle.vortex_array.proofs.Filling.{equal-filled}

row_itself : (x : Option Value) → filled_row x x ≡ x
row_itself None = refl
row_itself (Some v) = refl

-- equal rows filled with themselves
pub self-filled : (k : ConstantParts) → filled k.scalar (constant_column k) ≡ constant_column k
self-filled k = sym (equal-filled k.scalar k) ∙ ap (λ r. column_with k.scalar.dtype (replicate k.len r)) (row_itself k.scalar.value)

nullable_itself : (t : DType) → IsTrue (is_nullable t) → nullable_form t ≡ t
nullable_itself (dtype.Bool nulls.Nullable) h = refl
nullable_itself (dtype.Bool nulls.NonNullable) h = absurd (false≢true h)
nullable_itself (dtype.Primitive w nulls.Nullable) h = refl
nullable_itself (dtype.Primitive w nulls.NonNullable) h = absurd (false≢true h)
nullable_itself (dtype.Decimal d nulls.Nullable) h = refl
nullable_itself (dtype.Decimal d nulls.NonNullable) h = absurd (false≢true h)
nullable_itself (dtype.Utf8 nulls.Nullable) h = refl
nullable_itself (dtype.Utf8 nulls.NonNullable) h = absurd (false≢true h)
nullable_itself (dtype.Binary nulls.Nullable) h = refl
nullable_itself (dtype.Binary nulls.NonNullable) h = absurd (false≢true h)

-- so many null indices
abbrev pub null_indices : ℕ → Column
null_indices n = constant_column (record { scalar = record { dtype = dtype.Primitive width.U64 nulls.Nullable; value = None }; len = n })

-- null indices take nulls, of a type that has them
pub nulls-taken : (t : DType) (n : ℕ) (c : Column) → c.dtype ≡ t → IsTrue (is_nullable t) → taken (null_indices n) c ≡ constant_column (record { scalar = record { dtype = t; value = None }; len = n })
nulls-taken t n c is nullable = same_column _ _ _ _ (ap nullable_form is ∙ nullable_itself t nullable) (map-replicate (row_at c.rows) n None)

-- 0 lies in each width
pub zero-fits : (w : PType) → IsTrue (in_width w (pos 0))
zero-fits width.U8 = refl
zero-fits width.U16 = refl
zero-fits width.U32 = refl
zero-fits width.U64 = refl
zero-fits width.I8 = refl
zero-fits width.I16 = refl
zero-fits width.I32 = refl
zero-fits width.I64 = refl
