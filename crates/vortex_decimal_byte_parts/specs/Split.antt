-- Numbers of 128 bits, and decimals, split in parts.
use Rattle.std.specs.Prelude.{◌≡◌, ℕ, ◌*◌, ◌==◌, ℤ, pos, Bool, true, false, IsTrue, IsFalse, List, [], ◌∷◌, length, All, Option, Some, None, is_some}
use Rattle.std.specs.List.{AllZip, list_any, zip}
use Rattle.vortex_array_types.specs.Widths.{bytes_in}
use Rattle.vortex_array_types.specs.declared.types.DType.{DType}
use Rattle.vortex_array_types.specs.declared.types.DType.TheVariants as dtype
use Rattle.vortex_array_types.specs.declared.types.PType.{PType}
use Rattle.vortex_array_types.specs.declared.types.PType.TheVariants as width
use Rattle.vortex_array_types.specs.declared.scalar.Value.{Value}
use Rattle.vortex_array_types.specs.declared.scalar.Value.TheVariants.{Int}
use Rattle.vortex_array_types.specs.declared.types.Nullability.{Nullability}
use Rattle.vortex_array_types.specs.declared.types.Nullability.TheVariants.{NonNullable, Nullable}
use Rattle.vortex_array_kinds.specs.Kinds.{decimal_column, nullability_of}
use Rattle.vortex_array_kinds.specs.Parts.{PlainParts}
use Rattle.vortex_array_kinds.specs.declared.decimals.Decimals.{Decimals}
use Rattle.vortex_array_kinds.specs.declared.decimals.DecimalBuffer.{DecimalBuffer}
use Rattle.vortex_array_kinds.specs.declared.decimals.DecimalBuffer.TheVariants as unscaled
use Rattle.vortex_array.specs.declared.arrays.Array.{Array}
use Rattle.vortex_array.specs.declared.arrays.Array.TheVariants.{Constant}
use Rattle.vortex_array.specs.ColumnOf.{column_of, is_plain}
use Rattle.vortex_decimal_byte_parts.specs.Checked.{first_of_lower, refused_parts}
use Rattle.vortex_decimal_byte_parts.specs.Columns.{parts_column}
use Rattle.vortex_decimal_byte_parts.specs.Held.{part_numbers}
use Rattle.vortex_decimal_byte_parts.specs.Number.{value}

-- the parts that a function gives for a value whose bit is set, else 0 and 0
pub record SplitsTo {X : Type 0} (P : X → ℤ × List ℕ → Type 0) (from : X × Bool) (to : ℤ × ℕ) : Type 0 where
  pub set : from.1 ≡ true → P from.0 (to.0, to.1 ∷ [])
  pub unset : from.1 ≡ false → (to.0 ≡ pos 0) × (to.1 ≡ 0)

-- values split place by place, where their bits are set
pub record SplitInto {X : Type 0} (P : X → ℤ × List ℕ → Type 0) (values : List X) (bits : List Bool) (msp : List ℤ) (lower : List ℕ) : Type 0 where
  pub msp_length : length msp ≡ length values
  pub lower_length : length lower ≡ length values
  pub each : AllZip (SplitsTo P) (zip values bits) (zip msp lower)

-- the number is that of a pair of parts, the first of which is converted
pub record IsNumberOf {M : Type 0} (converts : M → ℤ → Type 0) (pair : M × ℕ) (n : ℤ) : Type 0 where
  pub high : ℤ
  pub converted : converts pair.0 high
  pub number : n ≡ value high pair.1

-- how many bits a number of a buffer has
abbrev pub bits_kept : DecimalBuffer → ℕ
bits_kept (unscaled.I8 b) = 8
bits_kept (unscaled.I16 b) = 16
bits_kept (unscaled.I32 b) = 32
bits_kept (unscaled.I64 b) = 64
bits_kept (unscaled.I128 b) = 128

-- how many bits a whole number of a type has
abbrev pub bits_in : DType → ℕ
bits_in (dtype.Primitive w n) = 8 * bytes_in w
bits_in _ = 0

-- how many bits the numbers of parts are kept in
abbrev pub bits_of_parts : Array → Option Array → ℕ
bits_of_parts msp None = bits_in (column_of msp).dtype
bits_of_parts msp (Some lower) = 128

-- the width of the most significant part of decimals
abbrev pub msp_width : DecimalBuffer → PType
msp_width (unscaled.I8 b) = width.I8
msp_width (unscaled.I16 b) = width.I16
msp_width (unscaled.I32 b) = width.I32
msp_width (unscaled.I64 b) = width.I64
msp_width (unscaled.I128 b) = width.I64

-- some row is not null
abbrev pub has_value : List (Option Value) → Bool
has_value rows = list_any is_some rows

-- null, or 0 in a type without nulls
abbrev pub empty_row : Nullability → Option Value
empty_row NonNullable = Some (Int (pos 0))
empty_row Nullable = None

-- so many equal rows of null, or of 0 in a type without nulls
abbrev pub empty_part : PType → Nullability → ℕ → Array
empty_part w n len = Constant (record { scalar = record { dtype = dtype.Primitive w n; value = empty_row n }; len = len })

-- a lower part beside rows of decimals: of 64 bits, 0 where the row is null, each row by itself where some is not null
pub record IsLowerOf (rows : List (Option Value)) (lower : Array) : Type 0 where
  pub kind : (column_of lower).dtype ≡ dtype.Primitive width.U64 NonNullable
  pub zero : AllZip (λ row part. row ≡ None → part ≡ Some (Int (pos 0))) rows (column_of lower).rows
  pub plain : is_plain lower ≡ has_value rows
  pub empty : IsFalse (has_value rows) → lower ≡ empty_part width.U64 NonNullable (length rows)

-- decimals split in parts: the parts stand for the same column, those of 128 bits have a lower one and
-- hold 0 where a row is null, and where no row is a value the parts are equal rows
pub record IsSplit (decimal : PlainParts Decimals) (msp : Array) (lowers : List Array) : Type 0 where
  pub parts : refused_parts msp lowers ≡ None
  pub column : parts_column (record { msp = msp; lower = first_of_lower lowers; digits = decimal.values.digits }) ≡ decimal_column decimal
  pub kind : (column_of msp).dtype ≡ dtype.Primitive (msp_width decimal.values.numbers) (nullability_of decimal.validity)
  pub plain : is_plain msp ≡ has_value (decimal_column decimal).rows
  pub empty : IsFalse (has_value (decimal_column decimal).rows) → msp ≡ empty_part (msp_width decimal.values.numbers) (nullability_of decimal.validity) (length (decimal_column decimal).rows)
  pub count : is_some (first_of_lower lowers) ≡ (bits_kept decimal.values.numbers == 128)
  pub lower : All (IsLowerOf (decimal_column decimal).rows) lowers
  pub zero : IsTrue (bits_kept decimal.values.numbers == 128) → AllZip (λ row n. row ≡ None → n ≡ pos 0) (decimal_column decimal).rows (part_numbers msp)
