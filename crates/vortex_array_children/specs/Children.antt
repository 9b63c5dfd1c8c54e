-- Arrays as children of encoded columns, and the types for which they stand.
use Rattle.std.specs.Prelude.{◌≡◌, ℕ, ◌==◌, ℤ, pos, Bool, false, not, ◌&&◌, ◌||◌, IsTrue, List, [], ◌∷◌, length, Option}
use Rattle.std.specs.List.{find}
use Rattle.std.specs.Option.{option_map_or}
use Rattle.std.specs.Ordering.{int_eq}
use Rattle.vortex_array_types.specs.Row.{is_nullable}
use Rattle.vortex_array_types.specs.Typed.{same_apart_from_nullability, width_number}
use Rattle.vortex_array_types.specs.declared.types.DType.{DType}
use Rattle.vortex_array_types.specs.declared.types.DType.TheVariants as dtype
use Rattle.vortex_array_types.specs.declared.types.Nullability.{Nullability}
use Rattle.vortex_array_types.specs.declared.types.PType.{PType}
use Rattle.vortex_array_types.specs.declared.types.PType.TheVariants.{U8, U16, U32, U64, I8, I16, I32, I64}
use Rattle.vortex_array.specs.declared.arrays.Array.{Array}
use Rattle.vortex_array.specs.ColumnOf.{column_of, is_plain}

-- the widths of whole numbers
abbrev pub widths : List PType
widths = U8 ∷ U16 ∷ U32 ∷ U64 ∷ I8 ∷ I16 ∷ I32 ∷ I64 ∷ []

-- the width that has this number, if one has it
abbrev pub width_of_number : ℤ → Option PType
width_of_number number = find (λ w. int_eq (pos (width_number w)) number) widths

-- the number of the width of a type of whole numbers
abbrev pub type_number : DType → ℤ
type_number (dtype.Primitive w n) = pos (width_number w)
type_number _ = pos 0

-- the first type is the second, or the same without nulls
abbrev pub is_form_of : DType → DType → Bool
is_form_of from to = same_apart_from_nullability from to && (is_nullable to || not (is_nullable from))

-- the array stands for so many rows of the type
abbrev pub stands_for : DType → ℕ → Array → Bool
stands_for t n a = length (column_of a).rows == n && is_form_of (column_of a).dtype t

-- the array stands for so many whole numbers of the width that has this number
abbrev pub stands_for_number : ℤ → Nullability → ℕ → Array → Bool
stands_for_number number nulls n a = option_map_or (λ w. stands_for (dtype.Primitive w nulls) n a) (width_of_number number) false

-- the same rows, kept as they are, in the same type or in that with nulls
pub record IsRelabelled (from to : Array) : Type 0 where
  pub rows : (column_of to).rows ≡ (column_of from).rows
  pub form : IsTrue (is_form_of (column_of from).dtype (column_of to).dtype)
  pub plain : is_plain to ≡ is_plain from
  pub kept : (column_of from).dtype ≡ (column_of to).dtype → to ≡ from
