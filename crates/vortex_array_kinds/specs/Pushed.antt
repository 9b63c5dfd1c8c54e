-- Which rows a column of texts or bytes takes.
use Rattle.std.specs.Prelude.{◌≡◌, ℕ, Bool, IsTrue, IsFalse, List, [], ◌∷◌, ◌++◌, length, Option, Some, None, IsUtf8}
use Rattle.vortex_array_types.specs.Row.{is_nullable}
use Rattle.vortex_array_types.specs.declared.types.DType.{DType}
use Rattle.vortex_array_types.specs.declared.types.Nullability.{Nullability}
use Rattle.vortex_array_types.specs.declared.types.Nullability.TheVariants as nulls
use Rattle.vortex_array_kinds.specs.StringValues.{is_text_type}
use Rattle.vortex_array_kinds.specs.declared.validity.Validity.{Validity}
use Rattle.vortex_array_kinds.specs.declared.validity.Validity.TheVariants.{NonNullable, AllValid, AllInvalid, Bits}
use Rattle.vortex_array_kinds.specs.declared.builder.PushError.{PushError}
use Rattle.vortex_array_kinds.specs.declared.builder.PushError.TheVariants.{WrongType, NotUtf8, OutOfMemory}

-- null in a type with nulls; in a type of texts UTF-8
abbrev pub Admits : DType → Option (List ℕ) → Type 0
Admits t None = IsTrue (is_nullable t)
Admits t (Some bytes) = IsTrue (is_text_type t) → IsUtf8 bytes

-- why a row is refused
abbrev pub Refuses : DType → Option (List ℕ) → PushError → Type 0
Refuses t None WrongType = IsFalse (is_nullable t)
Refuses t None NotUtf8 = ⊥
Refuses t (Some bytes) WrongType = ⊥
Refuses t (Some bytes) NotUtf8 = IsTrue (is_text_type t) × (¬ IsUtf8 bytes)
Refuses t row OutOfMemory = Admits t row

-- the validity of no row yet
abbrev pub no_row : Nullability → Validity
no_row nulls.NonNullable = NonNullable
no_row nulls.Nullable = Bits []

-- the validity with one more row, which is present or not
abbrev pub with_row : Bool → Validity → Validity
with_row present (Bits bits) = Bits (bits ++ present ∷ [])
with_row present validity = validity

-- the validity of so many rows that can be added to: bits in a type with nulls
abbrev pub Grows : Validity → ℕ → Type 0
Grows NonNullable n = Unit
Grows AllValid n = ⊥
Grows AllInvalid n = ⊥
Grows (Bits bits) n = length bits ≡ n
