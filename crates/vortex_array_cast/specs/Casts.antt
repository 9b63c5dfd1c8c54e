-- Casts of columns: which types can be cast, and the first row that cannot.
use Rattle.std.specs.Prelude.{◌≡◌, ◌<◌, ℕ, Bool, true, false, IsTrue, IsFalse, List, length, All, Option, None, is_some, slice_index_or}
use Rattle.vortex_array_types.specs.declared.types.DType.{DType}
use Rattle.vortex_array_types.specs.declared.types.DType.TheVariants.{Primitive}
use Rattle.vortex_array_types.specs.declared.types.Nullability.{Nullability}
use Rattle.vortex_array_types.specs.declared.types.Nullability.TheVariants.{NonNullable as WithoutNulls, Nullable}
use Rattle.vortex_array_types.specs.declared.scalar.Value.{Value}
use Rattle.vortex_array_types.specs.Row.{Column, fits_type}
use Rattle.vortex_array_types.specs.Typed.{same_apart_from_nullability}
use Rattle.vortex_array_kinds.specs.Validities.{nullable_validity}
use Rattle.vortex_array_kinds.specs.declared.validity.Validity.{Validity}
use Rattle.vortex_array_kinds.specs.declared.validity.Validity.TheVariants.{NonNullable}
use Rattle.vortex_array_cast.specs.declared.errors.CastError.{CastError}
use Rattle.vortex_array_cast.specs.declared.errors.CastError.TheVariants.{Unsupported, HasNull, DoesNotFit, OutOfMemory}

-- both are types of whole numbers, or they are the same apart from nullability
abbrev pub can_cast : DType → DType → Bool
can_cast (Primitive p n) (Primitive q m) = true
can_cast t u = same_apart_from_nullability t u

-- items are cast: each stands at the place of its own, and is the same where that fits
pub record AreCast {X : Type 0} (fits : X → Bool) (xs ys : List X) : Type 0 where
  pub same : (i : ℕ) (d : X) → i < length ys → IsTrue (fits (slice_index_or xs i d)) → slice_index_or ys i d ≡ slice_index_or xs i d

-- the same rows are null, of a type with nulls; or none is
abbrev pub validity_with : Nullability → Validity → Validity
validity_with WithoutNulls v = NonNullable
validity_with Nullable v = nullable_validity v

-- the same rows, of the type
abbrev pub cast_column : DType → Column → Column
cast_column t c = record { dtype = t; rows = c.rows }

-- every row fits the type
abbrev pub AllFit : DType → List (Option Value) → Type 0
AllFit t rows = All (λ row. IsTrue (fits_type t row)) rows

-- the row at a place is the first that does not fit the type
pub record FirstUnfit (t : DType) (rows : List (Option Value)) (i : ℕ) : Type 0 where
  pub within : i < length rows
  pub unfit : IsFalse (fits_type t (slice_index_or rows i None))
  pub before : (j : ℕ) → j < i → IsTrue (fits_type t (slice_index_or rows j None))

-- a column is cast: its type can be, and every row fits
pub record IsCast (t : DType) (c : Column) : Type 0 where
  pub castable : IsTrue (can_cast c.dtype t)
  pub rows : AllFit t c.rows

-- a cast stops at the first row that does not fit: a value, or null
pub record StopsAt (t : DType) (c : Column) (i : ℕ) (is_value : Bool) : Type 0 where
  pub castable : IsTrue (can_cast c.dtype t)
  pub first : FirstUnfit t c.rows i
  pub row : is_some (slice_index_or c.rows i None) ≡ is_value

-- why a cast is refused: the type, the first row that does not fit, or memory alone
abbrev pub RefusesCast : DType → Column → CastError → Type 0
RefusesCast t c Unsupported = IsFalse (can_cast c.dtype t)
RefusesCast t c (HasNull i) = StopsAt t c i false
RefusesCast t c (DoesNotFit i) = StopsAt t c i true
RefusesCast t c OutOfMemory = IsCast t c
