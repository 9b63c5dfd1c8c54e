-- Casts of the column that codes and values stand for.
use Rattle.std.proofs.Common.{ℕ, ◌≡◌, Bool, true, false, cond, refl, ap}
use Rattle.std.specs.Prelude.{IsTrue}
use Rattle.std.proofs.lemmas.Bool.{false≢true}
use Rattle.vortex_array_types.specs.Row.{Column, is_nullable}
use Rattle.vortex_array_types.specs.Widths.{full_form, nullable_form}
use Rattle.vortex_array_types.specs.declared.types.DType.{DType}
use Rattle.vortex_array_types.specs.declared.types.DType.TheVariants as dtype
use Rattle.vortex_array_types.specs.declared.types.Nullability.TheVariants as nulls
use Rattle.vortex_array_kinds.proofs.TruthColumns.{same_column}
use Rattle.vortex_array_select.specs.Selected.{NamesRows, is_index_type}
use Rattle.vortex_array_cast.specs.Casts.{cast_column}
use Rattle.vortex_dict.specs.Casts.{codes_cast}
use Rattle.vortex_dict.specs.Decoded.{decoded}

-- a type with nulls is its nullable form
nullable_itself : (t : DType) → IsTrue (is_nullable t) → nullable_form t ≡ t
nullable_itself (dtype.Bool nulls.Nullable) h = refl
nullable_itself (dtype.Bool nulls.NonNullable) h = absurd (false≢true h)
nullable_itself (dtype.Primitive w nulls.Nullable) h = refl
nullable_itself (dtype.Primitive w nulls.NonNullable) h = absurd (false≢true h)
nullable_itself (dtype.Decimal d nulls.Nullable) h = refl
nullable_itself (dtype.Decimal d nulls.NonNullable) h = absurd (false≢true h)
nullable_itself (dtype.Utf8 nulls.Nullable) h = refl
nullable_itself (dtype.Utf8 nulls.NonNullable) h = absurd (false≢true h)
nullable_itself (dtype.Binary nulls.Nullable) h = refl
nullable_itself (dtype.Binary nulls.NonNullable) h = absurd (false≢true h)

full_nulls : (t : DType) → is_nullable (full_form t) ≡ false
full_nulls (dtype.Bool n) = refl
full_nulls (dtype.Primitive w n) = refl
full_nulls (dtype.Decimal d n) = refl
full_nulls (dtype.Utf8 n) = refl
full_nulls (dtype.Binary n) = refl

-- a type without nulls keeps the kind
full_index : (t : DType) → is_index_type (full_form t) ≡ is_index_type t
full_index (dtype.Bool n) = refl
full_index (dtype.Primitive w n) = refl
full_index (dtype.Decimal d n) = refl
full_index (dtype.Utf8 n) = refl
full_index (dtype.Binary n) = refl

type_kept : (b : Bool) (t : DType) → IsTrue (is_nullable t) → cond b (nullable_form t) t ≡ t
type_kept true t h = nullable_itself t h
type_kept false t h = refl

-- values that are cast, at the codes for them, are the rows that are cast
pub cast-decoded : (t : DType) (codes values : Column) → decoded (codes_cast t codes) (cast_column t values) ≡ cast_column t (decoded codes values)
cast-decoded t codes values = by_nulls (is_nullable t) refl
  where
    by_nulls : (b : Bool) → is_nullable t ≡ b → decoded (cond b codes (cast_column (full_form codes.dtype) codes)) (cast_column t values) ≡ cast_column t (decoded codes values)
    by_nulls true e = same_column _ _ _ _ (type_kept (is_nullable codes.dtype) t e) refl
    by_nulls false e = same_column _ _ _ _ (ap (λ b. cond b (nullable_form t) t) (full_nulls codes.dtype)) refl

-- and they are places of as many values
pub cast-names : (t : DType) (codes : Column) (n : ℕ) → NamesRows codes n → NamesRows (codes_cast t codes) n
cast-names t codes n h = by_nulls (is_nullable t)
  where
    by_nulls : (b : Bool) → NamesRows (cond b codes (cast_column (full_form codes.dtype) codes)) n
    by_nulls true = h
    by_nulls false = record { kind = rw (full_index codes.dtype) h.kind; below = h.below }
