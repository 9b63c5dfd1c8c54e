-- Which rows are not null.
use Rattle.std.specs.Prelude.{ℕ, ◌==◌, ◌&&◌, Bool, cond, true, false, List, length, map, Option, Some, None, slice_index_or, replicate}
use Rattle.std.specs.Simd.Lanes.{zip2}
use Rattle.vortex_array_types.specs.declared.types.Nullability.{Nullability}
use Rattle.vortex_array_types.specs.declared.types.Nullability.TheVariants.{NonNullable as WithoutNulls, Nullable}
use Rattle.vortex_array_kinds.specs.declared.validity.Validity.{Validity}
use Rattle.vortex_array_kinds.specs.declared.validity.Validity.TheVariants.{NonNullable, AllValid, AllInvalid, Bits}

-- all validities but the first make a nullable type
abbrev pub nullability_of : Validity → Nullability
nullability_of NonNullable = WithoutNulls
nullability_of AllValid = Nullable
nullability_of AllInvalid = Nullable
nullability_of (Bits bits) = Nullable

-- the value where the bit is set, else null
abbrev pub row_of : {X : Type 0} → X → Bool → Option X
row_of x valid = cond valid (Some x) None

-- the values as rows: null where the validity says so
abbrev pub rows_under : {X : Type 0} → Validity → List X → List (Option X)
rows_under NonNullable values = map (λ v. Some v) values
rows_under AllValid values = map (λ v. Some v) values
rows_under AllInvalid values = map (λ _. None) values
rows_under (Bits bits) values = zip2 row_of values bits

-- the validity says of so many rows which are null: bits have their own length, and all else has any
abbrev pub is_as_long : Validity → ℕ → Bool
is_as_long NonNullable n = true
is_as_long AllValid n = true
is_as_long AllInvalid n = true
is_as_long (Bits bits) n = length bits == n

-- the row at a place is not null
abbrev pub valid_at : Validity → ℕ → Bool
valid_at NonNullable i = true
valid_at AllValid i = true
valid_at AllInvalid i = false
valid_at (Bits bits) i = slice_index_or bits i false

-- for each of so many rows whether it is not null
abbrev pub valid_bits : Validity → ℕ → List Bool
valid_bits NonNullable n = replicate n true
valid_bits AllValid n = replicate n true
valid_bits AllInvalid n = replicate n false
valid_bits (Bits bits) n = bits

-- the same rows are not null, of a nullable type
abbrev pub nullable_validity : Validity → Validity
nullable_validity NonNullable = AllValid
nullable_validity AllValid = AllValid
nullable_validity AllInvalid = AllInvalid
nullable_validity (Bits bits) = Bits bits

-- the validity has no null, however many rows there are: bits are not looked at
abbrev pub has_none : Validity → Bool
has_none NonNullable = true
has_none AllValid = true
has_none AllInvalid = false
has_none (Bits bits) = false

-- the rows that are not null in two columns
abbrev pub present_in_both : Validity → Validity → Validity
present_in_both NonNullable b = b
present_in_both AllValid b = nullable_validity b
present_in_both AllInvalid b = AllInvalid
present_in_both (Bits own) NonNullable = Bits own
present_in_both (Bits own) AllValid = Bits own
present_in_both (Bits own) AllInvalid = AllInvalid
present_in_both (Bits own) (Bits bits) = Bits (zip2 ◌&&◌ own bits)
