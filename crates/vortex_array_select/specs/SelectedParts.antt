-- What parts of a column are made of: its validity, its values, and the places of indices.
use Rattle.std.specs.Prelude.{◌≡◌, ℕ, ◌<◌, pos, Bool, true, false, cond, List, [], map, length, replicate, All, slice_get, slice_index_or}
use Rattle.vortex_array_types.specs.Row.{Column, is_nullable}
use Rattle.vortex_array_types.specs.Widths.{nullable_form}
use Rattle.vortex_array_types.specs.declared.types.DType.{DType}
use Rattle.vortex_array_types.specs.declared.types.DType.TheVariants as dtype
use Rattle.vortex_array_types.specs.declared.types.PType.TheVariants as width
use Rattle.vortex_array_types.specs.declared.scalar.Value.TheVariants as value
use Rattle.vortex_array_rows.specs.Taken.{SetPlacesBelow, taken_or}
use Rattle.vortex_array_kinds.specs.Validities.{nullability_of, nullable_validity, rows_under, valid_at}
use Rattle.vortex_array_kinds.specs.declared.validity.Validity.{Validity}
use Rattle.vortex_array_kinds.specs.declared.validity.Validity.TheVariants.{NonNullable, AllValid, AllInvalid, Bits}

-- the validity of a part, which has a part of its bits
abbrev pub map_bits : (List Bool → List Bool) → Validity → Validity
map_bits part (Bits bits) = Bits (part bits)
map_bits part NonNullable = NonNullable
map_bits part AllValid = AllValid
map_bits part AllInvalid = AllInvalid

-- places as a column of indices, of which the validity says which are null
abbrev pub index_column : Validity → List ℕ → Column
index_column nulls places = record {
  dtype = dtype.Primitive width.U64 (nullability_of nulls);
  rows = rows_under nulls (map (λ place. value.Int (pos place)) places);
}

-- the type of rows that are taken at places: with nulls where either has them
abbrev pub taken_type : Validity → DType → DType
taken_type nulls t = cond (is_nullable (index_column nulls []).dtype) (nullable_form t) t

-- each place that is not null is below n
abbrev pub PlacesBelow : ℕ → Validity → List ℕ → Type 0
PlacesBelow n NonNullable places = All (λ place. place < n) places
PlacesBelow n AllValid places = All (λ place. place < n) places
PlacesBelow n AllInvalid places = Unit
PlacesBelow n (Bits set) places = SetPlacesBelow n places set

-- the item at each place that is not null, and d for any other
abbrev pub taken_values : {X : Type 0} → X → Validity → List X → List ℕ → List X
taken_values d NonNullable items places = map (λ place. slice_index_or items place d) places
taken_values d AllValid items places = map (λ place. slice_index_or items place d) places
taken_values d AllInvalid items places = taken_or d items places (replicate (length places) false)
taken_values d (Bits set) items places = taken_or d items places set

-- for each place an item: the one at the place where that is not null, else any
pub record AreTaken {X : Type 0} (nulls : Validity) (places : List ℕ) (items taken : List X) : Type 0 where
  pub same_length : length taken ≡ length places
  pub there : (k : ℕ) → k < length places → valid_at nulls k ≡ true → slice_get taken k ≡ slice_get items (slice_index_or places k 0)

-- which of the rows at places are not null: none at a null place
abbrev pub taken_validity : Validity → List ℕ → Validity → Validity
taken_validity nulls places NonNullable = nulls
taken_validity nulls places AllValid = nullable_validity nulls
taken_validity nulls places AllInvalid = AllInvalid
taken_validity nulls places (Bits bits) = Bits (taken_values false nulls bits places)
