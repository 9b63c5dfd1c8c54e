-- Decimals in parts as metadata and children: how they are written, what metadata tells, and which children are refused.
use Rattle.std.specs.Prelude.{◌≡◌, ◌≢◌, ◌⊎◌, ℕ, ◌==◌, nat_le, ℤ, Bool, false, not, cond, codes, List, [], ◌∷◌, length, map, Option, Some, None, option_to_list}
use Rattle.std.specs.List.{AllZip}
use Rattle.std.specs.Option.{option_map_or}
use Rattle.vortex_array_types.specs.Row.{nullability}
use Rattle.vortex_array_types.specs.Widths.{has_no_sign}
use Rattle.vortex_array_types.specs.declared.types.DType.{DType}
use Rattle.vortex_array_types.specs.declared.types.Nullability.{Nullability}
use Rattle.vortex_array_types.specs.declared.types.Nullability.TheVariants.{NonNullable}
use Rattle.vortex_array.specs.declared.arrays.Array.{Array}
use Rattle.vortex_array.specs.ColumnOf.{column_of}
use Rattle.vortex_array.specs.Plain.{is_decimal_type}
use Rattle.vortex_array_children.specs.Children.{IsRelabelled, stands_for_number, type_number, width_of_number}
use Rattle.vortex_wire.specs.Canonical.{canonical}
use Rattle.vortex_wire.specs.Messages.{Integer, Several, Spells, Whole}
use Rattle.vortex_wire.specs.Tables.{v1_rows, v2_rows}
use Rattle.vortex_decimal_byte_parts.specs.Columns.{Parts, parts_column}
use Rattle.vortex_decimal_byte_parts.specs.declared.errors.SerdeError.{SerdeError}
use Rattle.vortex_decimal_byte_parts.specs.declared.errors.SerdeError.TheVariants.{UnknownId, BadMetadata, NotDecimal, LowerCount, ChildCount, BadType, ChildMismatch, OutOfMemory}

-- the ids of the two messages
abbrev pub v1_id : List ℕ
v1_id = codes "vortex.decimal_byte_parts"

abbrev pub v2_id : List ℕ
v2_id = codes "vortex.decimal_byte_parts.v2"

-- the parts as children: the most significant one, and the lower one where there is one
abbrev pub children_of : Parts → List Array
children_of p = p.msp ∷ option_to_list p.lower

-- the number of the width of a part
abbrev pub part_number : Array → ℤ
part_number part = type_number (column_of part).dtype

-- the id under which parts are written: the first where there is no lower one
abbrev pub id_of : Option Array → List ℕ
id_of None = v1_id
id_of (Some lower) = v2_id

-- the canonical metadata of parts, which tells their widths
abbrev pub metadata_of : Array → Option Array → List ℕ
metadata_of msp None = canonical v1_rows (Integer (part_number msp) ∷ Whole 0 ∷ [])
metadata_of msp (Some lower) = canonical v2_rows (Integer (part_number msp) ∷ Several (part_number lower ∷ []) ∷ [])

-- parts as they are written
pub record IsSerialized (p : Parts) (id metadata : List ℕ) (children : List Array) : Type 0 where
  pub named : id ≡ id_of p.lower
  pub told : metadata ≡ metadata_of p.msp p.lower
  pub parts : children ≡ children_of p

-- what metadata tells: the number of the width of the most significant part, and how many lower parts there are, or the numbers of their widths
pub data PartTypes : Type 0 where
  V1 : ℤ → ℕ → PartTypes
  V2 : ℤ → List ℤ → PartTypes

-- the metadata under an id spells this
abbrev pub Tells : List ℕ → List ℕ → PartTypes → Type 0
Tells id metadata (V1 msp count) = (id ≡ v1_id) × Spells v1_rows metadata (Integer msp ∷ Whole count ∷ [])
Tells id metadata (V2 msp lowers) = (id ≡ v2_id) × Spells v2_rows metadata (Integer msp ∷ Several lowers ∷ [])

abbrev pub msp_told : PartTypes → ℤ
msp_told (V1 msp count) = msp
msp_told (V2 msp lowers) = msp

abbrev pub lowers_told : PartTypes → List ℤ
lowers_told (V1 msp count) = []
lowers_told (V2 msp lowers) = lowers

-- a count of lower parts that can be: none in the first message, one at most in the second
abbrev pub is_lower_count : PartTypes → Bool
is_lower_count (V1 msp count) = count == 0
is_lower_count (V2 msp lowers) = nat_le (length lowers) 1

-- the number of a width with sign, and of one without
abbrev pub is_signed_number : ℤ → Bool
is_signed_number number = option_map_or (λ w. not (has_no_sign w)) (width_of_number number) false

abbrev pub is_unsigned_number : ℤ → Bool
is_unsigned_number number = option_map_or has_no_sign (width_of_number number) false

-- why children are no parts of so many rows of these widths, where the most significant one has these nulls
abbrev pub refused_children : Nullability → ℕ → ℤ → List ℤ → List Array → Option SerdeError
refused_children nulls n msp [] (child ∷ []) =
    cond (is_signed_number msp) (cond (stands_for_number msp nulls n child) None (Some (ChildMismatch 0))) (Some (BadType 0))
refused_children nulls n msp (lower ∷ []) (child ∷ other ∷ []) =
    cond (is_signed_number msp)
    (cond (is_unsigned_number lower)
    (cond (stands_for_number msp nulls n child) (cond (stands_for_number lower NonNullable n other) None (Some (ChildMismatch 1))) (Some (ChildMismatch 0)))
    (Some (BadType 1)))
    (Some (BadType 0))
refused_children nulls n msp lowers children = Some ChildCount

-- a cause that lies in the children, or in the widths of their types
abbrev pub IsOfChildren : SerdeError → Type 0
IsOfChildren ChildCount = Unit {0}
IsOfChildren (BadType part) = Unit {0}
IsOfChildren (ChildMismatch child) = Unit {0}
IsOfChildren cause = ⊥

-- why children are no decimals of a type, of which the metadata tells this
abbrev pub refused_told : DType → ℕ → List Array → PartTypes → Option SerdeError
refused_told t n children told =
    cond (is_decimal_type t)
    (cond (is_lower_count told) (refused_children (nullability t) n (msp_told told) (lowers_told told) children) (Some LowerCount))
    (Some NotDecimal)

-- why metadata and children are refused: the id is none of the two, the metadata spells no message, or the first cause that what it tells has
abbrev pub RefusesSerialized : List ℕ → DType → ℕ → List ℕ → List Array → SerdeError → Type 0
RefusesSerialized id t n metadata children UnknownId = (id ≢ v1_id) × (id ≢ v2_id)
RefusesSerialized id t n metadata children BadMetadata = ((id ≡ v1_id) ⊎ (id ≡ v2_id)) × ((told : PartTypes) → Tells id metadata told → ⊥)
RefusesSerialized id t n metadata children OutOfMemory = (told : PartTypes) × Tells id metadata told
RefusesSerialized id t n metadata children cause = (told : PartTypes) × Tells id metadata told × (refused_told t n children told ≡ Some cause)

-- the parts of decimals that children make: of these widths, and each the child in its place, in the type of the part
pub record AreParts (t : DType) (n : ℕ) (msp : ℤ) (lowers : List ℤ) (children : List Array) (p : Parts) : Type 0 where
  pub dtype : (parts_column p).dtype ≡ t
  pub rows : length (parts_column p).rows ≡ n
  pub widths : map part_number (children_of p) ≡ msp ∷ lowers
  pub parts : AllZip IsRelabelled children (children_of p)

-- parts as they are read: what the metadata tells is not refused, and the parts are those that it tells of
pub record IsDeserialized (id : List ℕ) (t : DType) (n : ℕ) (metadata : List ℕ) (children : List Array) (p : Parts) : Type 0 where
  pub told : PartTypes
  pub tells : Tells id metadata told
  pub right : refused_told t n children told ≡ None
  pub made : AreParts t n (msp_told told) (lowers_told told) children p
