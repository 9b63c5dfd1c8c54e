-- Dictionaries as metadata and children: what their metadata says, and of which children they are built.
use Rattle.std.specs.Prelude.{◌≡◌, ℕ, Bool, true, false, not, ◌&&◌, ◌||◌, cond, List, [], ◌∷◌, length, Option, Some, None, option_map}
use Rattle.std.specs.List.{AllZip}
use Rattle.vortex_array_types.specs.Row.{is_nullable, nullability}
use Rattle.vortex_array_types.specs.declared.types.DType.{DType}
use Rattle.vortex_array_types.specs.declared.types.DType.TheVariants as dtype
use Rattle.vortex_array_types.specs.declared.types.Nullability.{Nullability}
use Rattle.vortex_array_types.specs.declared.types.Nullability.TheVariants.{NonNullable, Nullable}
use Rattle.vortex_array.specs.declared.arrays.Array.{Array}
use Rattle.vortex_array.specs.ColumnOf.{column_of}
use Rattle.vortex_array_children.specs.Children.{IsRelabelled, stands_for, type_number, width_of_number}
use Rattle.vortex_wire.specs.declared.messages.DictMetadata.{DictMetadata}
use Rattle.vortex_dict.specs.Decoded.{dict_column}
use Rattle.vortex_dict.specs.Parts.{DictParts}
use Rattle.vortex_dict.specs.Refused.{Refuses}
use Rattle.vortex_dict.specs.declared.error.DictError.TheVariants as of_codes
use Rattle.vortex_dict.specs.declared.build_error.BuildError.{BuildError}
use Rattle.vortex_dict.specs.declared.build_error.BuildError.TheVariants.{ChildCount, BadMetadata, ChildMismatch, NotUnsigned, CodeOutOfRange}

-- what metadata says of a dictionary: how many values it has, the number of its codes' width, and whether they have nulls
abbrev pub metadata_of : DictParts → DictMetadata
metadata_of d = record {
  values_len = length (column_of d.values).rows;
  codes_ptype = type_number (column_of d.codes).dtype;
  is_nullable_codes = Some (is_nullable (column_of d.codes).dtype);
}

-- the nulls of the codes: as the metadata says, or where it does not say, as the dictionary has
abbrev pub codes_nulls : DType → Option Bool → Nullability
codes_nulls t None = nullability t
codes_nulls t (Some true) = Nullable
codes_nulls t (Some false) = NonNullable

-- the type of the codes, where a width has the number that the metadata says
abbrev pub codes_type : DType → DictMetadata → Option DType
codes_type t m = option_map (λ w. dtype.Primitive w (codes_nulls t m.is_nullable_codes)) (width_of_number m.codes_ptype)

-- the child stands for so many codes of a type, which has nulls only where the dictionary's has
abbrev pub stands_for_codes : DType → ℕ → DType → Array → Bool
stands_for_codes t n codes_t codes = stands_for codes_t n codes && (is_nullable t || not (is_nullable codes_t))

-- why two children stand for no codes of a type, or none that is known, and so many values
abbrev pub refused_parts : DType → ℕ → ℕ → Array → Array → Option DType → Option BuildError
refused_parts t n many codes values None = Some BadMetadata
refused_parts t n many codes values (Some codes_t) =
    cond (stands_for_codes t n codes_t codes) (cond (stands_for t many values) None (Some (ChildMismatch 1))) (Some (ChildMismatch 0))

-- why children stand for no codes and values of a dictionary of this type and length
abbrev pub refused_children : DType → ℕ → DictMetadata → List Array → Option BuildError
refused_children t n m (codes ∷ values ∷ []) = refused_parts t n m.values_len codes values (codes_type t m)
refused_children t n m children = Some (ChildCount (length children))

-- why no dictionary is built of children: they stand for no codes and values, or the codes are refused
abbrev pub RefusesBuild : DType → ℕ → DictMetadata → List Array → BuildError → Type 0
RefusesBuild t n m (codes ∷ values ∷ []) NotUnsigned =
    (refused_children t n m (codes ∷ values ∷ []) ≡ None) × Refuses (column_of codes) m.values_len of_codes.NotUnsigned
RefusesBuild t n m (codes ∷ values ∷ []) (CodeOutOfRange row code) =
    (refused_children t n m (codes ∷ values ∷ []) ≡ None) × Refuses (column_of codes) m.values_len (of_codes.CodeOutOfRange row code)
RefusesBuild t n m children cause = refused_children t n m children ≡ Some cause

-- a dictionary that is built: of the type, its codes of the type that the metadata names, and codes and values each the child in its place
pub record IsBuilt (t : DType) (n : ℕ) (m : DictMetadata) (children : List Array) (d : DictParts) : Type 0 where
  pub right : refused_children t n m children ≡ None
  pub dtype : (dict_column d).dtype ≡ t
  pub rows : length (dict_column d).rows ≡ n
  pub codes : codes_type t m ≡ Some (column_of d.codes).dtype
  pub values : (column_of d.values).dtype ≡ t
  pub parts : AllZip IsRelabelled children (d.codes ∷ d.values ∷ [])
