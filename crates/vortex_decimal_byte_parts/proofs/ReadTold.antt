-- Metadata and children that are read, and why others are not.
use Rattle.std.proofs.Common.{ℕ, ◌≡◌, ◌==◌, Bool, true, false, cond, List, [], ◌∷◌, length, map, refl, sym, ap, subst, ◌∙◌, inl, inr, Some, None}
use Rattle.vortex_array_types.specs.Digits.{Digits}
use Rattle.vortex_array_types.specs.Row.{nullability}
use Rattle.vortex_array_types.specs.declared.types.DType.{DType}
use Rattle.vortex_array_types.specs.declared.types.DType.TheVariants as dtype
use Rattle.vortex_array_types.specs.declared.types.Nullability.{Nullability}
use Rattle.vortex_array.specs.declared.arrays.Array.{Array}
use Rattle.vortex_array.specs.Plain.{is_decimal_type}
use Rattle.vortex_wire.specs.Messages.{Integer, Several, Spells, Value, Whole, latest, or_zero, signed}
use Rattle.vortex_wire.specs.Tables.{v1_rows, v2_rows}
use Rattle.vortex_decimal_byte_parts.specs.Columns.{Parts}
use Rattle.vortex_decimal_byte_parts.specs.Serialized.{AreParts, IsDeserialized, IsOfChildren, PartTypes, RefusesSerialized, Tells, V1, V2, is_lower_count, lowers_told, msp_told, refused_children, refused_told, v1_id, v2_id}
use Rattle.vortex_decimal_byte_parts.specs.declared.errors.SerdeError.{SerdeError}
use Rattle.vortex_decimal_byte_parts.specs.declared.errors.SerdeError.TheVariants.{UnknownId, BadMetadata, NotDecimal, LowerCount, ChildCount, BadType, ChildMismatch, OutOfMemory}

-- the two ids are not the same
pub ids-differ : v1_id ≡ v2_id → ⊥
ids-differ e = let clash : true ≡ false = ap (λ id. length id == 25) e in cc

-- what is told of decimals of a type
told_by : (t : DType) (d : Digits) (k : Nullability) (n : ℕ) (cs : List Array) (told : PartTypes) (b : Bool) → t ≡ dtype.Decimal d k → is_lower_count told ≡ b → refused_told t n cs told ≡ cond b (refused_children k n (msp_told told) (lowers_told told) cs) (Some LowerCount)
told_by t d k n cs told b is count =
    ap (λ u. refused_told u n cs told) is ∙ ap (λ x. cond x (refused_children k n (msp_told told) (lowers_told told) cs) (Some LowerCount)) count

-- parts are read where nothing is refused
pub read-told : (id : List ℕ) (t : DType) (d : Digits) (k : Nullability) (n : ℕ) (metadata : List ℕ) (told : PartTypes) (cs : List Array) (p : Parts) → t ≡ dtype.Decimal d k → Tells id metadata told → is_lower_count told ≡ true
    → refused_children k n (msp_told told) (lowers_told told) cs ≡ None → AreParts (dtype.Decimal d k) n (msp_told told) (lowers_told told) cs p → IsDeserialized id t n metadata cs p
read-told id t d k n metadata told cs p is tells count right made = record {
  told = told;
  tells = tells;
  right = told_by t d k n cs told true is count ∙ right;
  made = subst (λ u. AreParts u n (msp_told told) (lowers_told told) cs p) (sym is) made;
}

-- a type that is none of decimals
pub not-decimal : (id : List ℕ) (t : DType) (n : ℕ) (metadata : List ℕ) (told : PartTypes) (cs : List Array) → Tells id metadata told → is_decimal_type t ≡ false → RefusesSerialized id t n metadata cs NotDecimal
not-decimal id t n metadata told cs tells e =
    (told, tells, ap (λ b. cond b (cond (is_lower_count told) (refused_children (nullability t) n (msp_told told) (lowers_told told) cs) (Some LowerCount)) (Some NotDecimal)) e)

-- a count of lower parts that cannot be
pub lower-count : (id : List ℕ) (t : DType) (d : Digits) (k : Nullability) (n : ℕ) (metadata : List ℕ) (told : PartTypes) (cs : List Array) → t ≡ dtype.Decimal d k → Tells id metadata told → is_lower_count told ≡ false → RefusesSerialized id t n metadata cs LowerCount
lower-count id t d k n metadata told cs is tells count = (told, tells, told_by t d k n cs told false is count)

-- children that are refused
pub refused-children : (id : List ℕ) (t : DType) (d : Digits) (k : Nullability) (n : ℕ) (metadata : List ℕ) (told : PartTypes) (cs : List Array) (e : SerdeError) → t ≡ dtype.Decimal d k → Tells id metadata told → is_lower_count told ≡ true
    → refused_children k n (msp_told told) (lowers_told told) cs ≡ Some e → IsOfChildren e → RefusesSerialized id t n metadata cs e
refused-children id t d k n metadata told cs ChildCount is tells count r of = (told, tells, told_by t d k n cs told true is count ∙ r)
refused-children id t d k n metadata told cs (BadType part) is tells count r of = (told, tells, told_by t d k n cs told true is count ∙ r)
refused-children id t d k n metadata told cs (ChildMismatch child) is tells count r of = (told, tells, told_by t d k n cs told true is count ∙ r)
refused-children id t d k n metadata told cs UnknownId is tells count r of = absurd of
refused-children id t d k n metadata told cs BadMetadata is tells count r of = absurd of
refused-children id t d k n metadata told cs NotDecimal is tells count r of = absurd of
refused-children id t d k n metadata told cs LowerCount is tells count r of = absurd of
refused-children id t d k n metadata told cs OutOfMemory is tells count r of = absurd of

-- bytes that spell no message
none_v1 : (metadata : List ℕ) → ((values : List Value) → Spells v1_rows metadata values → ⊥) → (told : PartTypes) → Tells v1_id metadata told → ⊥
none_v1 metadata none (V1 msp count) t = none (Integer msp ∷ Whole count ∷ []) t.1
none_v1 metadata none (V2 msp lowers) t = ids-differ t.0

pub bad-v1 : (t : DType) (n : ℕ) (metadata : List ℕ) (cs : List Array) → ((values : List Value) → Spells v1_rows metadata values → ⊥) → RefusesSerialized v1_id t n metadata cs BadMetadata
bad-v1 t n metadata cs none = (inl refl, none_v1 metadata none)

none_v2 : (metadata : List ℕ) → ((values : List Value) → Spells v2_rows metadata values → ⊥) → (told : PartTypes) → Tells v2_id metadata told → ⊥
none_v2 metadata none (V1 msp count) t = ids-differ (sym t.0)
none_v2 metadata none (V2 msp lowers) t = none (Integer msp ∷ Several lowers ∷ []) t.1

pub bad-v2 : (t : DType) (n : ℕ) (metadata : List ℕ) (cs : List Array) → ((values : List Value) → Spells v2_rows metadata values → ⊥) → RefusesSerialized v2_id t n metadata cs BadMetadata
bad-v2 t n metadata cs none = (inr refl, none_v2 metadata none)

-- memory is wanting for a message that the bytes spell
pub memory-v2 : (t : DType) (n : ℕ) (metadata : List ℕ) (cs : List Array) (values : List Value) → Spells v2_rows metadata values → RefusesSerialized v2_id t n metadata cs OutOfMemory
memory-v2 t n metadata cs [] (fs, f, m) = absurd m
memory-v2 t n metadata cs (a ∷ []) (fs, f, (x, m)) = absurd m
memory-v2 t n metadata cs (a ∷ b ∷ c ∷ vs) (fs, f, (x, (y, m))) = absurd m
memory-v2 t n metadata cs (a ∷ b ∷ []) (fs, f, ((ns, told, e), ((ms, more, g), u))) =
    (V2 (signed (or_zero (latest ns))) (map signed ms), (refl, (fs, f, ((ns, told, refl), ((ms, more, refl), tt)))))

-- a type that is no decimal's
pub other-type : (t : DType) → ((d : Digits) (k : Nullability) → t ≡ dtype.Decimal d k → ⊥) → is_decimal_type t ≡ false
other-type (dtype.Decimal d k) f = absurd (f d k refl)
other-type (dtype.Primitive w k) f = refl
other-type (dtype.Bool k) f = refl
other-type (dtype.Utf8 k) f = refl
other-type (dtype.Binary k) f = refl
