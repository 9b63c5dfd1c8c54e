-- Children that are read as parts, and why others are not.
use Rattle.std.proofs.Common.{ℕ, ◌≡◌, ◌==◌, Bool, true, false, not, cond, List, [], ◌∷◌, length, map, refl, sym, ap, subst, ◌∙◌, Option, Some, None}
use Rattle.std.specs.Prelude.{ℤ, IsTrue}
use Rattle.std.specs.List.{AllZip}
use Rattle.std.specs.Option.{option_map_or}
use Rattle.std.proofs.lemmas.List.{length-map}
use Rattle.std.proofs.lemmas.Simd.{length-zip2}
use Rattle.vortex_array_types.specs.Digits.{Digits}
use Rattle.vortex_array_types.specs.Row.{nullability}
use Rattle.vortex_array_types.specs.Widths.{has_no_sign}
use Rattle.vortex_array_types.specs.declared.types.DType.{DType}
use Rattle.vortex_array_types.specs.declared.types.DType.TheVariants as dtype
use Rattle.vortex_array_types.specs.declared.types.Nullability.{Nullability}
use Rattle.vortex_array_types.specs.declared.types.Nullability.TheVariants.{NonNullable}
use Rattle.vortex_array_types.specs.declared.types.PType.{PType}
use Rattle.vortex_array.specs.declared.arrays.Array.{Array}
use Rattle.vortex_array.specs.ColumnOf.{column_of}
use Rattle.vortex_array_children.specs.Children.{IsRelabelled, stands_for, stands_for_number, type_number, width_of_number}
use Rattle.vortex_array_children.proofs.Forms.{stands-long}
use Rattle.vortex_array_children.proofs.Numbered.{number-of}
use Rattle.vortex_decimal_byte_parts.specs.Checked.{is_lower_type, is_msp_type}
use Rattle.vortex_decimal_byte_parts.specs.Columns.{Parts, one_row, parts_column, two_rows}
use Rattle.vortex_decimal_byte_parts.specs.Serialized.{AreParts, children_of, is_signed_number, is_unsigned_number, part_number, refused_children}
use Rattle.vortex_decimal_byte_parts.specs.declared.errors.SerdeError.{SerdeError}
use Rattle.vortex_decimal_byte_parts.specs.declared.errors.SerdeError.TheVariants.{BadType, ChildCount, ChildMismatch}
use Rattle.vortex_decimal_byte_parts.proofs.PartColumns.{parts_of}

-- another number of children than of parts
pub not-one : (k : Nullability) (n : ℕ) (msp : ℤ) (cs : List Array) → (length cs == 1) ≡ false → refused_children k n msp [] cs ≡ Some ChildCount
not-one k n msp [] e = refl
not-one k n msp (c ∷ []) e = absurd (cc e)
not-one k n msp (c ∷ d ∷ cs) e = refl

pub not-two : (k : Nullability) (n : ℕ) (msp lower : ℤ) (cs : List Array) → (length cs == 2) ≡ false → refused_children k n msp (lower ∷ []) cs ≡ Some ChildCount
not-two k n msp lower [] e = refl
not-two k n msp lower (c ∷ []) e = refl
not-two k n msp lower (c ∷ d ∷ []) e = absurd (cc e)
not-two k n msp lower (c ∷ d ∷ f ∷ cs) e = refl

-- the width that a number has
pub signed-width : (number : ℤ) (w : PType) → width_of_number number ≡ Some w → has_no_sign w ≡ false → is_signed_number number ≡ true
signed-width number w e s = ap (λ o. option_map_or (λ v. not (has_no_sign v)) o false) e ∙ ap not s

pub unsigned-width : (number : ℤ) (w : PType) → width_of_number number ≡ Some w → has_no_sign w ≡ true → is_unsigned_number number ≡ true
unsigned-width number w e s = ap (λ o. option_map_or has_no_sign o false) e ∙ s

pub stands-width : (k : Nullability) (n : ℕ) (number : ℤ) (w : PType) (child : Array) → width_of_number number ≡ Some w → stands_for_number number k n child ≡ stands_for (dtype.Primitive w k) n child
stands-width k n number w child e = ap (λ o. option_map_or (λ v. stands_for (dtype.Primitive v k) n child) o false) e

-- a part as long as the child
part_long : (t : DType) (n : ℕ) (child part : Array) → stands_for t n child ≡ true → IsRelabelled child part → length (column_of part).rows ≡ n
part_long t n child part h same = ap length same.rows ∙ stands-long t n child h

-- one child is a most significant part
pub one-read : (d : Digits) (k : Nullability) (n : ℕ) (msp : ℤ) (w : PType) (cs : List Array) (child part : Array) (p : Parts) → cs ≡ child ∷ [] → width_of_number msp ≡ Some w → stands_for (dtype.Primitive w k) n child ≡ true
    → (column_of part).dtype ≡ dtype.Primitive w k → IsRelabelled child part → p ≡ parts_of part None d → AreParts (dtype.Decimal d k) n msp [] cs p
one-read d k n msp w cs child part p only e h typed same is = record {
  dtype = ap (λ q. (parts_column q).dtype) is ∙ ap (λ t. dtype.Decimal d (nullability t)) typed;
  rows = ap (λ q. length (parts_column q).rows) is ∙ length-map (column_of part).rows one_row ∙ part_long (dtype.Primitive w k) n child part h same;
  widths = ap (λ q. map part_number (children_of q)) is ∙ ap (λ t. type_number t ∷ []) typed ∙ ap (λ z. z ∷ []) (number-of msp w e);
  parts = subst (λ xs. AllZip IsRelabelled xs (children_of p)) (sym only) (subst (λ q. AllZip IsRelabelled (child ∷ []) (children_of q)) (sym is) (same, tt));
}

pub one-right : (k : Nullability) (n : ℕ) (msp : ℤ) (w : PType) (cs : List Array) (child : Array) → cs ≡ child ∷ [] → width_of_number msp ≡ Some w → has_no_sign w ≡ false → stands_for (dtype.Primitive w k) n child ≡ true → refused_children k n msp [] cs ≡ None
one-right k n msp w cs child only e s h =
    ap (refused_children k n msp []) only
    ∙ ap (λ b. cond b (cond (stands_for_number msp k n child) None (Some (ChildMismatch 0))) (Some (BadType 0))) (signed-width msp w e s)
    ∙ ap (λ b. cond b None (Some (ChildMismatch 0))) (stands-width k n msp w child e ∙ h)

pub one-mismatch : (k : Nullability) (n : ℕ) (msp : ℤ) (w : PType) (cs : List Array) (child : Array) → cs ≡ child ∷ [] → width_of_number msp ≡ Some w → has_no_sign w ≡ false → stands_for (dtype.Primitive w k) n child ≡ false → refused_children k n msp [] cs ≡ Some (ChildMismatch 0)
one-mismatch k n msp w cs child only e s h =
    ap (refused_children k n msp []) only
    ∙ ap (λ b. cond b (cond (stands_for_number msp k n child) None (Some (ChildMismatch 0))) (Some (BadType 0))) (signed-width msp w e s)
    ∙ ap (λ b. cond b None (Some (ChildMismatch 0))) (stands-width k n msp w child e ∙ h)

pub one-type : (k : Nullability) (n : ℕ) (msp : ℤ) (cs : List Array) (child : Array) → cs ≡ child ∷ [] → is_signed_number msp ≡ false → refused_children k n msp [] cs ≡ Some (BadType 0)
one-type k n msp cs child only s = ap (refused_children k n msp []) only ∙ ap (λ b. cond b (cond (stands_for_number msp k n child) None (Some (ChildMismatch 0))) (Some (BadType 0))) s

-- a part of a width with sign, and of one without
pub msp-kind : (t : DType) (w : PType) (k : Nullability) → t ≡ dtype.Primitive w k → has_no_sign w ≡ false → IsTrue (is_msp_type t)
msp-kind t w k e s = ap is_msp_type e ∙ ap not s

pub lower-kind : (t : DType) (w : PType) → t ≡ dtype.Primitive w NonNullable → has_no_sign w ≡ true → IsTrue (is_lower_type t)
lower-kind t w e s = ap is_lower_type e ∙ s

-- why two children are no parts: the causes in order
abbrev two_causes : Bool → Bool → Bool → Bool → Option SerdeError
two_causes signed unsigned first second =
    cond signed (cond unsigned (cond first (cond second None (Some (ChildMismatch 1))) (Some (ChildMismatch 0))) (Some (BadType 1))) (Some (BadType 0))

pub two-type : (k : Nullability) (n : ℕ) (msp lower : ℤ) (cs : List Array) (a b : Array) → cs ≡ a ∷ b ∷ [] → is_signed_number msp ≡ false → refused_children k n msp (lower ∷ []) cs ≡ Some (BadType 0)
two-type k n msp lower cs a b both s =
    ap (refused_children k n msp (lower ∷ [])) both ∙ ap (λ x. two_causes x (is_unsigned_number lower) (stands_for_number msp k n a) (stands_for_number lower NonNullable n b)) s

pub two-lower-type : (k : Nullability) (n : ℕ) (msp lower : ℤ) (cs : List Array) (a b : Array) → cs ≡ a ∷ b ∷ [] → is_signed_number msp ≡ true → is_unsigned_number lower ≡ false → refused_children k n msp (lower ∷ []) cs ≡ Some (BadType 1)
two-lower-type k n msp lower cs a b both s u =
    ap (refused_children k n msp (lower ∷ [])) both
    ∙ ap (λ x. two_causes x (is_unsigned_number lower) (stands_for_number msp k n a) (stands_for_number lower NonNullable n b)) s
    ∙ ap (λ x. two_causes true x (stands_for_number msp k n a) (stands_for_number lower NonNullable n b)) u

-- the causes of two children, of which the widths are right
pub two-told : (k : Nullability) (n : ℕ) (msp lower : ℤ) (w v : PType) (cs : List Array) (a b : Array) (x y : Bool) → cs ≡ a ∷ b ∷ [] → width_of_number msp ≡ Some w → has_no_sign w ≡ false → width_of_number lower ≡ Some v → has_no_sign v ≡ true
    → stands_for (dtype.Primitive w k) n a ≡ x → stands_for (dtype.Primitive v NonNullable) n b ≡ y → refused_children k n msp (lower ∷ []) cs ≡ cond x (cond y None (Some (ChildMismatch 1))) (Some (ChildMismatch 0))
two-told k n msp lower w v cs a b x y both e s f u first second =
    ap (refused_children k n msp (lower ∷ [])) both
    ∙ ap (λ z. two_causes z (is_unsigned_number lower) (stands_for_number msp k n a) (stands_for_number lower NonNullable n b)) (signed-width msp w e s)
    ∙ ap (λ z. two_causes true z (stands_for_number msp k n a) (stands_for_number lower NonNullable n b)) (unsigned-width lower v f u)
    ∙ ap (λ z. two_causes true true z (stands_for_number lower NonNullable n b)) (stands-width k n msp w a e ∙ first)
    ∙ ap (λ z. two_causes true true x z) (stands-width NonNullable n lower v b f ∙ second)

-- two children are a most significant part and a lower one
pub two-read : (d : Digits) (k : Nullability) (n : ℕ) (msp lower : ℤ) (w v : PType) (cs : List Array) (a b m l : Array) (p : Parts) → cs ≡ a ∷ b ∷ [] → width_of_number msp ≡ Some w → width_of_number lower ≡ Some v
    → stands_for (dtype.Primitive w k) n a ≡ true → stands_for (dtype.Primitive v NonNullable) n b ≡ true → (column_of m).dtype ≡ dtype.Primitive w k → (column_of l).dtype ≡ dtype.Primitive v NonNullable
    → IsRelabelled a m → IsRelabelled b l → p ≡ parts_of m (Some l) d → AreParts (dtype.Decimal d k) n msp (lower ∷ []) cs p
two-read d k n msp lower w v cs a b m l p both e f first second typed low same other is =
    let long : length (column_of m).rows ≡ n = part_long (dtype.Primitive w k) n a m first same in
    let lower_long : length (column_of l).rows ≡ n = part_long (dtype.Primitive v NonNullable) n b l second other in
    record {
      dtype = ap (λ q. (parts_column q).dtype) is ∙ ap (λ t. dtype.Decimal d (nullability t)) typed;
      rows = ap (λ q. length (parts_column q).rows) is ∙ length-zip2 two_rows (column_of m).rows (column_of l).rows (long ∙ sym lower_long) ∙ long;
      widths = ap (λ q. map part_number (children_of q)) is ∙ ap (λ t. type_number t ∷ part_number l ∷ []) typed ∙ ap (λ z. z ∷ part_number l ∷ []) (number-of msp w e) ∙ ap (λ t. msp ∷ type_number t ∷ []) low ∙ ap (λ z. msp ∷ z ∷ []) (number-of lower v f);
      parts = subst (λ xs. AllZip IsRelabelled xs (children_of p)) (sym both) (subst (λ q. AllZip IsRelabelled (a ∷ b ∷ []) (children_of q)) (sym is) (same, (other, tt)));
    }
