-- Children of which dictionaries are built, and why others are not.
use Rattle.std.proofs.Common.{ℕ, ◌≡◌, ◌==◌, Bool, true, false, not, ◌&&◌, cond, List, [], ◌∷◌, length, map, refl, sym, ap, subst, ◌∙◌, Option, Some, None}
use Rattle.std.specs.Prelude.{◌||◌, All, IsTrue}
use Rattle.std.specs.List.{AllZip}
use Rattle.std.proofs.lemmas.List.{length-map}
use Rattle.vortex_array_types.specs.Row.{is_nullable}
use Rattle.vortex_array_types.specs.Typed.{same_apart_from_nullability}
use Rattle.vortex_array_types.specs.Widths.{nullable_form, with_nullability}
use Rattle.vortex_array_types.specs.declared.types.DType.{DType}
use Rattle.vortex_array_types.specs.declared.types.DType.TheVariants as dtype
use Rattle.vortex_array_types.specs.declared.types.Nullability.{Nullability}
use Rattle.vortex_array_types.specs.declared.types.Nullability.TheVariants.{NonNullable, Nullable}
use Rattle.vortex_array_types.proofs.SameTypes.{same-type, with-own}
use Rattle.vortex_array_select.specs.Selected.{IndexBelow, NamesRows, is_index_type, row_at}
use Rattle.vortex_array.specs.declared.arrays.Array.{Array}
use Rattle.vortex_array.specs.ColumnOf.{column_of}
use Rattle.vortex_array_children.specs.Children.{IsRelabelled, is_form_of, stands_for}
use Rattle.vortex_array_children.proofs.Forms.{form-same, has-nulls, stands-long}
use Rattle.vortex_wire.specs.declared.messages.DictMetadata.{DictMetadata}
use Rattle.vortex_dict.specs.Built.{IsBuilt, codes_type, refused_children, refused_parts, stands_for_codes}
use Rattle.vortex_dict.specs.Decoded.{dict_column}
use Rattle.vortex_dict.specs.Parts.{DictParts}
use Rattle.vortex_dict.specs.declared.build_error.BuildError.{BuildError}
use Rattle.vortex_dict.specs.declared.build_error.BuildError.TheVariants.{BadMetadata, ChildCount, ChildMismatch}

-- another number of children
pub not-two : (t : DType) (n : ℕ) (m : DictMetadata) (cs : List Array) → (length cs == 2) ≡ false → refused_children t n m cs ≡ Some (ChildCount (length cs))
not-two t n m [] e = refl
not-two t n m (c ∷ []) e = refl
not-two t n m (c ∷ d ∷ []) e = absurd (cc e)
not-two t n m (c ∷ d ∷ f ∷ cs) e = refl

-- the causes of two children, where the type of the codes is known
pub two-told : (t s : DType) (n : ℕ) (m : DictMetadata) (codes values : Array) (x y : Bool) → codes_type t m ≡ Some s → stands_for_codes t n s codes ≡ x → stands_for t m.values_len values ≡ y
    → refused_children t n m (codes ∷ values ∷ []) ≡ cond x (cond y None (Some (ChildMismatch 1))) (Some (ChildMismatch 0))
two-told t s n m codes values x y e first second =
    ap (refused_parts t n m.values_len codes values) e
    ∙ ap (λ z. cond z (cond (stands_for t m.values_len values) None (Some (ChildMismatch 1))) (Some (ChildMismatch 0))) first
    ∙ ap (λ z. cond x (cond z None (Some (ChildMismatch 1))) (Some (ChildMismatch 0))) second

and_true : (a b : Bool) → (a && b) ≡ true → (a ≡ true) × (b ≡ true)
and_true true b h = (refl, h)
and_true false b h = absurd (cc h)

pub codes-stand : (t s : DType) (n : ℕ) (codes : Array) → stands_for_codes t n s codes ≡ true → stands_for s n codes ≡ true
codes-stand t s n codes h = (and_true (stands_for s n codes) (is_nullable t || not (is_nullable s)) h).0

-- codes are of one kind with nulls and without
index_with : (n : Nullability) (t : DType) → is_index_type (with_nullability n t) ≡ is_index_type t
index_with n (dtype.Bool k) = refl
index_with n (dtype.Primitive w k) = refl
index_with n (dtype.Decimal d k) = refl
index_with n (dtype.Utf8 k) = refl
index_with n (dtype.Binary k) = refl

index_same : (s t : DType) → IsTrue (same_apart_from_nullability s t) → is_index_type s ≡ is_index_type t
index_same s t e = sym (index_with NonNullable s) ∙ ap is_index_type (same-type s t NonNullable e) ∙ index_with NonNullable t

-- codes that are relabelled name the same values
pub relabelled-codes : (codes values c v : Array) (n : ℕ) → NamesRows (column_of codes) n → n ≡ length (column_of values).rows → IsRelabelled codes c → IsRelabelled values v → NamesRows (column_of c) (length (column_of v).rows)
relabelled-codes codes values c v n names long same other =
    subst (λ (k : ℕ). NamesRows (column_of c) k) (long ∙ sym (ap length other.rows))
    (record {
      kind = sym (index_same (column_of codes).dtype (column_of c).dtype (form-same (column_of codes).dtype (column_of c).dtype same.form)) ∙ names.kind;
      below = subst (All (IndexBelow n)) (sym same.rows) names.below;
    })

-- the form with nulls of a type that has them
own_nulls : (t : DType) → is_nullable t ≡ true → nullable_form t ≡ t
own_nulls t h = ap (λ n. with_nullability n t) (sym (has-nulls t h)) ∙ with-own t

-- the type of a dictionary whose codes have nulls only where the values have
taken_type : (t s : DType) (x y : Bool) → is_nullable s ≡ x → is_nullable t ≡ y → (y || not x) ≡ true → cond x (nullable_form t) t ≡ t
taken_type t s true true p q h = own_nulls t q
taken_type t s true false p q h = absurd (cc h)
taken_type t s false y p q h = refl

pub built : (t s : DType) (n : ℕ) (m : DictMetadata) (codes values c v : Array) (d : DictParts) → codes_type t m ≡ Some s → stands_for_codes t n s codes ≡ true → stands_for t m.values_len values ≡ true
    → (column_of c).dtype ≡ s → (column_of v).dtype ≡ t → IsRelabelled codes c → IsRelabelled values v → d ≡ record { codes = c; values = v } → IsBuilt t n m (codes ∷ values ∷ []) d
built t s n m codes values c v d e first second typed same relabelled other is = record {
  right = two-told t s n m codes values true true e first second;
  dtype =
      ap (λ p. (dict_column p).dtype) is
      ∙ ap (λ u. cond (is_nullable (column_of c).dtype) (nullable_form u) u) same
      ∙ ap (λ u. cond (is_nullable u) (nullable_form t) t) typed
      ∙ taken_type t s (is_nullable s) (is_nullable t) refl refl (and_true (stands_for s n codes) (is_nullable t || not (is_nullable s)) first).1;
  rows =
      ap (λ p. length (dict_column p).rows) is
      ∙ length-map (column_of c).rows (row_at (column_of v).rows)
      ∙ ap length relabelled.rows
      ∙ stands-long s n codes (codes-stand t s n codes first);
  codes = e ∙ ap (λ u. Some u) (sym typed) ∙ ap (λ p. Some (column_of p.codes).dtype) (sym is);
  values = ap (λ p. (column_of p.values).dtype) is ∙ same;
  parts = subst (λ p. AllZip IsRelabelled (codes ∷ values ∷ []) (p.codes ∷ p.values ∷ [])) (sym is) (relabelled, (other, tt));
}
