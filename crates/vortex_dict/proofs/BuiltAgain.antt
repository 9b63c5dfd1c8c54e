-- Dictionaries that are built again by their own metadata.
use Rattle.std.proofs.Common.{ℕ, ◌<◌, ◌≤◌, ◌≡◌, ◌⊎◌, Bool, true, false, not, ◌&&◌, cond, List, [], ◌∷◌, length, get_or, map, refl, sym, ap, subst, ◌∙◌, arith, inl, inr, Option, Some, None}
use Rattle.std.specs.Prelude.{pos, ◌||◌, All, IsTrue, option_map}
use Rattle.std.specs.List.{AllZip}
use Rattle.std.proofs.lemmas.Bool.{cases_lt}
use Rattle.std.proofs.lemmas.List.{get_or_past, length-map}
use Rattle.std.proofs.lemmas.List.Elements.{All-get_or}
use Rattle.vortex_array_types.specs.Row.{Column, is_nullable}
use Rattle.vortex_array_types.specs.Widths.{nullable_form}
use Rattle.vortex_array_types.specs.declared.scalar.Value.{Value}
use Rattle.vortex_array_types.specs.declared.scalar.Value.TheVariants as value
use Rattle.vortex_array_types.specs.declared.types.DType.{DType}
use Rattle.vortex_array_types.specs.declared.types.DType.TheVariants as dtype
use Rattle.vortex_array_types.specs.declared.types.Nullability.TheVariants.{NonNullable, Nullable}
use Rattle.vortex_array_kinds.proofs.RowLemmas.{column_with}
use Rattle.vortex_array_select.specs.Selected.{IndexBelow, NamesRows, is_index_type, row_at}
use Rattle.vortex_array.specs.declared.arrays.Array.{Array}
use Rattle.vortex_array.specs.ColumnOf.{column_of}
use Rattle.vortex_array_children.specs.Children.{IsRelabelled, is_form_of, stands_for, type_number, width_of_number}
use Rattle.vortex_array_children.proofs.Forms.{form-self, form-with, nullable-has, stands-own}
use Rattle.vortex_array_children.proofs.Numbered.{width-back}
use Rattle.vortex_wire.specs.declared.messages.DictMetadata.{DictMetadata}
use Rattle.vortex_dict.specs.Built.{IsBuilt, RefusesBuild, codes_nulls, codes_type, metadata_of, refused_children, stands_for_codes}
use Rattle.vortex_dict.specs.Decoded.{AreCodes, dict_column}
use Rattle.vortex_dict.specs.Parts.{DictParts}
use Rattle.vortex_dict.specs.Refused.{FirstOutside}
use Rattle.vortex_dict.specs.declared.build_error.BuildError.{BuildError}
use Rattle.vortex_dict.specs.declared.build_error.BuildError.TheVariants.{ChildCount, BadMetadata, ChildMismatch, NotUnsigned, CodeOutOfRange}
use Rattle.vortex_dict.proofs.BuiltParts.{two-told}

-- the metadata names the codes' own type
codes_told : (t s : DType) (n : ℕ) → IsTrue (is_index_type s) → codes_type t (record { values_len = n; codes_ptype = type_number s; is_nullable_codes = Some (is_nullable s) }) ≡ Some s
codes_told t (dtype.Primitive w NonNullable) n h = ap (option_map (λ v. dtype.Primitive v NonNullable)) (width-back w)
codes_told t (dtype.Primitive w Nullable) n h = ap (option_map (λ v. dtype.Primitive v Nullable)) (width-back w)
codes_told t (dtype.Bool k) n h = absurd (cc h)
codes_told t (dtype.Decimal d k) n h = absurd (cc h)
codes_told t (dtype.Utf8 k) n h = absurd (cc h)
codes_told t (dtype.Binary k) n h = absurd (cc h)

both_true : (a b : Bool) → a ≡ true → b ≡ true → (a && b) ≡ true
both_true true b p q = q
both_true false b p q = absurd (cc p)

-- the type of a dictionary of values of a type, whose codes have nulls or not
abbrev with_codes : Bool → DType → DType
with_codes b v = cond b (nullable_form v) v

nulls_as_codes : (b : Bool) (v : DType) → (is_nullable (with_codes b v) || not b) ≡ true
nulls_as_codes true v = ap (λ x. x || false) (nullable-has v)
nulls_as_codes false v = either_true (is_nullable v)
  where
    either_true : (x : Bool) → (x || true) ≡ true
    either_true true = refl
    either_true false = refl

values_form : (b : Bool) (v : DType) → IsTrue (is_form_of v (with_codes b v))
values_form true v = form-with v
values_form false v = form-self v

-- a dictionary is not refused of its own codes and values
own_right : (d : DictParts) → AreCodes d.codes d.values → refused_children (dict_column d).dtype (length (dict_column d).rows) (metadata_of d) (d.codes ∷ d.values ∷ []) ≡ None
own_right d names =
    let s = (column_of d.codes).dtype in
    let v = (column_of d.values).dtype in
    let n = length (dict_column d).rows in
    let long : length (column_of d.codes).rows ≡ n = sym (length-map (column_of d.codes).rows (row_at (column_of d.values).rows)) in
    two-told (dict_column d).dtype s n (metadata_of d) d.codes d.values true true
    (codes_told (dict_column d).dtype s (length (column_of d.values).rows) names.kind)
    (both_true (stands_for s n d.codes) (is_nullable (with_codes (is_nullable s) v) || not (is_nullable s)) (stands-own s n d.codes long (form-self s)) (nulls_as_codes (is_nullable s) v))
    (stands-own (with_codes (is_nullable s) v) (length (column_of d.values).rows) d.values refl (values_form (is_nullable s) v))

-- codes of which each is null or below n have none outside
below_here : (n code : ℕ) (row : Option Value) → row ≡ Some (value.Int (pos code)) → IndexBelow n row → code < n
below_here n code row e h = subst (IndexBelow n) e h

below_at : (n i : ℕ) (rows : List (Option Value)) → All (IndexBelow n) rows → IndexBelow n (get_or rows i None)
below_at n i rows h = by_place (cases_lt i (length rows))
  where
    by_place : (i < length rows) ⊎ (length rows ≤ i) → IndexBelow n (get_or rows i None)
    by_place (inl l) = All-get_or (IndexBelow n) rows i None l h
    by_place (inr l) = subst (IndexBelow n) (sym (get_or_past rows i None l)) tt

none_outside : (n row code : ℕ) (rows : List (Option Value)) → All (IndexBelow n) rows → FirstOutside rows n row code → ⊥
none_outside n row code rows h f =
    let below : code < n = below_here n code (get_or rows row None) f.there (below_at n row rows h) in
    absurd (omega (arith, below, f.outside))

own_refused : (d : DictParts) (cause : BuildError) → AreCodes d.codes d.values → RefusesBuild (dict_column d).dtype (length (dict_column d).rows) (metadata_of d) (d.codes ∷ d.values ∷ []) cause → ⊥
own_refused d (ChildCount found) names r = absurd (cc (sym r ∙ own_right d names))
own_refused d BadMetadata names r = absurd (cc (sym r ∙ own_right d names))
own_refused d (ChildMismatch child) names r = absurd (cc (sym r ∙ own_right d names))
own_refused d NotUnsigned names r = absurd (cc (sym r.1 ∙ names.kind))
own_refused d (CodeOutOfRange row code) names r = none_outside (length (column_of d.values).rows) row code (column_of d.codes).rows names.below r.1.1

-- so nothing is refused
pub never-refused : (d : DictParts) (t : DType) (n : ℕ) (m : DictMetadata) (cs : List Array) (e : BuildError) → AreCodes d.codes d.values → t ≡ (dict_column d).dtype → n ≡ length (dict_column d).rows → m ≡ metadata_of d → cs ≡ d.codes ∷ d.values ∷ [] → RefusesBuild t n m cs e → ⊥
never-refused d t n m cs e names type long told children r =
    let a : RefusesBuild (dict_column d).dtype n m cs e = subst (λ (x : DType). RefusesBuild x n m cs e) type r in
    let b : RefusesBuild (dict_column d).dtype (length (dict_column d).rows) m cs e = subst (λ (x : ℕ). RefusesBuild (dict_column d).dtype x m cs e) long a in
    let c : RefusesBuild (dict_column d).dtype (length (dict_column d).rows) (metadata_of d) cs e = subst (λ (x : DictMetadata). RefusesBuild (dict_column d).dtype (length (dict_column d).rows) x cs e) told b in
    own_refused d e names (subst (λ (x : List Array). RefusesBuild (dict_column d).dtype (length (dict_column d).rows) (metadata_of d) x e) children c)

same_column : (a b : Column) → a.dtype ≡ b.dtype → a.rows ≡ b.rows → a ≡ b
same_column a b p q = ap (λ t. column_with t a.rows) p ∙ ap (column_with b.dtype) q

-- and what is built is the same column
pub same-column : (d e : DictParts) (t : DType) (n : ℕ) (m : DictMetadata) (cs : List Array) → t ≡ (dict_column d).dtype → cs ≡ d.codes ∷ d.values ∷ [] → IsBuilt t n m cs e → dict_column e ≡ dict_column d
same-column d e t n m cs type children b =
    let parts : AllZip IsRelabelled (d.codes ∷ d.values ∷ []) (e.codes ∷ e.values ∷ []) = subst (λ (xs : List Array). AllZip IsRelabelled xs (e.codes ∷ e.values ∷ [])) children b.parts in
    same_column (dict_column e) (dict_column d) (b.dtype ∙ type)
    (ap (λ vs. map (row_at vs) (column_of e.codes).rows) parts.1.0.rows ∙ ap (λ rows. map (row_at (column_of d.values).rows) rows) parts.0.rows)
