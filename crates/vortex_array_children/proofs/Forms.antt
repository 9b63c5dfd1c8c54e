-- Types with nulls, and the same without.
use Rattle.std.proofs.Common.{ℕ, ◌≡◌, ◌==◌, Bool, true, false, not, ◌&&◌, length, refl, sym, ap, ◌∙◌}
use Rattle.std.specs.Prelude.{◌||◌, IsTrue}
use Rattle.std.specs.Ordering.{int_eq}
use Rattle.std.proofs.lemmas.Bool.Decides.{Decides-eqb, Decides-int_eq}
use Rattle.vortex_array_types.specs.Row.{is_nullable, nullability}
use Rattle.vortex_array_types.specs.Typed.{same_apart_from_nullability, width_number}
use Rattle.vortex_array_types.specs.Widths.{nullable_form, with_nullability}
use Rattle.vortex_array_types.specs.declared.types.DType.{DType}
use Rattle.vortex_array_types.specs.declared.types.DType.TheVariants.{Bool as Truth, Primitive, Decimal, Utf8, Binary}
use Rattle.vortex_array_types.specs.declared.types.Nullability.{Nullability}
use Rattle.vortex_array_types.specs.declared.types.Nullability.TheVariants.{NonNullable, Nullable}
use Rattle.vortex_array_types.proofs.SameTypes.{same-type, with-own}
use Rattle.vortex_array.specs.declared.arrays.Array.{Array}
use Rattle.vortex_array.specs.ColumnOf.{column_of}
use Rattle.vortex_array_children.specs.Children.{is_form_of, stands_for}

with_nulls : (t : DType) (n : Nullability) → nullability t ≡ n → is_nullable t ≡ true → nullability t ≡ Nullable
with_nulls t Nullable e h = e
with_nulls t NonNullable e h = absurd (cc (rw e at h))

without_nulls : (t : DType) (n : Nullability) → nullability t ≡ n → is_nullable t ≡ false → nullability t ≡ NonNullable
without_nulls t NonNullable e h = e
without_nulls t Nullable e h = absurd (cc (rw e at h))

pub has-nulls : (t : DType) → is_nullable t ≡ true → nullability t ≡ Nullable
has-nulls t h = with_nulls t (nullability t) refl h

pub has-no-nulls : (t : DType) → is_nullable t ≡ false → nullability t ≡ NonNullable
has-no-nulls t h = without_nulls t (nullability t) refl h

both : (a b : Bool) → IsTrue (a && b) → IsTrue a × IsTrue b
both true b h = (refl, h)
both false b h = absurd (cc h)

-- the types are the same apart from nullability
pub form-same : (s t : DType) → IsTrue (is_form_of s t) → IsTrue (same_apart_from_nullability s t)
form-same s t f = (both (same_apart_from_nullability s t) (is_nullable t || not (is_nullable s)) f).0

-- a type becomes the one with nulls of which it is a form
pub form-nullable : (s t : DType) → IsTrue (is_form_of s t) → is_nullable t ≡ true → nullable_form s ≡ t
form-nullable s t f n = same-type s t Nullable (form-same s t f) ∙ ap (λ k. with_nullability k t) (sym (has-nulls t n)) ∙ with-own t

same_nulls : (s t : DType) (a b : Bool) → is_nullable s ≡ a → is_nullable t ≡ b → IsTrue (b || not a) → (b && not a) ≡ false → nullability s ≡ nullability t
same_nulls s t true true p q form own = has-nulls s p ∙ sym (has-nulls t q)
same_nulls s t false false p q form own = has-no-nulls s p ∙ sym (has-no-nulls t q)
same_nulls s t true false p q form own = absurd (cc form)
same_nulls s t false true p q form own = absurd (cc own)

-- otherwise it is that type
pub form-own : (s t : DType) → IsTrue (is_form_of s t) → (is_nullable t && not (is_nullable s)) ≡ false → s ≡ t
form-own s t f own =
    let nulls : nullability s ≡ nullability t = same_nulls s t (is_nullable s) (is_nullable t) refl refl (both (same_apart_from_nullability s t) (is_nullable t || not (is_nullable s)) f).1 own in
    sym (with-own s) ∙ ap (λ n. with_nullability n s) nulls ∙ same-type s t (nullability t) (form-same s t f) ∙ with-own t

-- an array that stands for rows of a type is as long, and of a form of the type
pub stands-long : (t : DType) (n : ℕ) (a : Array) → stands_for t n a ≡ true → length (column_of a).rows ≡ n
stands-long t n a h = (Decides-eqb (length (column_of a).rows) n).0 (both (length (column_of a).rows == n) (is_form_of (column_of a).dtype t) h).0

pub stands-form : (t : DType) (n : ℕ) (a : Array) → stands_for t n a ≡ true → IsTrue (is_form_of (column_of a).dtype t)
stands-form t n a h = (both (length (column_of a).rows == n) (is_form_of (column_of a).dtype t) h).1

-- types of one kind with the same nulls
pub same-kind : (s t : DType) → IsTrue (same_apart_from_nullability s t) → nullability s ≡ nullability t → s ≡ t
same-kind s t e n = sym (with-own s) ∙ ap (λ k. with_nullability k s) n ∙ same-type s t (nullability t) e ∙ with-own t

two_true : (a b : Bool) → IsTrue a → IsTrue b → IsTrue (a && b)
two_true true b p q = q
two_true false b p q = absurd (cc p)

same_self : (t : DType) → IsTrue (same_apart_from_nullability t t)
same_self (Truth k) = refl
same_self (Primitive p k) = (Decides-eqb (width_number p) (width_number p)).1 refl
same_self (Decimal d k) = two_true (d.precision == d.precision) (int_eq d.scale d.scale) ((Decides-eqb d.precision d.precision).1 refl) ((Decides-int_eq d.scale d.scale).1 refl)
same_self (Utf8 k) = refl
same_self (Binary k) = refl

either_way : (b : Bool) → IsTrue (b || not b)
either_way true = refl
either_way false = refl

-- a type is a form of itself
pub form-self : (t : DType) → IsTrue (is_form_of t t)
form-self t = two_true (same_apart_from_nullability t t) (is_nullable t || not (is_nullable t)) (same_self t) (either_way (is_nullable t))

-- an array of a form of a type stands for as many rows as it has
pub stands-own : (t : DType) (n : ℕ) (a : Array) → length (column_of a).rows ≡ n → IsTrue (is_form_of (column_of a).dtype t) → stands_for t n a ≡ true
stands-own t n a long form = two_true (length (column_of a).rows == n) (is_form_of (column_of a).dtype t) ((Decides-eqb (length (column_of a).rows) n).1 long) form

nullable_same : (t : DType) → IsTrue (same_apart_from_nullability t (nullable_form t))
nullable_same (Truth k) = refl
nullable_same (Primitive p k) = same_self (Primitive p k)
nullable_same (Decimal d k) = same_self (Decimal d k)
nullable_same (Utf8 k) = refl
nullable_same (Binary k) = refl

-- the form with nulls has them
pub nullable-has : (t : DType) → is_nullable (nullable_form t) ≡ true
nullable-has (Truth k) = refl
nullable-has (Primitive p k) = refl
nullable-has (Decimal d k) = refl
nullable-has (Utf8 k) = refl
nullable-has (Binary k) = refl

true_first : (a b : Bool) → a ≡ true → IsTrue (a || b)
true_first true b e = refl
true_first false b e = absurd (cc e)

-- and a type is a form of it
pub form-with : (t : DType) → IsTrue (is_form_of t (nullable_form t))
form-with t =
    two_true (same_apart_from_nullability t (nullable_form t)) (is_nullable (nullable_form t) || not (is_nullable t)) (nullable_same t) (true_first (is_nullable (nullable_form t)) (not (is_nullable t)) (nullable-has t))
