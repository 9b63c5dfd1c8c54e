-- Types that are the same apart from nullability.
use Rattle.std.proofs.Common.{ℕ, zero, suc, ◌≡◌, ◌==◌, Bool, true, false, ◌&&◌, refl, sym, ap, ◌∙◌}
use Rattle.std.specs.Prelude.{IsTrue}
use Rattle.std.specs.Ordering.{int_eq}
use Rattle.std.proofs.lemmas.Bool.Decides.{Decides-eqb, Decides-int_eq}
use Rattle.vortex_array_types.specs.Digits.{Digits}
use Rattle.vortex_array_types.specs.Row.{nullability, value_fits}
use Rattle.vortex_array_types.specs.Typed.{same_apart_from_nullability, width_number}
use Rattle.vortex_array_types.specs.Widths.{with_nullability}
use Rattle.vortex_array_types.specs.declared.types.Nullability.{Nullability}
use Rattle.vortex_array_types.specs.declared.types.PType.{PType}
use Rattle.vortex_array_types.specs.declared.types.PType.TheVariants.{U8, U16, U32, U64, I8, I16, I32, I64}
use Rattle.vortex_array_types.specs.declared.types.DType.{DType}
use Rattle.vortex_array_types.specs.declared.types.DType.TheVariants.{Bool as Truth, Primitive, Decimal, Utf8, Binary}
use Rattle.vortex_array_types.specs.declared.scalar.Value.{Value}

-- the width of a number
abbrev width_at : ℕ → PType
width_at zero = U8
width_at (suc zero) = U16
width_at (suc (suc zero)) = U32
width_at (suc (suc (suc zero))) = U64
width_at (suc (suc (suc (suc zero)))) = I8
width_at (suc (suc (suc (suc (suc zero))))) = I16
width_at (suc (suc (suc (suc (suc (suc zero)))))) = I32
width_at _ = I64

width_back : (w : PType) → width_at (width_number w) ≡ w
width_back U8 = refl
width_back U16 = refl
width_back U32 = refl
width_back U64 = refl
width_back I8 = refl
width_back I16 = refl
width_back I32 = refl
width_back I64 = refl

-- the numbers of two widths are the same where the widths are
pub same-width : (v w : PType) → IsTrue (width_number v == width_number w) → v ≡ w
same-width v w e = sym (width_back v) ∙ ap width_at ((Decides-eqb (width_number v) (width_number w)).0 e) ∙ width_back w

same_digits : (d e : Digits) (b : Bool) → (d.precision == e.precision) ≡ b → IsTrue (b && int_eq d.scale e.scale) → d ≡ e
same_digits d e true p h = rw ((Decides-eqb d.precision e.precision).0 p, (Decides-int_eq d.scale e.scale).0 h) refl
same_digits d e false p h = absurd (cc h)

-- the types differ by nothing but their nulls
pub same-type : (s t : DType) (n : Nullability) → IsTrue (same_apart_from_nullability s t) → with_nullability n s ≡ with_nullability n t
same-type (Truth k) (Truth m) n e = refl
same-type (Primitive p k) (Primitive q m) n e = ap (λ w. Primitive w n) (same-width p q e)
same-type (Decimal d k) (Decimal f m) n e = ap (λ x. Decimal x n) (same_digits d f (d.precision == f.precision) refl e)
same-type (Utf8 k) (Utf8 m) n e = refl
same-type (Binary k) (Binary m) n e = refl
same-type s t n e = absurd (cc e)

-- a type with its own nulls
pub with-own : (t : DType) → with_nullability (nullability t) t ≡ t
with-own (Truth k) = refl
with-own (Primitive p k) = refl
with-own (Decimal d k) = refl
with-own (Utf8 k) = refl
with-own (Binary k) = refl

-- a value fits whatever the nulls
pub fits-with : (n : Nullability) (t : DType) (x : Value) → value_fits (with_nullability n t) x ≡ value_fits t x
fits-with n (Truth k) x = refl
fits-with n (Primitive p k) x = refl
fits-with n (Decimal d k) x = refl
fits-with n (Utf8 k) x = refl
fits-with n (Binary k) x = refl

-- the nulls of a type that is given them
pub nulls-with : (n : Nullability) (t : DType) → nullability (with_nullability n t) ≡ n
nulls-with n (Truth k) = refl
nulls-with n (Primitive p k) = refl
nulls-with n (Decimal d k) = refl
nulls-with n (Utf8 k) = refl
nulls-with n (Binary k) = refl
