-- Types that are the same apart from their nulls, and values that fit them.
use Rattle.std.proofs.Common.{ℕ, ◌≡◌, List, [], ◌∷◌, map, refl, sym, ap, ◌∙◌}
use Rattle.std.specs.Prelude.{IsTrue, ◌&&◌}
use Rattle.std.specs.List.{list_all}
use Rattle.std.proofs.lemmas.Bool.{and_from}
use Rattle.vortex_array_types.specs.Row.{value_fits}
use Rattle.vortex_array_types.specs.Typed.{same_apart_from_nullability}
use Rattle.vortex_array_types.specs.Widths.{with_nullability}
use Rattle.vortex_array_types.specs.declared.types.DType.{DType}
use Rattle.vortex_array_types.specs.declared.types.DType.TheVariants.{Bool as Truth, Primitive, Decimal, Utf8, Binary}
use Rattle.vortex_array_types.specs.declared.types.Nullability.{Nullability}
use Rattle.vortex_array_types.specs.declared.types.Nullability.TheVariants.{NonNullable}
use Rattle.vortex_array_types.specs.declared.scalar.Value.{Value}
use Rattle.vortex_array_types.proofs.SameTypes.{fits-with, same-type}
use Rattle.vortex_array_kinds.specs.StringValues.{string_type, string_value}
use Rattle.vortex_array_kinds.specs.declared.strings.StringKind.{StringKind}
use Rattle.vortex_array_kinds.specs.declared.strings.StringKind.TheVariants as kinds
use Rattle.vortex_array_cast.specs.Casts.{can_cast}

-- whether a type can be cast does not depend on its nulls
pub can-from : (s t : DType) (n : Nullability) → can_cast (with_nullability n s) t ≡ can_cast s t
can-from (Truth k) t n = refl
can-from (Primitive p k) t n = refl
can-from (Decimal d k) t n = refl
can-from (Utf8 k) t n = refl
can-from (Binary k) t n = refl

-- a value fits both types or none
pub same-fits : (s t : DType) (x : Value) → IsTrue (same_apart_from_nullability s t) → value_fits t x ≡ value_fits s x
same-fits s t x e = sym (fits-with NonNullable t x) ∙ ap (λ u. value_fits u x) (sym (same-type s t NonNullable e)) ∙ fits-with NonNullable s x

-- and so all values
pub same-all-fit : (s t : DType) (xs : List Value) → IsTrue (same_apart_from_nullability s t) → list_all (value_fits t) xs ≡ list_all (value_fits s) xs
same-all-fit s t [] e = refl
same-all-fit s t (x ∷ xs) e = ap (λ b. b && list_all (value_fits t) xs) (same-fits s t x e) ∙ ap (λ b. value_fits s x && b) (same-all-fit s t xs e)

-- every value fits
pub all-map : {X : Type 0} (f : X → Value) (t : DType) → ((x : X) → IsTrue (value_fits t (f x))) → (xs : List X) → IsTrue (list_all (value_fits t) (map f xs))
all-map f t h [] = refl
all-map f t h (x ∷ xs) = and_from _ _ (h x) (all-map f t h xs)

-- strings fit their type
pub string-fits : (k : StringKind) (n : Nullability) (bytes : List ℕ) → IsTrue (value_fits (string_type k n) (string_value k bytes))
string-fits kinds.Utf8 n bytes = refl
string-fits kinds.Binary n bytes = refl

-- and are cast to no other
pub can-strings : (k : StringKind) (n : Nullability) (t : DType) → same_apart_from_nullability (string_type k n) t ≡ can_cast (string_type k n) t
can-strings kinds.Utf8 n t = refl
can-strings kinds.Binary n t = refl
