-- The widths that numbers have.
use Rattle.std.proofs.Common.{◌≡◌, Bool, true, false, cond, ◌&&◌, List, [], ◌∷◌, Option, Some, None, refl, sym, ap, ◌∙◌}
use Rattle.std.specs.Prelude.{ℤ, pos, int_le, int_lt, IsTrue}
use Rattle.std.specs.List.{find}
use Rattle.std.specs.Ordering.{int_eq}
use Rattle.std.proofs.lemmas.Bool.Decides.{Decides-int_eq}
use Rattle.vortex_array_types.specs.Typed.{width_number}
use Rattle.vortex_array_types.specs.declared.types.PType.{PType}
use Rattle.vortex_array_types.specs.declared.types.PType.TheVariants.{U8, U16, U32, U64, I8, I16, I32, I64}
use Rattle.vortex_array_children.specs.Children.{width_of_number, widths}

found_here : {X : Type 0} (p : X → Bool) (y x : X) (o : Option X) → (o ≡ Some x → p x ≡ true) → (b : Bool) → p y ≡ b → cond b (Some y) o ≡ Some x → p x ≡ true
found_here p y x o later true h e = let same : y ≡ x = cc in ap p (sym same) ∙ h
found_here p y x o later false h e = later e

-- what is found passes the test
found : {X : Type 0} (p : X → Bool) (xs : List X) (x : X) → find p xs ≡ Some x → p x ≡ true
found p [] x e = absurd (cc e)
found p (y ∷ ys) x e = found_here p y x (find p ys) (found p ys x) (p y) refl e

-- the width of a number has that number
pub number-of : (number : ℤ) (w : PType) → width_of_number number ≡ Some w → pos (width_number w) ≡ number
number-of number w e = (Decides-int_eq (pos (width_number w)) number).0 (found (λ v. int_eq (pos (width_number v)) number) widths w e)

-- the number of a width is that of this width
pub width-back : (w : PType) → width_of_number (pos (width_number w)) ≡ Some w
width-back U8 = refl
width-back U16 = refl
width-back U32 = refl
width-back U64 = refl
width-back I8 = refl
width-back I16 = refl
width-back I32 = refl
width-back I64 = refl

known : (w : PType) → (int_le (pos 0) (pos (width_number w)) && int_lt (pos (width_number w)) (pos 8)) ≡ true
known U8 = refl
known U16 = refl
known U32 = refl
known U64 = refl
known I8 = refl
known I16 = refl
known I32 = refl
known I64 = refl

none_if : (number : ℤ) (o : Option PType) → (int_le (pos 0) number && int_lt number (pos 8)) ≡ false → width_of_number number ≡ o → width_of_number number ≡ None
none_if number None out e = e
none_if number (Some w) out e = absurd (cc (sym out ∙ ap (λ z. int_le (pos 0) z && int_lt z (pos 8)) (sym (number-of number w e)) ∙ known w))

-- no width has a number outside 0 to 7
pub no-width : (number : ℤ) → (int_le (pos 0) number && int_lt number (pos 8)) ≡ false → width_of_number number ≡ None
no-width number out = none_if number (width_of_number number) out refl

-- the width that has a number
pub width-at : (number : ℤ) (w : PType) → pos (width_number w) ≡ number → width_of_number number ≡ Some w
width-at number w e = ap width_of_number (sym e) ∙ width-back w
