-- Parts that are made of the parts of another column.
use Rattle.std.proofs.Common.{ℕ, ◌≤◌, ◌≡◌, Bool, true, false, cond, List, [], ◌∷◌, length, get_or, refl, sym, ap, subst, ◌∙◌, arith, Option, Some, None}
use Rattle.std.specs.Prelude.{IsTrue}
use Rattle.std.specs.List.{list_all}
use Rattle.std.proofs.lemmas.Simd.{length-zip2}
use Rattle.vortex_array_types.specs.Digits.{Digits}
use Rattle.vortex_array_types.specs.Row.{Column, nullability}
use Rattle.vortex_array_types.specs.Widths.{nullable_form}
use Rattle.vortex_array_types.specs.declared.types.DType.{DType}
use Rattle.vortex_array_types.specs.declared.types.DType.TheVariants as dtype
use Rattle.vortex_array_types.specs.declared.types.Nullability.TheVariants as nulls
use Rattle.vortex_array.specs.declared.arrays.Array.{Array}
use Rattle.vortex_array.specs.ColumnOf.{column_of}
use Rattle.vortex_decimal_byte_parts.specs.Checked.{are_parts, first_of_lower, has_length, is_lower_or_none, is_lower_type, is_msp_type, refused_beside, refused_lower, refused_parts}
use Rattle.vortex_decimal_byte_parts.specs.Columns.{Parts, kept_row, masked, parts_column}
use Rattle.vortex_decimal_byte_parts.specs.declared.errors.PartsError.{PartsError}
use Rattle.vortex_decimal_byte_parts.specs.declared.errors.PartsError.TheVariants as refused
use Rattle.vortex_decimal_byte_parts.proofs.PartColumns.{and-both, and-true, length-parts, lower-long, lower-typed, msp-typed, of-two, one-made, one-parts, one_column, parts_of, two-made, two-parts, two_column}
use Rattle.vortex_decimal_byte_parts.proofs.TakenParts.{masked-two}

-- the type of a lower part has no nulls
pub lower-full : (t : DType) → IsTrue (is_lower_type t) → nullability t ≡ nulls.NonNullable
lower-full (dtype.Primitive w nulls.NonNullable) h = refl
lower-full (dtype.Primitive w nulls.Nullable) h = absurd (cc h)
lower-full (dtype.Bool n) h = absurd (cc h)
lower-full (dtype.Decimal d n) h = absurd (cc h)
lower-full (dtype.Utf8 n) h = absurd (cc h)
lower-full (dtype.Binary n) h = absurd (cc h)

-- a most significant part keeps its kind with nulls
pub nullable-msp : (t : DType) → IsTrue (is_msp_type t) → IsTrue (is_msp_type (nullable_form t))
nullable-msp (dtype.Primitive w n) h = h
nullable-msp (dtype.Bool n) h = absurd (cc h)
nullable-msp (dtype.Decimal d n) h = absurd (cc h)
nullable-msp (dtype.Utf8 n) h = absurd (cc h)
nullable-msp (dtype.Binary n) h = absurd (cc h)

pub taken-msp : (b : Bool) (t : DType) → IsTrue (is_msp_type t) → IsTrue (is_msp_type (cond b (nullable_form t) t))
taken-msp true t h = nullable-msp t h
taken-msp false t h = h

-- no cause of one kind
cond_none : (b : Bool) (x : Option PartsError) (e : PartsError) → cond b x (Some e) ≡ None → IsTrue b × (x ≡ None)
cond_none true x e h = (refl, h)
cond_none false x e h = absurd (cc h)

lower_checked : (n : ℕ) (ls : List Array) → refused_beside n ls ≡ None → IsTrue (is_lower_or_none n (first_of_lower ls))
lower_checked n [] h = refl
lower_checked n (l ∷ []) h =
    let beside = cond_none (list_all (has_length n) (l ∷ [])) (refused_lower (l ∷ [])) refused.LengthMismatch h in
    let kind = cond_none (is_lower_type (column_of l).dtype) None refused.LowerNotUnsigned beside.1 in
    and-both (has_length n l) (is_lower_type (column_of l).dtype) (and-true (has_length n l) true beside.0).0 kind.0
lower_checked n (l ∷ o ∷ ls) h =
    let beside = cond_none (list_all (has_length n) (l ∷ o ∷ ls)) (refused_lower (l ∷ o ∷ ls)) refused.LengthMismatch h in
    absurd (cc beside.1)

-- what is not refused is parts
pub checked-parts : (m : Array) (ls : List Array) (d : Digits) → refused_parts m ls ≡ None → IsTrue (are_parts (parts_of m (first_of_lower ls) d))
checked-parts m ls d h =
    let signed = cond_none (is_msp_type (column_of m).dtype) (refused_beside (length (column_of m).rows) ls) refused.MspNotSigned h in
    and-both (is_msp_type (column_of m).dtype) (is_lower_or_none (length (column_of m).rows) (first_of_lower ls)) signed.0 (lower_checked (length (column_of m).rows) ls signed.1)

few_lower : (n : ℕ) (ls : List Array) → refused_beside n ls ≡ None → length ls ≤ 1
few_lower n [] h = omega arith
few_lower n (l ∷ []) h = omega arith
few_lower n (l ∷ o ∷ ls) h =
    let beside = cond_none (list_all (has_length n) (l ∷ o ∷ ls)) (refused_lower (l ∷ o ∷ ls)) refused.LengthMismatch h in
    absurd (cc beside.1)

-- and has one lower part at most
pub few-lower : (m : Array) (ls : List Array) → refused_parts m ls ≡ None → length ls ≤ 1
few-lower m ls h =
    let signed = cond_none (is_msp_type (column_of m).dtype) (refused_beside (length (column_of m).rows) ls) refused.MspNotSigned h in
    few_lower (length (column_of m).rows) ls signed.1

-- the only lower part
pub first-is : (ls : List Array) (l : Array) → 1 ≤ length ls → l ≡ get_or ls 0 l → Some l ≡ first_of_lower ls
first-is [] l h e = absurd (omega (arith, h))
first-is (x ∷ ls) l h e = ap (λ a. Some a) e

never_cond : (b : Bool) (x : Option PartsError) (e : PartsError) → (e ≡ refused.WrongDecimalType → ⊥) → (x ≡ Some refused.WrongDecimalType → ⊥) → cond b x (Some e) ≡ Some refused.WrongDecimalType → ⊥
never_cond true x e f g h = g h
never_cond false x e f g h = f (cc h)

never_lower : (ls : List Array) → refused_lower ls ≡ Some refused.WrongDecimalType → ⊥
never_lower [] h = cc h
never_lower (l ∷ []) h = never_cond (is_lower_type (column_of l).dtype) None refused.LowerNotUnsigned (λ e. cc e) (λ e. cc e) h
never_lower (l ∷ o ∷ ls) h = cc h

-- the type of decimals is no cause where none is stated
pub never-type : (m : Array) (ls : List Array) → refused_parts m ls ≡ Some refused.WrongDecimalType → ⊥
never-type m ls h =
    let n = length (column_of m).rows in
    never_cond (is_msp_type (column_of m).dtype) (refused_beside n ls) refused.MspNotSigned (λ e. cc e)
    (λ k. never_cond (list_all (has_length n) ls) (refused_lower ls) refused.LengthMismatch (λ e. cc e) (never_lower ls) k) h

-- a part of the same kind as that of another column
msp_again : (f : Column → Column) (p : Parts) (g m : Array) → ((a : Column) → IsTrue (is_msp_type a.dtype) → IsTrue (is_msp_type (f a).dtype)) → IsTrue (are_parts p) → g ≡ p.msp → column_of m ≡ f (column_of g) → IsTrue (is_msp_type (column_of m).dtype)
msp_again f p g m keeps h part made =
    subst (λ (a : Column). IsTrue (is_msp_type a.dtype)) (sym (made ∙ ap (λ a. f (column_of a)) part)) (keeps (column_of p.msp) (msp-typed p h))

-- what is made of a most significant part alone is parts
pub kept-one : (f : Column → Column) (p : Parts) (g m : Array) (d : Digits) → ((a : Column) → IsTrue (is_msp_type a.dtype) → IsTrue (is_msp_type (f a).dtype)) → IsTrue (are_parts p) → g ≡ p.msp → column_of m ≡ f (column_of g) → IsTrue (are_parts (parts_of m None d))
kept-one f p g m d keeps h part made = one-parts m d (msp_again f p g m keeps h part made)

-- and what is made of two parts
pub kept-two : (f : Column → Column) (p : Parts) (g m l k : Array) (d : Digits) → ((a : Column) → IsTrue (is_msp_type a.dtype) → IsTrue (is_msp_type (f a).dtype)) → ((a : Column) → IsTrue (is_lower_type a.dtype) → IsTrue (is_lower_type (f a).dtype)) → IsTrue (are_parts p) → g ≡ p.msp → Some l ≡ p.lower
    → column_of m ≡ f (column_of g) → column_of k ≡ f (column_of l) → length (f (column_of g)).rows ≡ length (f (column_of l)).rows → IsTrue (are_parts (parts_of m (Some k) d))
kept-two f p g m l k d keeps also h part some made other same =
    two-parts m k d (msp_again f p g m keeps h part made)
    (subst (λ (a : Column). IsTrue (is_lower_type a.dtype)) (sym other) (also (column_of l) (lower-typed p l h some)))
    (ap (λ (a : Column). length a.rows) made ∙ same ∙ ap (λ (a : Column). length a.rows) (sym other))

-- as many rows in both parts
pub both-long : (p : Parts) (g l : Array) → IsTrue (are_parts p) → g ≡ p.msp → Some l ≡ p.lower → length (column_of g).rows ≡ length (column_of l).rows
both-long p g l h part some = ap (λ a. length (column_of a).rows) part ∙ lower-long p l h some

-- the column of what is made of a most significant part alone
pub one-done : (f : Column → Column) (p q : Parts) (g m : Array) (d : Digits) → ((e : Digits) (a : Column) → one_column e (f a) ≡ f (one_column e a)) → d ≡ p.digits → g ≡ p.msp → None ≡ p.lower → q ≡ parts_of m None d → column_of m ≡ f (column_of g) → parts_column q ≡ f (parts_column p)
one-done f p q g m d same digits part none is made = one-made f same p q m none (is ∙ ap (parts_of m None) digits) (made ∙ ap (λ a. f (column_of a)) part)

-- and of two parts
pub two-done : (f : Column → Column) (p q : Parts) (g m l k : Array) (d : Digits) → ((e : Digits) (a b : Column) → two_column e (f a) (f b) ≡ f (two_column e a b)) → d ≡ p.digits → g ≡ p.msp → Some l ≡ p.lower → q ≡ parts_of m (Some k) d → column_of m ≡ f (column_of g) → column_of k ≡ f (column_of l) → parts_column q ≡ f (parts_column p)
two-done f p q g m l k d same digits part some is made other = two-made f same p q l m k some (is ∙ ap (parts_of m (Some k)) digits) (made ∙ ap (λ a. f (column_of a)) part) other

-- as many decimals as rows of either part
pub msp-long : (p : Parts) (g : Array) → IsTrue (are_parts p) → g ≡ p.msp → length (parts_column p).rows ≡ length (column_of g).rows
msp-long p g h part = length-parts p h ∙ ap (λ a. length (column_of a).rows) (sym part)

pub other-long : (p : Parts) (l : Array) → IsTrue (are_parts p) → Some l ≡ p.lower → length (parts_column p).rows ≡ length (column_of l).rows
other-long p l h some = length-parts p h ∙ lower-long p l h some

-- parts of which a mask makes rows of the most significant one null
pub masked-parts : (bits : List Bool) (p : Parts) (g m l k : Array) (d : Digits) → IsTrue (are_parts p) → g ≡ p.msp → Some l ≡ p.lower → length bits ≡ length (column_of g).rows → column_of m ≡ masked bits (column_of g) → k ≡ l → IsTrue (are_parts (parts_of m (Some k) d))
masked-parts bits p g m l k d h part some long made same =
    two-parts m k d (msp_again (masked bits) p g m (λ a. nullable-msp a.dtype) h part made)
    (subst (λ a. IsTrue (is_lower_type (column_of a).dtype)) (sym same) (lower-typed p l h some))
    (ap (λ (a : Column). length a.rows) made ∙ length-zip2 kept_row (column_of g).rows bits (sym long) ∙ both-long p g l h part some ∙ ap (λ a. length (column_of a).rows) (sym same))

-- and their column
pub masked-done : (bits : List Bool) (p q : Parts) (g m l k : Array) (d : Digits) → d ≡ p.digits → g ≡ p.msp → Some l ≡ p.lower → q ≡ parts_of m (Some k) d → column_of m ≡ masked bits (column_of g) → k ≡ l → parts_column q ≡ masked bits (parts_column p)
masked-done bits p q g m l k d digits part some is made same =
    ap parts_column is
    ∙ ap (λ e. two_column e (column_of m) (column_of k)) digits
    ∙ ap (λ a. two_column p.digits a (column_of k)) (made ∙ ap (λ a. masked bits (column_of a)) part)
    ∙ ap (λ a. two_column p.digits (masked bits (column_of p.msp)) (column_of a)) same
    ∙ masked-two bits p.digits (column_of p.msp) (column_of l)
    ∙ ap (masked bits) (sym (of-two p l some))
