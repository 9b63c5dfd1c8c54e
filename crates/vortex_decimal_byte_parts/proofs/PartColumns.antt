-- Columns of parts, and what is done to each part.
use Rattle.std.proofs.Common.{ℕ, ◌≡◌, Bool, true, false, ◌&&◌, List, length, map, refl, sym, ap, subst, ◌∙◌, Option, Some, None, eq-eqb}
use Rattle.std.specs.Prelude.{IsTrue}
use Rattle.std.specs.Simd.Lanes.{zip2}
use Rattle.std.proofs.lemmas.List.{length-map}
use Rattle.std.proofs.lemmas.Simd.{length-zip2}
use Rattle.std.proofs.lemmas.Bool.Decides.{Decides-eqb}
use Rattle.vortex_array_types.specs.Digits.{Digits}
use Rattle.vortex_array_types.specs.Row.{Column, nullability}
use Rattle.vortex_array_types.specs.declared.types.DType.TheVariants as dtype
use Rattle.vortex_array_rows.proofs.Kept.{kept_by-map, kept_by-zip2}
use Rattle.vortex_array_rows.proofs.Slices.{slice-map, slice-zip2}
use Rattle.vortex_array_kinds.proofs.RowLemmas.{column_with}
use Rattle.vortex_array_select.specs.Selected.{filtered, sliced}
use Rattle.vortex_array.specs.declared.arrays.Array.{Array}
use Rattle.vortex_array.specs.ColumnOf.{column_of}
use Rattle.vortex_decimal_byte_parts.specs.Checked.{are_parts, is_lower, is_lower_or_none, is_lower_type, is_msp_type}
use Rattle.vortex_decimal_byte_parts.specs.Columns.{Parts, one_row, parts_column, two_rows}

-- parts, and how many digits there are
abbrev pub parts_of : Array → Option Array → Digits → Parts
parts_of m lower d = record { msp = m; lower = lower; digits = d }

-- a most significant part alone as decimals
abbrev pub one_column : Digits → Column → Column
one_column d a = column_with (dtype.Decimal d (nullability a.dtype)) (map one_row a.rows)

-- two parts as decimals
abbrev pub two_column : Digits → Column → Column → Column
two_column d a b = column_with (dtype.Decimal d (nullability a.dtype)) (zip2 two_rows a.rows b.rows)

-- the column of parts
pub of-one : (p : Parts) → None ≡ p.lower → parts_column p ≡ one_column p.digits (column_of p.msp)
of-one p e = ap (λ o. parts_column (record { msp = p.msp; lower = o; digits = p.digits })) (sym e)

pub of-two : (p : Parts) (l : Array) → Some l ≡ p.lower → parts_column p ≡ two_column p.digits (column_of p.msp) (column_of l)
of-two p l e = ap (λ o. parts_column (record { msp = p.msp; lower = o; digits = p.digits })) (sym e)

pub and-true : (a b : Bool) → IsTrue (a && b) → IsTrue a × IsTrue b
and-true true b h = (refl, h)
and-true false b h = absurd (cc h)

pub and-both : (a b : Bool) → IsTrue a → IsTrue b → IsTrue (a && b)
and-both true b h k = k
and-both false b h k = absurd (cc h)

-- what is known of parts
pub msp-typed : (p : Parts) → IsTrue (are_parts p) → IsTrue (is_msp_type (column_of p.msp).dtype)
msp-typed p h = (and-true _ _ h).0

lower-fits : (p : Parts) (l : Array) → IsTrue (are_parts p) → Some l ≡ p.lower → IsTrue (is_lower (length (column_of p.msp).rows) l)
lower-fits p l h e =
    subst (λ o. IsTrue (is_lower_or_none (length (column_of p.msp).rows) o)) (sym e) (and-true (is_msp_type (column_of p.msp).dtype) (is_lower_or_none (length (column_of p.msp).rows) p.lower) h).1

pub lower-typed : (p : Parts) (l : Array) → IsTrue (are_parts p) → Some l ≡ p.lower → IsTrue (is_lower_type (column_of l).dtype)
lower-typed p l h e = (and-true _ _ (lower-fits p l h e)).1

pub lower-long : (p : Parts) (l : Array) → IsTrue (are_parts p) → Some l ≡ p.lower → length (column_of p.msp).rows ≡ length (column_of l).rows
lower-long p l h e = sym ((Decides-eqb (length (column_of l).rows) (length (column_of p.msp).rows)).0 (and-true _ _ (lower-fits p l h e)).0)

-- and what makes parts
pub one-parts : (m : Array) (d : Digits) → IsTrue (is_msp_type (column_of m).dtype) → IsTrue (are_parts (record { msp = m; lower = None; digits = d }))
one-parts m d h = and-both _ _ h refl

pub two-parts : (m l : Array) (d : Digits) → IsTrue (is_msp_type (column_of m).dtype) → IsTrue (is_lower_type (column_of l).dtype) → length (column_of m).rows ≡ length (column_of l).rows → IsTrue (are_parts (record { msp = m; lower = Some l; digits = d }))
two-parts m l d h k e = and-both _ _ h (and-both _ _ (eq-eqb (length (column_of l).rows) (length (column_of m).rows) (sym e)) k)

-- there are as many decimals as rows of the most significant part
pub length-parts : (p : Parts) → IsTrue (are_parts p) → length (parts_column p).rows ≡ length (column_of p.msp).rows
length-parts p h = by_lower p.lower refl
  where
    by_lower : (o : Option Array) → o ≡ p.lower → length (parts_column p).rows ≡ length (column_of p.msp).rows
    by_lower None e = ap (λ (c : Column). length c.rows) (of-one p e) ∙ length-map (column_of p.msp).rows one_row
    by_lower (Some l) e = ap (λ (c : Column). length c.rows) (of-two p l e) ∙ length-zip2 two_rows (column_of p.msp).rows (column_of l).rows (lower-long p l h e)

-- what is done to a part alone is done to the decimals
pub one-made : (f : Column → Column) → ((d : Digits) (a : Column) → one_column d (f a) ≡ f (one_column d a)) → (p q : Parts) (m : Array) → None ≡ p.lower → q ≡ record { msp = m; lower = None; digits = p.digits } → column_of m ≡ f (column_of p.msp) → parts_column q ≡ f (parts_column p)
one-made f same p q m e is made =
    ap parts_column is ∙ ap (one_column p.digits) made ∙ same p.digits (column_of p.msp) ∙ ap f (sym (of-one p e))

-- and to two parts
pub two-made : (f : Column → Column) → ((d : Digits) (a b : Column) → two_column d (f a) (f b) ≡ f (two_column d a b)) → (p q : Parts) (l m k : Array) → Some l ≡ p.lower → q ≡ record { msp = m; lower = Some k; digits = p.digits } → column_of m ≡ f (column_of p.msp) → column_of k ≡ f (column_of l) → parts_column q ≡ f (parts_column p)
two-made f same p q l m k e is made other =
    ap parts_column is ∙ ap (λ a. two_column p.digits a (column_of k)) made ∙ ap (two_column p.digits (f (column_of p.msp))) other ∙ same p.digits (column_of p.msp) (column_of l) ∙ ap f (sym (of-two p l e))

pub sliced-one : (i j : ℕ) (d : Digits) (a : Column) → one_column d (sliced i j a) ≡ sliced i j (one_column d a)
sliced-one i j d a = ap (column_with (dtype.Decimal d (nullability a.dtype))) (sym (slice-map one_row a.rows i j))

pub sliced-two : (i j : ℕ) (d : Digits) (a b : Column) → two_column d (sliced i j a) (sliced i j b) ≡ sliced i j (two_column d a b)
sliced-two i j d a b = ap (column_with (dtype.Decimal d (nullability a.dtype))) (sym (slice-zip2 two_rows a.rows b.rows i j))

pub filtered-one : (bits : List Bool) (d : Digits) (a : Column) → one_column d (filtered bits a) ≡ filtered bits (one_column d a)
filtered-one bits d a = ap (column_with (dtype.Decimal d (nullability a.dtype))) (sym (kept_by-map one_row bits a.rows))

pub filtered-two : (bits : List Bool) (d : Digits) (a b : Column) → two_column d (filtered bits a) (filtered bits b) ≡ filtered bits (two_column d a b)
filtered-two bits d a b = ap (column_with (dtype.Decimal d (nullability a.dtype))) (sym (kept_by-zip2 two_rows bits a.rows b.rows))
