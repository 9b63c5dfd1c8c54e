-- The extremes of the rows of a dictionary, from those of the values that a code names.
use Rattle.std.proofs.Common.{ℕ, zero, suc, ◌<◌, ◌≡◌, Bool, true, false, cond, List, [], ◌∷◌, length, get_or, map, refl, sym, ap, ◌∙◌, arith, Option, Some, None}
use Rattle.std.specs.Prelude.{pos, All, Contains, MatchOption}
use Rattle.std.proofs.lemmas.Bool.{false≢true}
use Rattle.std.proofs.lemmas.List.{get_or-map, get_or_default, length-map}
use Rattle.vortex_array_types.specs.Row.{Column, TypedRow, is_nullable}
use Rattle.vortex_array_types.specs.Widths.{full_form, nullable_form}
use Rattle.vortex_array_types.specs.declared.types.DType.{DType}
use Rattle.vortex_array_types.specs.declared.types.DType.TheVariants as dtype
use Rattle.vortex_array_types.specs.declared.scalar.Value.{Value}
use Rattle.vortex_array_types.specs.declared.scalar.Value.TheVariants as value
use Rattle.vortex_array_rows.specs.Kept.{kept_by}
use Rattle.vortex_array_select.specs.Selected.{IndexBelow, NamesRows, filtered, row_at}
use Rattle.vortex_array_order.specs.Extremes.{AreExtremes, HasNoValue}
use Rattle.vortex_array.specs.declared.min_max.MinMax.{MinMax}
use Rattle.vortex_dict.specs.Decoded.{decoded}
use Rattle.vortex_dict.specs.NamedValues.{AreNamed}

pub among : (rows : List (Option Value)) (x : Option Value) → Contains rows x → (k : ℕ) × (k < length rows) × (get_or rows k None ≡ x)
among rows x c = (c.0, c.1, get_or_default rows c.0 None x c.1 ∙ c.2)

pub contains : (rows : List (Option Value)) (x : Option Value) (k : ℕ) → k < length rows → get_or rows k None ≡ x → Contains rows x
contains rows x k l e = (k, l, get_or_default rows k x None l ∙ e)

-- a kept row is one whose bit is set
kept_from : (set : List Bool) (xs : List (Option Value)) (k : ℕ) → k < length (kept_by set xs) → (p : ℕ) × (p < length xs) × (get_or set p false ≡ true) × (get_or xs p None ≡ get_or (kept_by set xs) k None)
kept_from [] xs k l = absurd (omega (arith, l))
kept_from (b ∷ set) [] k l = absurd (omega (arith, l))
kept_from (true ∷ set) (x ∷ xs) zero l = (zero, omega arith, refl, refl)
kept_from (true ∷ set) (x ∷ xs) (suc k) l = let r = kept_from set xs k (omega (arith, l)) in (suc r.0, omega (arith, r.1), r.2, r.3)
kept_from (false ∷ set) (x ∷ xs) k l = let r = kept_from set xs k l in (suc r.0, omega (arith, r.1), r.2, r.3)

-- and each such row is kept
kept_at : (set : List Bool) (xs : List (Option Value)) (p : ℕ) → p < length xs → get_or set p false ≡ true → (k : ℕ) × (k < length (kept_by set xs)) × (get_or (kept_by set xs) k None ≡ get_or xs p None)
kept_at [] xs p l e = absurd (false≢true e)
kept_at (b ∷ set) [] p l e = absurd (omega (arith, l))
kept_at (true ∷ set) (x ∷ xs) zero l e = (zero, omega arith, refl)
kept_at (false ∷ set) (x ∷ xs) zero l e = absurd (false≢true e)
kept_at (true ∷ set) (x ∷ xs) (suc p) l e = let r = kept_at set xs p (omega (arith, l)) e in (suc r.0, omega (arith, r.1), r.2)
kept_at (false ∷ set) (x ∷ xs) (suc p) l e = kept_at set xs p (omega (arith, l)) e

-- the place that a code with a value there names
named_place : (vs : List (Option Value)) (c : Option Value) (v : Value) → IndexBelow (length vs) c → row_at vs c ≡ Some v → (p : ℕ) × (p < length vs) × (c ≡ Some (value.Int (pos p))) × (get_or vs p None ≡ Some v)
named_place vs (Some (value.Int (pos p))) v l e = (p, l, refl, e)
named_place vs None v l e = absurd (cc e)
named_place vs c v l e = absurd l

-- a value of a row is kept
row_kept : (cs vs : List (Option Value)) (set : List Bool) (v : Value) → AreNamed cs (length vs) set → All (IndexBelow (length vs)) cs → Contains (map (row_at vs) cs) (Some v) → Contains (kept_by set vs) (Some v)
row_kept cs vs set v named below c =
    let there = among (map (row_at vs) cs) (Some v) c in
    let inside : there.0 < length cs = omega (arith, there.1, length-map cs (row_at vs)) in
    let here : row_at vs (get_or cs there.0 None) ≡ get_or (map (row_at vs) cs) there.0 None = sym (get_or-map (row_at vs) cs there.0 None None inside) in
    let place = named_place vs (get_or cs there.0 None) v (below there.0 None inside) (here ∙ there.2) in
    let set_there = named.marked place.0 (contains cs (Some (value.Int (pos place.0))) there.0 inside place.2) in
    let kept = kept_at set vs place.0 place.1 set_there in
    contains (kept_by set vs) (Some v) kept.0 kept.1 (kept.2 ∙ place.3)

-- and a kept value is one of a row
kept_row : (cs vs : List (Option Value)) (set : List Bool) (v : Value) → AreNamed cs (length vs) set → Contains (kept_by set vs) (Some v) → Contains (map (row_at vs) cs) (Some v)
kept_row cs vs set v named c =
    let there = among (kept_by set vs) (Some v) c in
    let place = kept_from set vs there.0 there.1 in
    let code = among cs (Some (value.Int (pos place.0))) (named.named place.0 place.2) in
    contains (map (row_at vs) cs) (Some v) code.0 (omega (arith, code.1, length-map cs (row_at vs)))
    (get_or-map (row_at vs) cs code.0 None None code.1 ∙ ap (row_at vs) code.2 ∙ place.3 ∙ there.2)

full_type : (b : Bool) (t : DType) → full_form (cond b (nullable_form t) t) ≡ full_form t
full_type false t = refl
full_type true (dtype.Bool n) = refl
full_type true (dtype.Primitive w n) = refl
full_type true (dtype.Decimal d n) = refl
full_type true (dtype.Utf8 n) = refl
full_type true (dtype.Binary n) = refl

-- the extremes of the values that a code names are those of the rows
named-extremes : (codes values : Column) (set : List Bool) (min max : TypedRow) → AreNamed codes.rows (length values.rows) set → NamesRows codes (length values.rows) → AreExtremes (filtered set values) min max → AreExtremes (decoded codes values) min max
named-extremes codes values set min max named names e =
    let least = e.least in
    let greatest = e.greatest in
    record {
      min_type = e.min_type ∙ sym (full_type (is_nullable codes.dtype) values.dtype);
      max_type = e.max_type ∙ sym (full_type (is_nullable codes.dtype) values.dtype);
      least = (
        least.0,
        least.1,
        record {
          among = kept_row codes.rows values.rows set least.0 named least.2.among;
          bound = λ w c. least.2.bound w (row_kept codes.rows values.rows set w named names.below c);
        },
      );
      greatest = (
        greatest.0,
        greatest.1,
        record {
          among = kept_row codes.rows values.rows set greatest.0 named greatest.2.among;
          bound = λ w c. greatest.2.bound w (row_kept codes.rows values.rows set w named names.below c);
        },
      );
    }

no_value : (row : Option Value) → ((v : Value) → row ≡ Some v → ⊥) → row ≡ None
no_value None h = refl
no_value (Some v) h = absurd (h v refl)

-- and where none of those is a value no row is
named-nulls : (codes values : Column) (set : List Bool) → AreNamed codes.rows (length values.rows) set → NamesRows codes (length values.rows) → HasNoValue (filtered set values).rows → HasNoValue (decoded codes values).rows
named-nulls codes values set named names h = λ k d l.
    no_value (get_or (decoded codes values).rows k d)
    (λ v e.
    let rows = (decoded codes values).rows in
    let kept = row_kept codes.rows values.rows set v named names.below (contains rows (Some v) k l (get_or_default rows k None d l ∙ e)) in
    cc (sym kept.2 ∙ h kept.0 (Some v) kept.1))

-- so what is found of those values is what is found of the rows
pub named-found : (codes values : Column) (set : List Bool) (found : Option MinMax) → AreNamed codes.rows (length values.rows) set → NamesRows codes (length values.rows)
    → MatchOption found (HasNoValue (filtered set values).rows) (λ m. AreExtremes (filtered set values) m.min m.max) → MatchOption found (HasNoValue (decoded codes values).rows) (λ m. AreExtremes (decoded codes values) m.min m.max)
named-found codes values set None named names h = named-nulls codes values set named names h
named-found codes values set (Some m) named names h = named-extremes codes values set m.min m.max named names h
