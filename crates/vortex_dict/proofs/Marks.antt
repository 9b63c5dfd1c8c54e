-- Places that are marked, as values that a code names.
use Rattle.std.proofs.Common.{ℕ, zero, suc, ◌+◌, ◌<◌, ◌≤◌, ◌≡◌, Bool, true, false, cond, List, length, get_or, map, replicate, set, refl, sym, ap, subst, ◌∙◌, arith, Option, Some, None, inl, inr}
use Rattle.std.specs.Prelude.{pos, All, IsTrue, ◌↔◌, ◌⊎◌, nat_lt}
use Rattle.std.proofs.lemmas.Bool.{cases_eq, cases_lt, false≢true, lt-ltb}
use Rattle.std.proofs.lemmas.List.{get_or-replicate, get_or-set_other, get_or-set_same, get_or_past, length-map}
use Rattle.std.proofs.lemmas.List.Elements.{All-replicate}
use Rattle.vortex_buffer.proofs.Bits.{map-replicate}
use Rattle.vortex_array_types.specs.Row.{Column}
use Rattle.vortex_array_types.specs.declared.scalar.Value.{Value}
use Rattle.vortex_array_types.specs.declared.scalar.Value.TheVariants as value
use Rattle.vortex_array_kinds.specs.Parts.{ConstantParts}
use Rattle.vortex_array_kinds.specs.Validities.{has_none, is_as_long, valid_at}
use Rattle.vortex_array_kinds.specs.declared.validity.Validity.{Validity}
use Rattle.vortex_array_kinds.specs.declared.validity.Validity.TheVariants.{NonNullable, AllValid, AllInvalid, Bits}
use Rattle.vortex_array_select.specs.Selected.{IndexBelow, row_at}
use Rattle.vortex_array_select.specs.SelectedParts.{PlacesBelow}
use Rattle.vortex_array_select.proofs.TakenRows.{index_rows, length-taken, places-below, taken-at}
use Rattle.vortex_array_order.specs.InOrder.{IsConstant}
use Rattle.vortex_array_order.proofs.OrderLaws.{constant-rows, rows-constant}
use Rattle.vortex_array.specs.Index.{number_column}
use Rattle.vortex_array.proofs.TakenAt.{same-indices}
use Rattle.vortex_dict.specs.NamedValues.{AreNamed, IsPlace, MarkFirst, MarkNamed, row_named}
use Rattle.vortex_dict.proofs.Named.{index-at, length-index}
use Rattle.vortex_dict.proofs.NamedExtremes.{among, contains}

-- one more place that is looked at
one_more : (v : Validity) (places : List ℕ) (n p : ℕ) → IsPlace v places n p → IsPlace v places (n + 1) p
one_more v places n p h = record { row = h.row; before = omega (arith, h.before); valid = h.valid; here = h.here }

-- it is that or one of before
last_or : (v : Validity) (places : List ℕ) (n p : ℕ) → IsPlace v places (n + 1) p → IsPlace v places n p ⊎ ((valid_at v n ≡ true) × (get_or places n 0 ≡ p))
last_or v places n p h = by_place (cases_lt h.row n)
  where
    by_place : (h.row < n) ⊎ (n ≤ h.row) → IsPlace v places n p ⊎ ((valid_at v n ≡ true) × (get_or places n 0 ≡ p))
    by_place (inl l) = inl (record { row = h.row; before = l; valid = h.valid; here = h.here })
    by_place (inr l) =
        let last : h.row ≡ n = omega (arith, l, h.before) in
        inr (subst (λ k. valid_at v k ≡ true) last h.valid, subst (λ k. get_or places k 0 ≡ p) last h.here)

-- none is marked before the first
pub marks-none : (v : Validity) (places : List ℕ) (marks : List Bool) → marks ≡ replicate (length marks) false → MarkFirst v places 0 marks
marks-none v places marks e = record {
  named = λ p m. absurd (false≢true (sym (unset p (cases_lt p (length marks))) ∙ m));
  marked = λ p h. absurd (omega (arith, h.before));
}
  where
    unset : (p : ℕ) → (p < length marks) ⊎ (length marks ≤ p) → get_or marks p false ≡ false
    unset p (inl l) = ap (λ (ms : List Bool). get_or ms p false) e ∙ get_or-replicate (length marks) p false false l
    unset p (inr l) = get_or_past marks p false l

-- a null place marks nothing
pub marks-skip : (v : Validity) (places : List ℕ) (n : ℕ) (marks : List Bool) → valid_at v n ≡ false → MarkFirst v places n marks → MarkFirst v places (n + 1) marks
marks-skip v places n marks null h = record {
  named = λ p m. one_more v places n p (h.named p m);
  marked = λ p at. by_place p (last_or v places n p at);
}
  where
    by_place : (p : ℕ) → IsPlace v places n p ⊎ ((valid_at v n ≡ true) × (get_or places n 0 ≡ p)) → get_or marks p false ≡ true
    by_place p (inl at) = h.marked p at
    by_place p (inr last) = absurd (false≢true (sym null ∙ last.0))

-- a place that is not null is marked
pub marks-more : (v : Validity) (places : List ℕ) (n : ℕ) (marks : List Bool) → valid_at v n ≡ true → get_or places n 0 < length marks → MarkFirst v places n marks → MarkFirst v places (n + 1) (set marks (get_or places n 0) true)
marks-more v places n marks valid l h = record {
  named = λ p m. by_mark p (cases_eq p (get_or places n 0)) m;
  marked = λ p at. by_place p (last_or v places n p at) (cases_eq p (get_or places n 0));
}
  where
    here : get_or (set marks (get_or places n 0) true) (get_or places n 0) false ≡ true
    here = get_or-set_same marks (get_or places n 0) true false l

    other : (p : ℕ) → (p ≡ get_or places n 0 → ⊥) → get_or (set marks (get_or places n 0) true) p false ≡ get_or marks p false
    other p apart = get_or-set_other marks (get_or places n 0) p true false apart

    by_mark : (p : ℕ) → (p ≡ get_or places n 0) ⊎ (p ≡ get_or places n 0 → ⊥) → get_or (set marks (get_or places n 0) true) p false ≡ true → IsPlace v places (n + 1) p
    by_mark p (inl e) m = record { row = n; before = omega arith; valid = valid; here = sym e }
    by_mark p (inr apart) m = one_more v places n p (h.named p (sym (other p apart) ∙ m))

    by_place : (p : ℕ) → IsPlace v places n p ⊎ ((valid_at v n ≡ true) × (get_or places n 0 ≡ p)) → (p ≡ get_or places n 0) ⊎ (p ≡ get_or places n 0 → ⊥) → get_or (set marks (get_or places n 0) true) p false ≡ true
    by_place p at (inl e) = ap (λ k. get_or (set marks (get_or places n 0) true) k false) e ∙ here
    by_place p (inl at) (inr apart) = other p apart ∙ h.marked p at
    by_place p (inr last) (inr apart) = absurd (apart (sym last.1))

-- so a place is marked where it is not null
pub marks-step : (v : Validity) (places : List ℕ) (n : ℕ) (marks : List Bool) (b : Bool) (p : ℕ) → b ≡ valid_at v n → p ≡ get_or places n 0 → (b ≡ true → p < length marks) → MarkFirst v places n marks → MarkFirst v places (n + 1) (cond b (set marks p true) marks)
marks-step v places n marks true p valid is below h = rw is (marks-more v places n marks (sym valid) (subst (λ k. k < length marks) is (below refl)) h)
marks-step v places n marks false p valid is below h = marks-skip v places n marks (sym valid) h

-- where no place is null, each is one
pub none-null : (v : Validity) (k : ℕ) → has_none v ≡ true → valid_at v k ≡ true
none-null NonNullable k e = refl
none-null AllValid k e = refl
none-null AllInvalid k e = absurd (false≢true e)
none-null (Bits bits) k e = absurd (false≢true e)

-- where each place is null, none is marked
pub marks-nowhere : (v : Validity) (places : List ℕ) (n : ℕ) (marks : List Bool) → v ≡ AllInvalid → marks ≡ replicate (length marks) false → MarkFirst v places n marks
marks-nowhere v places n marks is none = record {
  named = λ p m. absurd (let at = (marks-none v places marks none).named p m in omega (arith, at.before));
  marked = λ p at. absurd (false≢true (sym (ap (λ w. valid_at w at.row) is) ∙ at.valid));
}

-- the number of a code
abbrev code_number : Option Value → ℕ
code_number (Some (value.Int (pos i))) = i
code_number c = 0

-- marks of places are those of codes
pub marks-named : (v : Validity) (places : List ℕ) (n : ℕ) (marks : List Bool) → IsTrue (is_as_long v (length places)) → length marks ≡ n → MarkNamed v places marks → AreNamed (index_rows v places) n marks
marks-named v places n marks long count h = record {
  long = count;
  named = λ p m.
      let at = h.named p m in
      contains (index_rows v places) (Some (value.Int (pos p))) at.row (omega (arith, at.before, length-index v places long))
      (index-at v places at.row at.before ∙ ap (λ b. cond b (Some (value.Int (pos (get_or places at.row 0)))) None) at.valid ∙ ap (λ k. Some (value.Int (pos k))) at.here);
  marked = λ p c.
      let at = among (index_rows v places) (Some (value.Int (pos p))) c in
      let inside : at.0 < length places = omega (arith, at.1, length-index v places long) in
      let row : cond (valid_at v at.0) (Some (value.Int (pos (get_or places at.0 0)))) None ≡ Some (value.Int (pos p)) = sym (index-at v places at.0 inside) ∙ at.2 in
      let there = of_row (valid_at v at.0) (get_or places at.0 0) p row in
      h.marked p (record { row = at.0; before = inside; valid = there.0; here = there.1 });
}
  where
    of_row : (b : Bool) (i p : ℕ) → cond b (Some (value.Int (pos i))) None ≡ Some (value.Int (pos p)) → (b ≡ true) × (i ≡ p)
    of_row true i p e = (refl, ap code_number e)
    of_row false i p e = absurd (cc e)

-- places as numbers, of codes that are places of values
pub number-long : {P : Type 0} (f : P → ℕ) (v : Validity) (places : List P) → IsTrue (is_as_long v (length (map (λ p. pos (f p)) places))) → IsTrue (is_as_long v (length (map f places)))
number-long f v places h = rw (length-map places f) (rw (length-map places (λ p. pos (f p))) at h)

pub number-places : {P : Type 0} (f : P → ℕ) (n : ℕ) (v : Validity) (places : List P) → IsTrue (is_as_long v (length (map (λ p. pos (f p)) places))) → All (IndexBelow n) (number_column v (map (λ p. pos (f p)) places)).rows → PlacesBelow n v (map f places)
number-places f n v places long h = places-below n v (map f places) (number-long f v places long) (subst (λ (k : Column). All (IndexBelow n) k.rows) (sym (same-indices f v places)) h)

-- the row that the code at a place names
named_row : {P : Type 0} (f : P → ℕ) (vs : List (Option Value)) (v : Validity) (places : List P) (k : ℕ) → k < length places → get_or (map (row_at vs) (number_column v (map (λ p. pos (f p)) places)).rows) k None ≡ row_named vs v (map f places) k
named_row f vs v places k l =
    ap (λ (c : Column). get_or (map (row_at vs) c.rows) k None) (sym (same-indices f v places))
    ∙ taken-at vs v (map f places) k (rw (length-map places f) l)

rows_long : {P : Type 0} (f : P → ℕ) (vs : List (Option Value)) (v : Validity) (places : List P) → IsTrue (is_as_long v (length (map (λ p. pos (f p)) places))) → length (map (row_at vs) (number_column v (map (λ p. pos (f p)) places)).rows) ≡ length places
rows_long f vs v places long =
    ap (λ (c : Column). length (map (row_at vs) c.rows)) (sym (same-indices f v places))
    ∙ length-taken vs v (map f places) (number-long f v places long)
    ∙ length-map places f

-- rows are constant exactly where each names what the first does
pub constant-named : {P : Type 0} (f : P → ℕ) (vs : List (Option Value)) (v : Validity) (places : List P) → IsTrue (is_as_long v (length (map (λ p. pos (f p)) places))) → 0 < length places
    → ((k : ℕ) → k < length places → row_named vs v (map f places) k ≡ row_named vs v (map f places) 0) → IsConstant (map (row_at vs) (number_column v (map (λ p. pos (f p)) places)).rows)
constant-named f vs v places long some h =
    constant-rows (map (row_at vs) (number_column v (map (λ p. pos (f p)) places)).rows) (omega (arith, some, rows_long f vs v places long))
    (λ k l.
    let inside : k < length places = omega (arith, l, rows_long f vs v places long) in
    named_row f vs v places k inside ∙ h k inside ∙ sym (named_row f vs v places 0 some))

pub named-constant : {P : Type 0} (f : P → ℕ) (vs : List (Option Value)) (v : Validity) (places : List P) → IsTrue (is_as_long v (length (map (λ p. pos (f p)) places))) → IsConstant (map (row_at vs) (number_column v (map (λ p. pos (f p)) places)).rows)
    → (k : ℕ) → k < length places → row_named vs v (map f places) k ≡ row_named vs v (map f places) 0
named-constant f vs v places long h k l =
    sym (named_row f vs v places k l)
    ∙ rows-constant (map (row_at vs) (number_column v (map (λ p. pos (f p)) places)).rows) h k (omega (arith, l, rows_long f vs v places long))
    ∙ named_row f vs v places 0 (omega (arith, l))

some_rows : (x : Option Value) (n : ℕ) → IsTrue (nat_lt 0 n) ↔ IsConstant (replicate n x)
some_rows x zero = (λ t. absurd (false≢true t), λ h. absurd h)
some_rows x (suc n) = (λ t. All-replicate (λ r. r ≡ x) n x refl, λ h. lt-ltb 0 (suc n) (omega arith))

-- equal codes name one row where there is a row
pub equal-constant : (k : ConstantParts) (vs : List (Option Value)) → IsTrue (nat_lt 0 k.len) ↔ IsConstant (map (row_at vs) (replicate k.len k.scalar.value))
equal-constant k vs = rw (map-replicate (row_at vs) k.len k.scalar.value) (some_rows (row_at vs k.scalar.value) k.len)
