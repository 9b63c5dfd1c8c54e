-- Rows that are not null.
use Rattle.std.proofs.Common.{ℕ, ◌<◌, ◌≡◌, ◌&&◌, Bool, true, false, cond, List, [], ◌∷◌, length, get_or, map, replicate, refl, sym, ap, subst, ◌∙◌, arith, Option, Some, None}
use Rattle.std.specs.Prelude.{pos, IsTrue, All, ◌↔◌, is_some, option_map}
use Rattle.std.specs.Cmp.{booleans_Decides}
use Rattle.std.proofs.Math.Bool.{beq}
use Rattle.std.proofs.lemmas.List.{get_or-map, get_or-replicate, length-map, length-replicate}
use Rattle.std.proofs.lemmas.List.Elements.{All-head, All-replicate, All-tail}
use Rattle.std.proofs.lemmas.Option.{slice_get-get_or, slice_get-map}
use Rattle.vortex_buffer.proofs.Bits.{map-replicate}
use Rattle.vortex_array_types.specs.Row.{Column}
use Rattle.vortex_array_types.specs.declared.scalar.Value.{Value}
use Rattle.vortex_array_types.specs.declared.scalar.Value.TheVariants as value
use Rattle.vortex_array_kinds.specs.Parts.{ConstantParts}
use Rattle.vortex_array_kinds.specs.Validities.{is_as_long, row_of, rows_under, valid_at}
use Rattle.vortex_array_kinds.specs.declared.validity.Validity.{Validity}
use Rattle.vortex_array_kinds.proofs.RowLemmas.{length-rows, row-here}
use Rattle.vortex_array_select.specs.Selected.{IndexBelow, row_at}
use Rattle.vortex_array_select.proofs.TakenRows.{index_rows, row-get}
use Rattle.vortex_array.specs.ColumnOf.{column_of}
use Rattle.vortex_array.specs.Index.{number_column}
use Rattle.vortex_array.specs.declared.arrays.Array.{Array}
use Rattle.vortex_array.specs.declared.arrays.Array.TheVariants.{Constant}
use Rattle.vortex_array.proofs.TakenAt.{same-indices}
use Rattle.vortex_dict.specs.Presence.{Shows, names_value}

bit_shown : {X : Type 0} (x : X) (b : Bool) → is_some (row_of x b) ≡ b
bit_shown x true = refl
bit_shown x false = refl

-- the validity of a plain array shows its rows
pub plain-shows : (v : Validity) (xs : List Value) → IsTrue (is_as_long v (length xs)) → Shows (rows_under v xs) v
plain-shows v xs long = record {
  at = λ i l.
      let inside : i < length xs = omega (arith, l, length-rows v xs long) in
      sym (ap is_some (sym (row-here v xs i (value.Bool false) long inside)) ∙ bit_shown (get_or xs i (value.Bool false)) (valid_at v i));
}

-- and so one that shows equal rows, of an array that is them
pub constant-shows : (values : Array) (k : ConstantParts) (v : Validity) → values ≡ Constant k → ((n : ℕ) → Shows (replicate n k.scalar.value) v) → Shows (column_of values).rows v
constant-shows values k v is shows = subst (λ (a : Array). Shows (column_of a).rows v) (sym is) (shows k.len)

name_shown : (vs : List (Option Value)) (v : Validity) → Shows vs v → (c : Option Value) → IndexBelow (length vs) c → names_value v c ≡ is_some (row_at vs c)
name_shown vs v h (Some (value.Int (pos i))) l = h.at i l
name_shown vs v h c l = refl

-- the rows that are not null are those whose code names a value
pub names-rows : (vs : List (Option Value)) (v : Validity) → Shows vs v → (cs : List (Option Value)) → All (IndexBelow (length vs)) cs → map (names_value v) cs ≡ map is_some (map (row_at vs) cs)
names-rows vs v h [] all = refl
names-rows vs v h (c ∷ cs) all =
    ap (λ b. b ∷ map (names_value v) cs) (name_shown vs v h c (All-head (IndexBelow (length vs)) c cs all))
    ∙ ap (λ bs. is_some (row_at vs c) ∷ bs) (names-rows vs v h cs (All-tail (IndexBelow (length vs)) c cs all))

-- the index at a place
pub index-at : (w : Validity) (places : List ℕ) (k : ℕ) → k < length places → get_or (index_rows w places) k None ≡ cond (valid_at w k) (Some (value.Int (pos (get_or places k 0)))) None
index-at w places k l =
    row-get w (map (λ i. value.Int (pos i)) places) k
    ∙ ap (λ r. cond (valid_at w k) r None) (slice_get-map (λ i. value.Int (pos i)) places k ∙ ap (option_map (λ i. value.Int (pos i))) (slice_get-get_or places k 0 l))

named_bit : (v : Validity) (i : ℕ) (b : Bool) → names_value v (cond b (Some (value.Int (pos i))) None) ≡ (b && valid_at v i)
named_bit v i true = refl
named_bit v i false = refl

pub length-index : (w : Validity) (places : List ℕ) → IsTrue (is_as_long w (length places)) → length (index_rows w places) ≡ length places
length-index w places long = length-rows w (map (λ i. value.Int (pos i)) places) (rw length-map long) ∙ length-map places (λ i. value.Int (pos i))

-- whether the code at a place names a value
pub named-at : (v w : Validity) (places : List ℕ) (k : ℕ) (r : Bool) → IsTrue (is_as_long w (length places)) → k < length places
    → get_or (map (names_value v) (index_rows w places)) k r ≡ (valid_at w k && valid_at v (get_or places k 0))
named-at v w places k r long l =
    get_or-map (names_value v) (index_rows w places) k None r (omega (arith, l, length-index w places long))
    ∙ ap (names_value v) (index-at w places k l)
    ∙ named_bit v (get_or places k 0) (valid_at w k)

-- lanes that are such places, by a number each
pub length-named : {X : Type 0} (f : X → ℕ) (v w : Validity) (places : List X) → IsTrue (is_as_long w (length places)) → length (map (names_value v) (index_rows w (map f places))) ≡ length places
length-named f v w places long =
    length-map (index_rows w (map f places)) (names_value v)
    ∙ length-index w (map f places) (rw length-map long)
    ∙ length-map places f

pub named-lane : {X : Type 0} (f : X → ℕ) (v w : Validity) (places : List X) (k : ℕ) (d : X) (r : Bool) → IsTrue (is_as_long w (length places)) → k < length places
    → r ≡ (valid_at w k && valid_at v (f (get_or places k d))) → r ≡ get_or (map (names_value v) (index_rows w (map f places))) k r
named-lane f v w places k d r long l is =
    is
    ∙ ap (λ i. valid_at w k && valid_at v i) (sym (get_or-map f places k d 0 l))
    ∙ sym (named-at v w (map f places) k r (rw length-map long) (rw length-map l))

-- codes as numbers are those of their places
pub named-inside : {P : Type 0} (f : P → ℕ) (v w : Validity) (places : List P) (i : ℕ) → i < length (number_column w (map (λ p. pos (f p)) places)).rows → i < length (map (names_value v) (index_rows w (map f places)))
named-inside f v w places i l =
    omega (arith, l, length-map (index_rows w (map f places)) (names_value v), ap (λ (c : Column). length c.rows) (same-indices f w places))

pub named-number : {P : Type 0} (f : P → ℕ) (v w : Validity) (places : List P) (i : ℕ) (r : Bool) → i < length (number_column w (map (λ p. pos (f p)) places)).rows → r ≡ get_or (map (names_value v) (index_rows w (map f places))) i r
    → r ≡ names_value v (get_or (number_column w (map (λ p. pos (f p)) places)).rows i None)
named-number f v w places i r l is =
    is
    ∙ get_or-map (names_value v) (index_rows w (map f places)) i None r (omega (arith, l, ap (λ (c : Column). length c.rows) (same-indices f w places)))
    ∙ ap (λ (c : Column). names_value v (get_or c.rows i None)) (same-indices f w places)

pub named-numbers : {P : Type 0} (f : P → ℕ) (v w : Validity) (places : List P) → map (names_value v) (index_rows w (map f places)) ≡ map (names_value v) (number_column w (map (λ p. pos (f p)) places)).rows
named-numbers f v w places = ap (λ (c : Column). map (names_value v) c.rows) (same-indices f w places)

-- equal codes name a value in each row, or in none
pub equal-named : (v : Validity) (x : Option Value) (m n : ℕ) (b : Bool) → b ≡ names_value v x → m ≡ n → replicate m b ≡ map (names_value v) (replicate n x)
equal-named v x m n b is long = ap (replicate m) is ∙ ap (λ k. replicate k (names_value v x)) long ∙ sym (map-replicate (names_value v) n x)

pub all-equal-named : (v : Validity) (x : Option Value) (n : ℕ) (b wanted : Bool) → 0 < n → b ≡ names_value v x → IsTrue (beq b wanted) ↔ All (λ lane. lane ≡ wanted) (map (names_value v) (replicate n x))
all-equal-named v x n b wanted some is = (
  λ h.
      let same : b ≡ wanted = (booleans_Decides b wanted).0 h in
      subst (All (λ (lane : Bool). lane ≡ wanted)) (equal-named v x n n b is refl) (All-replicate (λ (lane : Bool). lane ≡ wanted) n b same),
  λ h.
      let lanes : All (λ (lane : Bool). lane ≡ wanted) (replicate n b) = subst (All (λ (lane : Bool). lane ≡ wanted)) (sym (equal-named v x n n b is refl)) h in
      (booleans_Decides b wanted).1 (sym (get_or-replicate n 0 b b some) ∙ lanes 0 b (omega (arith, some, length-replicate n b))),
)
