-- Rows that are encoded one by one.
use Rattle.std.proofs.Common.{ℕ, ℤ, ◌+◌, ◌<◌, ◌≤◌, ◌≡◌, ◌||◌, true, List, [], ◌∷◌, ◌++◌, length, get_or, map, take, refl, sym, ap, subst, ◌∙◌, arith, Option, Some, None, inl, inr, length-take}
use Rattle.std.specs.Prelude.{pos, ◌⊎◌, is_some}
use Rattle.std.proofs.lemmas.Bool.{cases_lt}
use Rattle.std.proofs.lemmas.List.{ext_get_or, get_or-map, get_or-take, get_or_append_left, get_or_push, length-map, length_push, take_more}
use Rattle.std.proofs.lemmas.List.Elements.{All-from_get_or}
use Rattle.vortex_array_types.specs.Widths.{has_no_sign}
use Rattle.vortex_array_types.specs.declared.types.PType.{PType}
use Rattle.vortex_array_types.specs.declared.scalar.Value.{Value}
use Rattle.vortex_array_types.specs.declared.scalar.Value.TheVariants as value
use Rattle.vortex_array_select.specs.Selected.{IndexBelow, row_at}
use Rattle.vortex_dict_builders.specs.Building.{EncodesRow, EncodesTo, IsPlaceOf, code_column}
use Rattle.vortex_dict_builders.specs.Encoder.{Encoder, has_room, with_entries}
use Rattle.vortex_dict_builders.specs.Encodes.{Encodes, EncodesFirst, Takes, after}
use Rattle.vortex_dict_builders.specs.Firsts.{StandsAt}
use Rattle.vortex_dict_builders.proofs.FirstsLemmas.{stands-among, stands-on, with-firsts-push, with-row-has}

-- no row is encoded yet
pub encodes-none : (e : Encoder) (rows : List (Option Value)) → EncodesFirst e rows 0 e
encodes-none e rows = record { within = omega arith; entries = refl; taken = λ i l. absurd (omega (arith, l)) }

-- the builder after one more row
pub after-more : (old now : Encoder) (rows : List (Option Value)) (i : ℕ) → i < length rows → now ≡ after old (take i rows) → after now (get_or rows i None ∷ []) ≡ after old (take (i + 1) rows)
after-more old now rows i l e =
    ap (λ (b : Encoder). after b (get_or rows i None ∷ [])) e
    ∙ ap (λ (es : List (Option Value)). with_entries es old) (sym (with-firsts-push old.entries (take i rows) (get_or rows i None)))
    ∙ ap (λ (rs : List (Option Value)). after old rs) (sym (take_more rows i None l))

-- one more row is encoded
pub encodes-more : (old now next : Encoder) (rows : List (Option Value)) (i : ℕ) (number : ℤ) → i < length rows → EncodesFirst old rows i now → EncodesRow now (get_or rows i None) number next → EncodesFirst old rows (i + 1) next
encodes-more old now next rows i number l h r = record {
  within = omega (arith, l);
  entries = r.entries ∙ after-more old now rows i l h.entries;
  taken = λ j m. by_place j (cases_lt j i) m;
}
  where
    by_place : (j : ℕ) → (j < i) ⊎ (i ≤ j) → j < i + 1 → Takes (after old (take j rows)) (get_or rows j None)
    by_place j (inl before) m = h.taken j before
    by_place j (inr from) m =
        let here : i ≡ j = omega (arith, from, m) in
        subst (λ k. Takes (after old (take k rows)) (get_or rows k None)) here (subst (λ (e : Encoder). Takes e (get_or rows i None)) h.entries r.takes)

-- the place of a row stays that of the row
pub place-on : (now next : Encoder) (row other : Option Value) (number n : ℤ) → EncodesRow now row number next → IsPlaceOf now.entries n other → IsPlaceOf next.entries n other
place-on now next row other number n r h = record {
  place = h.place;
  same = h.same;
  at = subst (λ (e : Encoder). StandsAt e.entries other h.place) (sym r.entries) (stands-on now.entries row other h.place h.at);
}

-- one more number is the place of one more row
pub codes-more : (now next : Encoder) (rows : List (Option Value)) (numbers : List ℤ) (number : ℤ) → EncodesRow now (get_or rows (length numbers) None) number next
    → ((k : ℕ) → k < length numbers → IsPlaceOf now.entries (get_or numbers k (pos 0)) (get_or rows k None))
    → (k : ℕ) → k < length (numbers ++ number ∷ []) → IsPlaceOf next.entries (get_or (numbers ++ number ∷ []) k (pos 0)) (get_or rows k None)
codes-more now next rows numbers number r h k l = by_place (cases_lt k (length numbers))
  where
    by_place : (k < length numbers) ⊎ (length numbers ≤ k) → IsPlaceOf next.entries (get_or (numbers ++ number ∷ []) k (pos 0)) (get_or rows k None)
    by_place (inl before) = rw (get_or_append_left numbers (number ∷ []) (pos 0) k before) (place-on now next (get_or rows (length numbers) None) (get_or rows k None) number (get_or numbers k (pos 0)) r (h k before))
    by_place (inr from) =
        let here : length numbers ≡ k = omega (arith, from, l, length_push numbers number) in
        subst (λ j. IsPlaceOf next.entries (get_or (numbers ++ number ∷ []) j (pos 0)) (get_or rows j None)) here
        (rw (get_or_push numbers number (pos 0) (length numbers) refl) r.code)

map_more : {X : Type 0} (f : X → ℤ) (xs : List X) (x : X) → map f (xs ++ x ∷ []) ≡ map f xs ++ f x ∷ []
map_more f [] x = refl
map_more f (y ∷ xs) x = ap (λ ys. f y ∷ ys) (map_more f xs x)

-- and so of items that are numbers
pub codes-push : {X : Type 0} (f : X → ℤ) (now next : Encoder) (rows : List (Option Value)) (xs : List X) (x : X) (i : ℕ) → length xs ≡ i → EncodesRow now (get_or rows i None) (f x) next
    → ((k : ℕ) → k < i → IsPlaceOf now.entries (get_or (map f xs) k (pos 0)) (get_or rows k None))
    → (k : ℕ) → k < i + 1 → IsPlaceOf next.entries (get_or (map f (xs ++ x ∷ [])) k (pos 0)) (get_or rows k None)
codes-push f now next rows xs x i e r h k l =
    let long : length (map f xs) ≡ i = length-map xs f ∙ e in
    rw (map_more f xs x)
    (codes-more now next rows (map f xs) (f x) (subst (λ n. EncodesRow now (get_or rows n None) (f x) next) (sym long) r) (λ j m. h j (omega (arith, m, long))) k (omega (arith, l, long, length_push (map f xs) (f x))))

code_row : (es : List (Option Value)) (n : ℤ) (row : Option Value) → IsPlaceOf es n row → row_at es (Some (value.Int n)) ≡ row
code_row es n row h = ap (λ m. row_at es (Some (value.Int m))) h.same ∙ h.at.here

code_below : (es : List (Option Value)) (n : ℤ) (row : Option Value) → IsPlaceOf es n row → IndexBelow (length es) (Some (value.Int n))
code_below es n row h = subst (λ m. IndexBelow (length es) (Some (value.Int m))) (sym h.same) h.at.within

-- a row that is an entry already
pub encodes-old : (e : Encoder) (row : Option Value) (number : ℤ) (place : ℕ) → StandsAt e.entries row place → number ≡ pos place → EncodesRow e row number e
encodes-old e row number place h is =
    let among = stands-among e.entries row place h in
    record {
      takes = ap (λ b. b || has_room e row) among;
      entries = sym (ap (λ (es : List (Option Value)). with_entries es e) (with-row-has e.entries row among));
      code = record { place = place; same = is; at = h };
    }

-- numbers as codes
pub code-at : (w : PType) (numbers : List ℤ) (k : ℕ) → k < length numbers → get_or (code_column w numbers).rows k None ≡ Some (value.Int (get_or numbers k (pos 0)))
code-at w numbers k l =
    let values = map (λ n. value.Int n) numbers in
    let inside : k < length values = omega (arith, l, length-map numbers (λ n. value.Int n)) in
    get_or-map (λ v. Some v) values k (value.Int (pos 0)) None inside ∙ ap (λ v. Some v) (get_or-map (λ n. value.Int n) numbers k (pos 0) (value.Int (pos 0)) l)

pub length-codes : (w : PType) (numbers : List ℤ) → length (code_column w numbers).rows ≡ length numbers
length-codes w numbers = length-map (map (λ n. value.Int n) numbers) (λ v. Some v) ∙ length-map numbers (λ n. value.Int n)

-- the numbers of the first rows as codes of them
pub encodes-codes : (old new : Encoder) (rows : List (Option Value)) (numbers : List ℤ) → has_no_sign old.width ≡ true → EncodesTo old rows numbers new → Encodes old rows (code_column old.width numbers) new
encodes-codes old new rows numbers unsigned h =
    let long = length-codes old.width numbers in
    let codes = (code_column old.width numbers).rows in
    record {
      dtype = refl;
      prefix = subst (λ n. EncodesFirst old rows n new) (sym long) h.prefix;
      stops = subst (λ n. n < length rows → Takes new (get_or rows n None) → ⊥) (sym long) h.stops;
      names = record {
        kind = unsigned;
        below = All-from_get_or (IndexBelow (length new.entries)) codes None
            (λ k l.
            let inside : k < length numbers = omega (arith, l, long) in
            subst (IndexBelow (length new.entries)) (sym (code-at old.width numbers k inside)) (code_below new.entries (get_or numbers k (pos 0)) (get_or rows k None) (h.codes k inside)));
      };
      full = All-from_get_or (λ (code : Option Value). is_some code ≡ true) codes None (λ k l. ap is_some (code-at old.width numbers k (omega (arith, l, long))));
      decoded = ext_get_or None (map (row_at new.entries) codes) (take (length codes) rows)
          (length-map codes (row_at new.entries) ∙ sym (taken_long codes (subst (λ n. n ≤ length rows) (sym long) h.prefix.within)))
          (λ k l.
          let inside : k < length codes = omega (arith, l, length-map codes (row_at new.entries)) in
          let number : k < length numbers = omega (arith, inside, long) in
          get_or-map (row_at new.entries) codes k None None inside
          ∙ ap (row_at new.entries) (code-at old.width numbers k number)
          ∙ code_row new.entries (get_or numbers k (pos 0)) (get_or rows k None) (h.codes k number)
          ∙ sym (get_or-take (length codes) rows k None inside));
    }
  where
    taken_long : (codes : List (Option Value)) → length codes ≤ length rows → length (take (length codes) rows) ≡ length codes
    taken_long codes l = omega (arith, l, length-take (length codes) rows)
