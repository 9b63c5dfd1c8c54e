-- Columns encoded as dictionaries.
use Rattle.std.proofs.Common.{ℕ, zero, suc, ◌+◌, ◌-◌, ◌<◌, ◌≤◌, ◌≡◌, ◌&&◌, ◌||◌, Bool, true, false, cond, List, [], ◌∷◌, ◌++◌, length, get_or, map, take, refl, sym, ap, subst, ◌∙◌, arith, Option, Some, None, Ok, Err, inl, inr, length-take}
use Rattle.std.specs.Prelude.{pos, All, IfOk, Result, ◌⊎◌, is_some, nat_le}
use Rattle.std.proofs.lemmas.Bool.{cases_lt, false≢true, leb-true}
use Rattle.std.proofs.lemmas.Int.{ints}
use Rattle.std.proofs.lemmas.List.{get_or_append_left, get_or_push, length_push, take_all}
use Rattle.std.proofs.lemmas.List.Elements.{All-head, All-tail}
use Rattle.vortex_array_types.specs.Row.{Column, fits_type, in_width}
use Rattle.vortex_array_types.specs.Widths.{has_no_sign}
use Rattle.vortex_array_types.specs.declared.types.DType.{DType}
use Rattle.vortex_array_types.specs.declared.types.DType.TheVariants as dtype
use Rattle.vortex_array_types.specs.declared.types.Nullability.TheVariants as nulls
use Rattle.vortex_array_types.specs.declared.types.PType.TheVariants as width
use Rattle.vortex_array_types.specs.declared.scalar.Value.{Value}
use Rattle.vortex_array_types.specs.declared.scalar.Value.TheVariants as value
use Rattle.vortex_array_select.specs.Selected.{IndexBelow, row_at, taken}
use Rattle.vortex_array_kinds.proofs.TruthColumns.{same_column}
use Rattle.vortex_array_cast.specs.Casts.{FirstUnfit}
use Rattle.vortex_array.specs.ColumnOf.{column_of}
use Rattle.vortex_dict.specs.Casts.{HaveNoNull}
use Rattle.vortex_dict.specs.Decoded.{AreCodes}
use Rattle.vortex_dict.specs.Encoded.{EncodesPart, IsDictOf, narrowed, width_of_places}
use Rattle.vortex_dict.specs.Parts.{DictParts}
use Rattle.vortex_dict_builders.specs.Any.{unlimited}
use Rattle.vortex_dict_builders.specs.Encoder.{Encoder, all_bytes, entries_column, entry_bytes}
use Rattle.vortex_dict_builders.specs.Encodes.{Encodes, Takes, after}
use Rattle.vortex_dict_builders.specs.Widths.{least_code}
use Rattle.vortex_dict_builders.specs.Firsts.{AreDistinct, StandsAt, firsts, has_row, with_firsts, with_row}
use Rattle.vortex_dict_builders.proofs.FirstsLemmas.{stands-among}

-- one more row that is none of distinct rows
distinct_more : (rows : List (Option Value)) (row : Option Value) → AreDistinct rows → has_row rows row ≡ false → AreDistinct (rows ++ row ∷ [])
distinct_more rows row h new = λ i j l m e. by_places i j l m e (cases_lt i (length rows)) (cases_lt j (length rows))
  where
    apart : (i j : ℕ) → i < length rows → length rows ≡ j → get_or (rows ++ row ∷ []) i None ≡ get_or (rows ++ row ∷ []) j None → ⊥
    apart i j l last e = false≢true (sym new ∙ stands-among rows row i (record { within = l; here = sym (get_or_append_left rows (row ∷ []) None i l) ∙ e ∙ get_or_push rows row None j last }))

    by_places : (i j : ℕ) → i < length (rows ++ row ∷ []) → j < length (rows ++ row ∷ []) → get_or (rows ++ row ∷ []) i None ≡ get_or (rows ++ row ∷ []) j None → (i < length rows) ⊎ (length rows ≤ i) → (j < length rows) ⊎ (length rows ≤ j) → i ≡ j
    by_places i j l m e (inl before) (inl there) = h i j before there (sym (get_or_append_left rows (row ∷ []) None i before) ∙ e ∙ get_or_append_left rows (row ∷ []) None j there)
    by_places i j l m e (inl before) (inr from) = absurd (apart i j before (omega (arith, from, m, length_push rows row)) e)
    by_places i j l m e (inr from) (inl there) = absurd (apart j i there (omega (arith, from, l, length_push rows row)) (sym e))
    by_places i j l m e (inr from) (inr behind) = omega (arith, from, behind, l, m, length_push rows row)

distinct_with : (entries rows : List (Option Value)) → AreDistinct entries → AreDistinct (with_firsts entries rows)
distinct_with entries [] h = h
distinct_with entries (row ∷ rows) h = distinct_with (with_row entries row) rows (by_test (has_row entries row) refl)
  where
    by_test : (b : Bool) → has_row entries row ≡ b → AreDistinct (cond b entries (entries ++ row ∷ []))
    by_test true e = h
    by_test false e = distinct_more entries row h e

-- no two of the distinct rows of a list are one
pub firsts-distinct : (rows : List (Option Value)) → AreDistinct (firsts rows)
firsts-distinct rows = distinct_with [] rows (λ i j l m e. absurd (omega (arith, l)))

-- codes of the same rows over distinct values are the same
pub same-codes : (es cs ds : List (Option Value)) → AreDistinct es → All (IndexBelow (length es)) cs → All (IndexBelow (length es)) ds → HaveNoNull cs → HaveNoNull ds → map (row_at es) cs ≡ map (row_at es) ds → cs ≡ ds
same-codes es [] [] distinct p q m n e = refl
same-codes es [] (d ∷ ds) distinct p q m n e = absurd (cc e)
same-codes es (c ∷ cs) [] distinct p q m n e = absurd (cc e)
same-codes es (c ∷ cs) (d ∷ ds) distinct p q m n e =
    ap (λ x. x ∷ cs) (one c d (All-head (IndexBelow (length es)) c cs p) (All-head (IndexBelow (length es)) d ds q) (m 0 None (omega arith)) (n 0 None (omega arith)) (ap head e))
    ∙ ap (λ xs. d ∷ xs) (same-codes es cs ds distinct (All-tail (IndexBelow (length es)) c cs p) (All-tail (IndexBelow (length es)) d ds q) (λ k x l. m (suc k) x (omega (arith, l))) (λ k x l. n (suc k) x (omega (arith, l))) (ap tail e))
  where
    head : List (Option Value) → Option Value
    head [] = None
    head (x ∷ xs) = x

    tail : List (Option Value) → List (Option Value)
    tail [] = []
    tail (x ∷ xs) = xs

    one : (c d : Option Value) → IndexBelow (length es) c → IndexBelow (length es) d → is_some c ≡ true → is_some d ≡ true → row_at es c ≡ row_at es d → c ≡ d
    one None d i j s t e = absurd (false≢true s)
    one (Some (value.Int (pos a))) None i j s t e = absurd (false≢true t)
    one (Some (value.Int (pos a))) (Some (value.Int (pos b))) i j s t e = ap (λ k. Some (value.Int (pos k))) (distinct a b i j e)
    one (Some (value.Int (pos a))) d i j s t e = absurd j
    one c d i j s t e = absurd i

-- distinct rows are no more than the rows
firsts_long : (entries rows : List (Option Value)) → length (with_firsts entries rows) ≤ length entries + length rows
firsts_long entries [] = omega arith
firsts_long entries (row ∷ rows) =
    let rest = firsts_long (with_row entries row) rows in
    let one = by_test (has_row entries row) in
    omega (arith, rest, one)
  where
    by_test : (b : Bool) → length (cond b entries (entries ++ row ∷ [])) ≤ length entries + 1
    by_test true = omega arith
    by_test false = omega (arith, length_push entries row)

either_true : (a : Bool) → (a || true) ≡ true
either_true true = refl
either_true false = refl

has_rooms : (a b c : Bool) → a ≡ true → (a && ((b || true) && (c || true))) ≡ true
has_rooms a b c e = ap (λ x. x && ((b || true) && (c || true))) e ∙ ap (λ x. x && (c || true)) (either_true b) ∙ either_true c

in_eight : (k : ℕ) → k < 256 → in_width width.U8 (pos k) ≡ true
in_eight k l = grind (arith, ints)

in_sixteen : (k : ℕ) → k < 65536 → in_width width.U16 (pos k) ≡ true
in_sixteen k l = grind (arith, ints)

in_thirty_two : (k : ℕ) → k < 4294967296 → in_width width.U32 (pos k) ≡ true
in_thirty_two k l = grind (arith, ints)

in_widest : (k : ℕ) → k < 18446744073709551616 → in_width width.U64 (pos k) ≡ true
in_widest k l = grind (arith, ints)

-- the least width that holds a bound holds each number up to it
code_fits : (bound k : ℕ) → k ≤ bound → bound < 18446744073709551616 → in_width (least_code bound) (pos k) ≡ true
code_fits bound k l few = by_first (nat_le bound 255) refl
  where
    by_third : (b : Bool) → nat_le bound 4294967295 ≡ b → in_width (cond b width.U32 width.U64) (pos k) ≡ true
    by_third true e = in_thirty_two k (omega (arith, l, leb-true bound 4294967295 e))
    by_third false e = in_widest k (omega (arith, l, few))

    by_second : (b : Bool) → nat_le bound 65535 ≡ b → in_width (cond b width.U16 (cond (nat_le bound 4294967295) width.U32 width.U64)) (pos k) ≡ true
    by_second true e = in_sixteen k (omega (arith, l, leb-true bound 65535 e))
    by_second false e = by_third (nat_le bound 4294967295) refl

    by_first : (b : Bool) → nat_le bound 255 ≡ b → in_width (cond b width.U8 (cond (nat_le bound 65535) width.U16 (cond (nat_le bound 4294967295) width.U32 width.U64))) (pos k) ≡ true
    by_first true e = in_eight k (omega (arith, l, leb-true bound 255 e))
    by_first false e = by_second (nat_le bound 65535) refl

-- a builder without limits lets each of so many rows in
pub lets-in : (t : DType) (n : ℕ) (rows : List (Option Value)) (row : Option Value) → length rows < n → n < 18446744073709551616 → Takes (after (unlimited t n) rows) row
lets-in t n rows row few fits =
    let es = firsts rows in
    let long : length es < n = omega (arith, few, firsts_long [] rows) in
    let room = has_rooms (in_width (least_code n) (pos (length es))) (nat_le (length es + 1) 18446744073709551615) (nat_le (all_bytes t es + entry_bytes t row) 18446744073709551615) (code_fits n (length es) (omega (arith, long)) fits) in
    ap (λ b. has_row es row || b) room ∙ either_true (has_row es row)

-- so all rows of a column are encoded
pub encodes-all : (c : Column) (d : DictParts) → length c.rows < 18446744073709551616 → EncodesPart (unlimited c.dtype (length c.rows)) c d → IsDictOf c d
encodes-all c d few h = by_count (cases_lt h.count (length c.rows))
  where
    by_count : (h.count < length c.rows) ⊎ (length c.rows ≤ h.count) → IsDictOf c d
    by_count (inl before) =
        let short : length (take h.count c.rows) < length c.rows = omega (arith, before, length-take h.count c.rows) in
        absurd (h.stops before (lets-in c.dtype (length c.rows) (take h.count c.rows) (get_or c.rows h.count None) short few))
    by_count (inr all) = subst (λ (rs : List (Option Value)). IsDictOf (record { dtype = c.dtype; rows = rs }) d) (take_all h.count c.rows all) h.dict

-- what a builder without entries encodes, as a dictionary
pub encodes-part : (e new : Encoder) (c codes : Column) (d : DictParts) → c.dtype ≡ e.dtype → e.entries ≡ [] → Encodes e c.rows codes new → column_of d.values ≡ entries_column new → column_of d.codes ≡ narrowed (length new.entries) codes → EncodesPart e c d
encodes-part e new c codes d type none h values narrow =
    let n = length codes.rows in
    let kept : new.dtype ≡ c.dtype = ap (λ (b : Encoder). b.dtype) h.prefix.entries ∙ sym type in
    let entries : new.entries ≡ firsts (take n c.rows) = ap (λ (b : Encoder). b.entries) h.prefix.entries ∙ ap (λ (es : List (Option Value)). with_firsts es (take n c.rows)) none in
    record {
      count = n;
      within = h.prefix.within;
      dict = record {
        rows = ap (λ (k : Column). taken k (column_of d.values)) narrow ∙ ap (taken (narrowed (length new.entries) codes)) values ∙ same_column _ _ _ _ kept h.decoded;
        values = values ∙ same_column _ _ _ _ kept entries;
        codes = subst (λ (k : Column). HaveNoNull k.rows) (sym narrow) h.full;
        width = ap (λ (k : Column). k.dtype) narrow ∙ ap (λ (es : List (Option Value)). dtype.Primitive (width_of_places (length es)) nulls.NonNullable) entries;
      };
      taken = h.prefix.taken;
      stops = λ l t. h.stops l (subst (λ (b : Encoder). Takes b (get_or c.rows n None)) (sym h.prefix.entries) t);
    }

-- columns of one type with equal rows are dictionaries of equal values
pub equal-values : (c : Column) (d e : DictParts) → IsDictOf c d → IsDictOf c e → column_of d.values ≡ column_of e.values
equal-values c d e f g = f.values ∙ sym g.values

-- and of equal codes
pub equal-codes : (c : Column) (d e : DictParts) → AreCodes d.codes d.values → AreCodes e.codes e.values → IsDictOf c d → IsDictOf c e → column_of d.codes ≡ column_of e.codes
equal-codes c d e p q f g =
    same_column _ _ _ _ (f.width ∙ sym g.width)
    (same-codes (firsts c.rows) (column_of d.codes).rows (column_of e.codes).rows (firsts-distinct c.rows) (below d p f) (below e q g) f.codes g.codes (named d f ∙ sym (named e g)))
  where
    values : (d : DictParts) → IsDictOf c d → (column_of d.values).rows ≡ firsts c.rows
    values d f = ap (λ (k : Column). k.rows) f.values

    below : (d : DictParts) → AreCodes d.codes d.values → IsDictOf c d → All (IndexBelow (length (firsts c.rows))) (column_of d.codes).rows
    below d p f = subst (λ (rs : List (Option Value)). All (IndexBelow (length rs)) (column_of d.codes).rows) (values d f) p.below

    named : (d : DictParts) → IsDictOf c d → map (row_at (firsts c.rows)) (column_of d.codes).rows ≡ c.rows
    named d f = ap (λ (rs : List (Option Value)). map (row_at rs) (column_of d.codes).rows) (sym (values d f)) ∙ ap (λ (k : Column). k.rows) f.rows

-- so the least width of so many places holds each of them
place_fits : (n k : ℕ) → k < n → n < 18446744073709551616 → in_width (width_of_places n) (pos k) ≡ true
place_fits n k l few = code_fits (n - 1) k (omega (arith, l)) (omega (arith, few))

-- so codes that name one of so many values fit it
pub codes-fit : (n : ℕ) (codes : Column) (i : ℕ) → n < 18446744073709551616 → All (IndexBelow n) codes.rows → HaveNoNull codes.rows → FirstUnfit (dtype.Primitive (width_of_places n) nulls.NonNullable) codes.rows i → ⊥
codes-fit n codes i few below full h = false≢true (sym h.unfit ∙ one (get_or codes.rows i None) (below i None h.within) (full i None h.within))
  where
    one : (row : Option Value) → IndexBelow n row → is_some row ≡ true → fits_type (dtype.Primitive (width_of_places n) nulls.NonNullable) row ≡ true
    one None b s = absurd (false≢true s)
    one (Some (value.Int (pos k))) b s = place_fits n k b few
    one row b s = absurd b

-- and it has no sign
pub least-unsigned : (bound : ℕ) → has_no_sign (least_code bound) ≡ true
least-unsigned bound = by_tests (nat_le bound 255) (nat_le bound 65535) (nat_le bound 4294967295)
  where
    by_tests : (a b c : Bool) → has_no_sign (cond a width.U8 (cond b width.U16 (cond c width.U32 width.U64))) ≡ true
    by_tests true b c = refl
    by_tests false true c = refl
    by_tests false false true = refl
    by_tests false false false = refl

-- what two things say of what a call answers
pub on-both : {T E : Type 0} (r : Result T E) (P Q R : T → Type 0) → ((x : T) → P x → Q x → R x) → IfOk r P → IfOk r Q → IfOk r R
on-both (Ok x) P Q R f p q = f x p q
on-both (Err e) P Q R f p q = tt
