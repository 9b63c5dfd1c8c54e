-- Distinct rows, as they grow row by row.
use Rattle.std.proofs.Common.{ℕ, ◌<◌, ◌≡◌, Bool, true, false, cond, List, [], ◌∷◌, ◌++◌, length, get_or, refl, sym, ap, ◌∙◌, arith, Option, None}
use Rattle.std.proofs.lemmas.List.{get_or_append_left, get_or_default, get_or_push, length_push}
use Rattle.std.proofs.lemmas.List.Folds.{list_any_at, list_any_none, Any-from_list_any}
use Rattle.vortex_array_types.specs.declared.scalar.Value.{Value}
use Rattle.vortex_array_order.proofs.OrderLaws.{equal-same, row-itself}
use Rattle.std.specs.Ordering.{is_eq, is_some_and}
use Rattle.vortex_dict_builders.specs.Firsts.{StandsAt, has_row, same_row, with_firsts, with_row}

-- a row is itself
pub itself : (row : Option Value) → same_row row row ≡ true
itself row = ap (is_some_and is_eq) (row-itself row)

-- one that stands at a place is among the rows
pub stands-among : (rows : List (Option Value)) (row : Option Value) (p : ℕ) → StandsAt rows row p → has_row rows row ≡ true
stands-among rows row p h = list_any_at (same_row row) rows p None h.within (ap (same_row row) h.here ∙ itself row)

-- one that stands nowhere is not among them
pub none-among : (rows : List (Option Value)) (row : Option Value) → ((p : ℕ) → StandsAt rows row p → ⊥) → has_row rows row ≡ false
none-among rows row h = list_any_none (same_row row) rows (λ k d l. apart k d l (same_row row (get_or rows k d)) refl)
  where
    apart : (k : ℕ) (d : Option Value) → k < length rows → (b : Bool) → same_row row (get_or rows k d) ≡ b → same_row row (get_or rows k d) ≡ false
    apart k d l false e = e
    apart k d l true e = absurd (h k (record { within = l; here = get_or_default rows k None d l ∙ sym (equal-same row (get_or rows k d) e) }))

-- one that is among them stands somewhere
pub among-stands : (rows : List (Option Value)) (row : Option Value) → has_row rows row ≡ true → (p : ℕ) × StandsAt rows row p
among-stands rows row h =
    let some = Any-from_list_any (same_row row) rows h in
    (some.0, record { within = some.2; here = get_or_default rows some.0 None some.1 some.2 ∙ some.3 ∙ sym (equal-same row some.1 some.4) })

-- one more row is the last, and the others stay where they are
pub with-row-has : (rows : List (Option Value)) (row : Option Value) → has_row rows row ≡ true → with_row rows row ≡ rows
with-row-has rows row h = ap (λ b. cond b rows (rows ++ row ∷ [])) h

pub with-row-new : (rows : List (Option Value)) (row : Option Value) → has_row rows row ≡ false → with_row rows row ≡ rows ++ row ∷ []
with-row-new rows row h = ap (λ b. cond b rows (rows ++ row ∷ [])) h

pub stands-last : (rows : List (Option Value)) (row : Option Value) → StandsAt (rows ++ row ∷ []) row (length rows)
stands-last rows row = record {
  within = omega (arith, length_push rows row);
  here = get_or_push rows row None (length rows) refl;
}

stands_before : (rows : List (Option Value)) (next row : Option Value) (p : ℕ) → StandsAt rows row p → StandsAt (rows ++ next ∷ []) row p
stands_before rows next row p h = record {
  within = omega (arith, h.within, length_push rows next);
  here = get_or_append_left rows (next ∷ []) None p h.within ∙ h.here;
}

pub stands-on : (rows : List (Option Value)) (next row : Option Value) (p : ℕ) → StandsAt rows row p → StandsAt (with_row rows next) row p
stands-on rows next row p h = by_test (has_row rows next)
  where
    by_test : (b : Bool) → StandsAt (cond b rows (rows ++ next ∷ [])) row p
    by_test true = h
    by_test false = stands_before rows next row p h

-- one row behind others
pub with-firsts-push : (entries rows : List (Option Value)) (row : Option Value) → with_firsts entries (rows ++ row ∷ []) ≡ with_row (with_firsts entries rows) row
with-firsts-push entries [] row = refl
with-firsts-push entries (x ∷ rows) row = with-firsts-push (with_row entries x) rows row
