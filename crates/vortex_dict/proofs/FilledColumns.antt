-- Fills of the column that codes and values stand for.
use Rattle.std.proofs.Common.{ℕ, ◌<◌, ◌≡◌, cond, List, [], ◌∷◌, length, get_or, map, refl, ap, ◌∙◌, Option, Some, None}
use Rattle.std.specs.Prelude.{pos, IsTrue, IsFalse, All}
use Rattle.std.proofs.lemmas.List.{get_or-map}
use Rattle.std.proofs.lemmas.List.Elements.{All-head, All-map, All-tail}
use Rattle.vortex_array_types.specs.Row.{Column, TypedRow, is_nullable}
use Rattle.vortex_array_types.specs.Widths.{nullable_form}
use Rattle.vortex_array_types.specs.declared.scalar.Value.{Value}
use Rattle.vortex_array_types.specs.declared.scalar.Value.TheVariants as value
use Rattle.vortex_array_kinds.proofs.TruthColumns.{same_column}
use Rattle.vortex_array_select.specs.Selected.{IndexBelow, NamesRows, is_index_type, row_at}
use Rattle.vortex_array_cast.specs.Filled.{filled, filled_row}
use Rattle.vortex_dict.specs.Decoded.{decoded}
use Rattle.vortex_dict.specs.Fills.{FirstEqual}

filled_itself : (x : Option Value) → filled_row x x ≡ x
filled_itself None = refl
filled_itself (Some v) = refl

-- the row that a filled code names, among values that are filled
filled_at : (fill : Option Value) (p : ℕ) (vs : List (Option Value)) → p < length vs → get_or vs p None ≡ fill → (c : Option Value) → IndexBelow (length vs) c
    → row_at (map (filled_row fill) vs) (filled_row (Some (value.Int (pos p))) c) ≡ filled_row fill (row_at vs c)
filled_at fill p vs within here None l = get_or-map (filled_row fill) vs p None None within ∙ ap (filled_row fill) here ∙ filled_itself fill
filled_at fill p vs within here (Some (value.Int (pos i))) l = get_or-map (filled_row fill) vs i None None l
filled_at fill p vs within here c l = absurd l

filled_rows : (fill : Option Value) (p : ℕ) (vs : List (Option Value)) → p < length vs → get_or vs p None ≡ fill → (cs : List (Option Value)) → All (IndexBelow (length vs)) cs
    → map (row_at (map (filled_row fill) vs)) (map (filled_row (Some (value.Int (pos p)))) cs) ≡ map (filled_row fill) (map (row_at vs) cs)
filled_rows fill p vs within here [] all = refl
filled_rows fill p vs within here (c ∷ cs) all =
    ap (λ r. r ∷ map (row_at (map (filled_row fill) vs)) (map (filled_row (Some (value.Int (pos p)))) cs)) (filled_at fill p vs within here c (All-head (IndexBelow (length vs)) c cs all))
    ∙ ap (λ rs. filled_row fill (row_at vs c) ∷ rs) (filled_rows fill p vs within here cs (All-tail (IndexBelow (length vs)) c cs all))

-- codes filled with the place of the fill, over values that are filled, are the rows that are filled
pub filled-decoded : (fill : TypedRow) (p : ℕ) (codes full values : Column) → FirstEqual values.rows fill.value p → NamesRows codes (length values.rows) → IsFalse (is_nullable full.dtype) → full.rows ≡ map (filled_row (Some (value.Int (pos p)))) codes.rows
    → decoded full (filled fill values) ≡ filled fill (decoded codes values)
filled-decoded fill p codes full values first names nonnull rows = same_column _ _ _ _
    (ap (λ b. cond b (nullable_form fill.dtype) fill.dtype) nonnull)
    (ap (λ cs. map (row_at (map (filled_row fill.value) values.rows)) cs) rows ∙ filled_rows fill.value p values.rows first.within first.equal codes.rows names.below)

filled_below : (p n : ℕ) (c : Option Value) → p < n → IndexBelow n c → IndexBelow n (filled_row (Some (value.Int (pos p))) c)
filled_below p n None l h = l
filled_below p n (Some v) l h = h

-- and such codes are places of as many values
pub filled-names : (p n : ℕ) (codes full : Column) → p < n → NamesRows codes n → IsTrue (is_index_type full.dtype) → full.rows ≡ map (filled_row (Some (value.Int (pos p)))) codes.rows → NamesRows full n
filled-names p n codes full l h kind rows = record {
  kind = kind;
  below = rw rows (All-map (IndexBelow n) (filled_row (Some (value.Int (pos p)))) codes.rows (λ k d i. filled_below p n (get_or codes.rows k d) l (h.below k d i)));
}
