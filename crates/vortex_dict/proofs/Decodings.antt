-- Parts of the column that codes and values stand for.
use Rattle.std.proofs.Common.{ℕ, zero, suc, inl, inr, ◌-◌, ◌<◌, ◌≤◌, ◌≡◌, Bool, true, false, cond, List, [], ◌∷◌, length, get_or, map, refl, sym, ap, subst, ◌∙◌, Option, Some, None}
use Rattle.std.specs.Prelude.{pos, All, ◌⊎◌}
use Rattle.std.proofs.lemmas.Bool.{cases_lt}
use Rattle.std.proofs.lemmas.List.{get_or_past}
use Rattle.std.proofs.lemmas.List.Elements.{All-cons, All-drop, All-get_or, All-head, All-map, All-nil, All-tail, All-take}
use Rattle.vortex_array_types.specs.Row.{Column, is_nullable}
use Rattle.vortex_array_types.specs.Widths.{nullable_form}
use Rattle.vortex_array_types.specs.declared.types.DType.{DType}
use Rattle.vortex_array_types.specs.declared.types.DType.TheVariants as dtype
use Rattle.vortex_array_types.specs.declared.scalar.Value.{Value}
use Rattle.vortex_array_types.specs.declared.scalar.Value.TheVariants as value
use Rattle.vortex_array_rows.specs.Kept.{kept_by}
use Rattle.vortex_array_rows.proofs.Kept.{kept_by-map}
use Rattle.vortex_array_rows.proofs.Slices.{slice-map}
use Rattle.vortex_array_kinds.proofs.RowLemmas.{column_with}
use Rattle.vortex_array_kinds.proofs.TruthColumns.{same_column}
use Rattle.vortex_array_select.specs.Selected.{IndexBelow, NamesRows, filtered, is_index_type, row_at, sliced, taken}
use Rattle.vortex_dict.specs.Decoded.{decoded}

read_at : {X Y : Type 0} (f : X → Y) (xs : List X) (i : ℕ) (d : X) → get_or (map f xs) i (f d) ≡ f (get_or xs i d)
read_at f [] i d = refl
read_at f (x ∷ xs) zero d = refl
read_at f (x ∷ xs) (suc i) d = read_at f xs i d

-- a row at an index, of rows that are read in another way
pub row-read : (h : Option Value → Option Value) → h None ≡ None → (rows : List (Option Value)) (c : Option Value) → row_at (map h rows) c ≡ h (row_at rows c)
row-read h e rows (Some (value.Int (pos i))) = ap (λ d. get_or (map h rows) i d) (sym e) ∙ read_at h rows i None
row-read h e rows c = sym e

-- and so the rows at codes
pub rows-read : (h : Option Value → Option Value) → h None ≡ None → (rows codes : List (Option Value)) → map (row_at (map h rows)) codes ≡ map h (map (row_at rows) codes)
rows-read h e rows [] = refl
rows-read h e rows (c ∷ codes) = ap (λ r. r ∷ map (row_at (map h rows)) codes) (row-read h e rows c) ∙ ap (λ rs. h (row_at rows c) ∷ rs) (rows-read h e rows codes)

-- a type that has nulls
pub has-nulls : (t : DType) → is_nullable (nullable_form t) ≡ true
has-nulls (dtype.Bool n) = refl
has-nulls (dtype.Primitive w n) = refl
has-nulls (dtype.Decimal d n) = refl
has-nulls (dtype.Utf8 n) = refl
has-nulls (dtype.Binary n) = refl

nullable_again : (t : DType) → nullable_form (nullable_form t) ≡ nullable_form t
nullable_again (dtype.Bool n) = refl
nullable_again (dtype.Primitive w n) = refl
nullable_again (dtype.Decimal d n) = refl
nullable_again (dtype.Utf8 n) = refl
nullable_again (dtype.Binary n) = refl

nullable_twice : (b : Bool) (v : DType) → nullable_form (cond b (nullable_form v) v) ≡ nullable_form v
nullable_twice true v = nullable_again v
nullable_twice false v = refl

-- the type of rows at indices of codes
part_type : (a : Bool) (t v : DType) → cond a (nullable_form (cond (is_nullable t) (nullable_form v) v)) (cond (is_nullable t) (nullable_form v) v) ≡ cond (is_nullable (cond a (nullable_form t) t)) (nullable_form v) v
part_type true t v = nullable_twice (is_nullable t) v ∙ ap (λ b. cond b (nullable_form v) v) (sym (has-nulls t))
part_type false t v = refl

-- a part of a dictionary is that part of its codes
pub sliced-codes : (i j : ℕ) (codes values : Column) → decoded (sliced i j codes) values ≡ sliced i j (decoded codes values)
sliced-codes i j codes values = ap (column_with (decoded codes values).dtype) (sym (slice-map (row_at values.rows) codes.rows i j))

pub kept-codes : (set : List Bool) (codes values : Column) → decoded (filtered set codes) values ≡ filtered set (decoded codes values)
kept-codes set codes values = ap (column_with (decoded codes values).dtype) (sym (kept_by-map (row_at values.rows) set codes.rows))

pub taken-codes : (indices codes values : Column) → decoded (taken indices codes) values ≡ taken indices (decoded codes values)
taken-codes indices codes values =
    sym (same_column _ _ _ _ (part_type (is_nullable indices.dtype) codes.dtype values.dtype) (rows-read (row_at values.rows) refl codes.rows indices.rows))

kept_all : {X : Type 0} (P : X → Type 0) (set : List Bool) (xs : List X) → All P xs → All P (kept_by set xs)
kept_all P [] xs h = All-nil P
kept_all P (b ∷ set) [] h = All-nil P
kept_all P (true ∷ set) (x ∷ xs) h = All-cons P x (kept_by set xs) (All-head P x xs h) (kept_all P set xs (All-tail P x xs h))
kept_all P (false ∷ set) (x ∷ xs) h = kept_all P set xs (All-tail P x xs h)

below_at : (n : ℕ) (rows : List (Option Value)) (c : Option Value) → All (IndexBelow n) rows → IndexBelow n (row_at rows c)
below_at n rows (Some (value.Int (pos i))) h = by_place (cases_lt i (length rows))
  where
    by_place : (i < length rows) ⊎ (length rows ≤ i) → IndexBelow n (get_or rows i None)
    by_place (inl l) = All-get_or (IndexBelow n) rows i None l h
    by_place (inr l) = subst (IndexBelow n) (sym (get_or_past rows i None l)) tt
below_at n rows c h = tt

index_kind : (a : Bool) (t : DType) → is_index_type (cond a (nullable_form t) t) ≡ is_index_type t
index_kind true (dtype.Bool n) = refl
index_kind true (dtype.Primitive w n) = refl
index_kind true (dtype.Decimal d n) = refl
index_kind true (dtype.Utf8 n) = refl
index_kind true (dtype.Binary n) = refl
index_kind false t = refl

-- and the codes are places of as many values
pub sliced-names : (i j n : ℕ) (codes : Column) → NamesRows codes n → NamesRows (sliced i j codes) n
sliced-names i j n codes h = record { kind = h.kind; below = All-take (IndexBelow n) (j - i) _ (All-drop (IndexBelow n) i codes.rows h.below) }

pub kept-names : (set : List Bool) (n : ℕ) (codes : Column) → NamesRows codes n → NamesRows (filtered set codes) n
kept-names set n codes h = record { kind = h.kind; below = kept_all (IndexBelow n) set codes.rows h.below }

pub taken-names : (indices codes : Column) (n : ℕ) → NamesRows codes n → NamesRows (taken indices codes) n
taken-names indices codes n h = record {
  kind = rw (index_kind (is_nullable indices.dtype) codes.dtype) h.kind;
  below = All-map (IndexBelow n) (row_at codes.rows) indices.rows (λ k d l. below_at n codes.rows (get_or indices.rows k d) h.below);
}
