-- What morsels keep, and what `chosen_batch` asks of their chunks.
use Rattle.std.proofs.Common.{◌≡◌, ◌∙◌, sym, ap, subst, refl, ℕ, zero, suc, ◌+◌, ◌<◌, List, [], ◌∷◌, ◌++◌, Bool, true, false, length, length-append, get_or, get_or-append-add, map, drop, arith}
use Rattle.std.specs.Prelude.{◌||◌, All, Option, None, Some, filter, is_none, is_some, slice_get}
use Rattle.std.specs.List.{enumerate_from, list_any}
use Rattle.std.proofs.lemmas.List.{get_or_append_left}
use Rattle.std.proofs.lemmas.List.Folds.{list_any_at}
use Rattle.std.specs.Option.{option_and_then}
use Rattle.std.specs.Str.{bytes_eq}
use Rattle.vortex_array_types.specs.Cells.{dtype_of}
use Rattle.vortex_array_types.specs.Typed.{filter_names}
use Rattle.vortex_array_types.specs.declared.column.ColumnDesc.{ColumnDesc}
use Rattle.vortex_table_chunks.specs.ChunkOf.{chunk_column}
use Rattle.vortex_table_chunks.specs.Rows.{IsThere}
use Rattle.vortex_table_chunks.specs.declared.chunk.Chunk.{Chunk}
use Rattle.vortex_table_types.specs.Chosen.{projected_names}
use Rattle.vortex_table_planner.specs.Live.{columns_named, is_needed, names_in}
use Rattle.vortex_table_planner.specs.Morsels.{IsMorsel, IsWanted, Mismatches, MorselState, is_missing, is_ready, lacks, new_morsel, slot}
use Rattle.vortex_table_planner.specs.Owing.{Differs}
use Rattle.vortex_table_planner.specs.PlannerRules.{length_none, none_given}
use Rattle.vortex_table_planner.specs.declared.phase.Phase.{Phase}
use Rattle.vortex_table_planner.specs.declared.phase.Phase.TheVariants as phase
use Rattle.vortex_table_planner.specs.declared.wanted.Wanted.{Wanted}

-- ---- what a morsel keeps

-- a new morsel keeps it
pub new_keeps : (wanted : Wanted) (bits : List Bool) (split : ℕ) → IsWanted wanted → IsMorsel (new_morsel wanted bits split)
new_keeps wanted bits split valid = record {
  wanted = valid;
  long = length_none wanted.columns;
  spare = λ column there. absurd (let no_way : true ≡ false = sym (none_given wanted.columns column) ∙ there in cc);
  whole = λ ready. absurd (cc);
}

-- ---- mismatches

slot_is : (chunks : List (Option Chunk)) (place : ℕ) (chunk : Chunk) → slice_get chunks place ≡ Some (Some chunk) → slot chunks place ≡ Some chunk
slot_is chunks place chunk e = ap (λ found. option_and_then (λ given. given) found) e

-- a given chunk that differs from its description is of a needed column
pub mismatch_is : (it : MorselState) (place : ℕ) (column : ColumnDesc) (chunk : Chunk) → IsMorsel it → slice_get it.wanted.columns place ≡ Some column → slice_get it.chunks place ≡ Some (Some chunk)
    → Differs (length it.bits) column (chunk_column chunk) → Mismatches it (λ _. None) it.split place
mismatch_is it place column chunk m named given differs =
    let there : slot it.chunks place ≡ Some chunk = slot_is it.chunks place chunk given in
    record {
      here = refl;
      needed = m.spare place (ap is_none there);
      described = column;
      named = named;
      chunk = chunk_column chunk;
      there = rw there refl;
      differs = differs;
    }

-- ---- chunks that are there

-- each column with one of the names has its chunk
abbrev AreThere : List (List ℕ) → List ColumnDesc → List (Option Chunk) → Type 0
AreThere names [] chunks = Unit {0}
AreThere names (column ∷ columns) [] = ⊥
AreThere names (column ∷ columns) (chunk ∷ chunks) = (is_needed names column ≡ true → is_some chunk ≡ true) × AreThere names columns chunks

-- where none that is needed is missing
none_missing : (names : List (List ℕ)) (all : List (Option Chunk)) (n : ℕ) (columns : List ColumnDesc) (chunks : List (Option Chunk)) → drop n all ≡ chunks → length chunks ≡ length columns
    → list_any (is_missing all) (map (λ (x : ℕ × ColumnDesc). x.0) (filter (λ (x : ℕ × ColumnDesc). is_needed names x.1) (enumerate_from n columns))) ≡ false → AreThere names columns chunks
none_missing names all n [] chunks e long none = tt
none_missing names all n (column ∷ columns) [] e long none = absurd (cc)
none_missing names all n (column ∷ columns) (chunk ∷ chunks) e long none = by (is_needed names column) refl (none_missing names all (n + 1) columns chunks (next all n chunk chunks e) (omega (arith, long)))
  where
    next : (xs : List (Option Chunk)) (k : ℕ) (x : Option Chunk) (rest : List (Option Chunk)) → drop k xs ≡ x ∷ rest → drop (k + 1) xs ≡ rest
    next [] zero x rest f = absurd (cc)
    next [] (suc k) x rest f = absurd (cc)
    next (y ∷ xs) zero x rest f = cc
    next (y ∷ xs) (suc k) x rest f = let more : suc k + 1 ≡ suc (k + 1) = omega arith in rw more (next xs k x rest f)

    given : (o : Option Chunk) → is_none o ≡ false → is_some o ≡ true
    given None f = absurd (cc)
    given (Some some) f = refl

    here : (xs : List (Option Chunk)) (k : ℕ) (rest : List (Option Chunk)) → drop k xs ≡ chunk ∷ rest → is_missing xs k ≡ false → is_some chunk ≡ true
    here [] zero rest f m = absurd (cc)
    here [] (suc k) rest f m = absurd (cc)
    here (y ∷ xs) zero rest f m = let same : y ≡ chunk = cc in subst (λ (o : Option Chunk). is_some o ≡ true) same (given y m)
    here (y ∷ xs) (suc k) rest f m = here xs k rest f m

    by : (b : Bool) → is_needed names column ≡ b
        → (list_any (is_missing all) (map (λ (x : ℕ × ColumnDesc). x.0) (filter (λ (x : ℕ × ColumnDesc). is_needed names x.1) (enumerate_from (n + 1) columns))) ≡ false → AreThere names columns chunks) → AreThere names (column ∷ columns) (chunk ∷ chunks)
    by false f rest = ((λ yes. absurd (let no_way : true ≡ false = sym yes ∙ f in cc)), rest (rw f at none))
    by true f rest =
        let both : (is_missing all n || list_any (is_missing all) (map (λ (x : ℕ × ColumnDesc). x.0) (filter (λ (x : ℕ × ColumnDesc). is_needed names x.1) (enumerate_from (n + 1) columns)))) ≡ false = rw f at none in
        ((λ yes. here all n chunks e (grind (arith, both))), rest (grind (arith, both)))

-- then each known name among them has its chunk
pub there_is : (names : List (List ℕ)) (columns : List ColumnDesc) (chunks : List (Option Chunk)) (name : List ℕ) → AreThere names columns chunks
    → ((other : List ℕ) → bytes_eq other name ≡ true → list_any (bytes_eq other) names ≡ true) → is_some (dtype_of columns name) ≡ true → IsThere columns chunks name
there_is names [] chunks name there among known = absurd (cc)
there_is names (column ∷ columns) [] name there among known = absurd there
there_is names (column ∷ columns) (chunk ∷ chunks) name there among known = by (bytes_eq column.name name) refl (there_is names columns chunks name there.1 among)
  where
    by : (b : Bool) → bytes_eq column.name name ≡ b → (is_some (dtype_of columns name) ≡ true → IsThere columns chunks name) → IsThere (column ∷ columns) (chunk ∷ chunks) name
    by true f rest = rw f (there.0 (among column.name f))
    by false f rest = rw f (rest (rw f at known))

-- a name that stands in a list is among its names
among_at : (names : List (List ℕ)) (k : ℕ) (d other : List ℕ) → k < length names → bytes_eq other (get_or names k d) ≡ true → list_any (bytes_eq other) names ≡ true
among_at names k d other h e = list_any_at (bytes_eq other) names k d h e

-- a ready morsel lacks nothing
ready_has : (it : MorselState) (step : Phase) (needed : List ℕ) → is_ready step needed ≡ true → it.wanted.needed ≡ needed → (step ≡ phase.Ready → lacks it.wanted.needed it.chunks ≡ false) → lacks it.wanted.needed it.chunks ≡ false
ready_has it phase.Fresh [] ready same whole = rw same refl
ready_has it phase.Fresh (column ∷ needed) ready same whole = absurd (cc)
ready_has it phase.Asking needed ready same whole = absurd (cc)
ready_has it phase.Ready needed ready same whole = whole refl
ready_has it phase.Done needed ready same whole = absurd (cc)

-- so a ready morsel has the chunk of each name of the projection and of the filter
ready_there : (it : MorselState) → IsMorsel it → is_ready it.step it.wanted.needed ≡ true → All (IsThere it.wanted.columns it.chunks) (names_in it.wanted.columns it.wanted.projection it.wanted.filter)
ready_there it m ready k d h =
    let names : List (List ℕ) = names_in it.wanted.columns it.wanted.projection it.wanted.filter in
    let none : lacks (columns_named it.wanted.columns names) it.chunks ≡ false = subst (λ (needed : List ℕ). lacks needed it.chunks ≡ false) m.wanted.needed (ready_has it it.step it.wanted.needed ready refl m.whole) in
    let there : AreThere names it.wanted.columns it.chunks = none_missing names it.chunks 0 it.wanted.columns it.chunks refl m.long none in
    there_is names it.wanted.columns it.chunks (get_or names k d) there (λ other e. among_at names k d other h e) (m.wanted.known k d h)

all_left : {X : Type 0} (P : X → Type 0) (xs ys : List X) → All P (xs ++ ys) → All P xs
all_left P xs ys all k d h = let long = length-append xs ys in subst P (get_or_append_left xs ys d k h) (all k d (omega (arith, h, long)))

all_right : {X : Type 0} (P : X → Type 0) (xs ys : List X) → All P (xs ++ ys) → All P ys
all_right P xs ys all k d h = let long = length-append xs ys in subst P (get_or-append-add xs ys k d) (all (length xs + k) d (omega (arith, h, long)))

pub projected_there : (it : MorselState) → IsMorsel it → is_ready it.step it.wanted.needed ≡ true → All (IsThere it.wanted.columns it.chunks) (projected_names it.wanted.columns it.wanted.projection)
projected_there it m ready = all_left (IsThere it.wanted.columns it.chunks) (projected_names it.wanted.columns it.wanted.projection) (filter_names it.wanted.filter) (ready_there it m ready)

pub filtered_there : (it : MorselState) → IsMorsel it → is_ready it.step it.wanted.needed ≡ true → All (IsThere it.wanted.columns it.chunks) (filter_names it.wanted.filter)
filtered_there it m ready = all_right (IsThere it.wanted.columns it.chunks) (projected_names it.wanted.columns it.wanted.projection) (filter_names it.wanted.filter) (ready_there it m ready)
