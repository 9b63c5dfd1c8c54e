-- What a new planner owes is what L has of its partition.
use Rattle.std.proofs.Common.{◌≡◌, ◌∙◌, sym, ap, subst, refl, ℕ, zero, suc, ◌+◌, List, [], ◌∷◌, ◌++◌, Bool, true, false, length, map, drop, arith}
use Rattle.std.specs.Prelude.{Option, Some, None, filter, is_some, nat_lt, slice_get, unwrap_or}
use Rattle.std.specs.List.{AllByRecursion, enumerate_from, filter_map, list_any, range_with_len}
use Rattle.vortex_array_rows.specs.Kept.{kept_by}
use Rattle.vortex_array_types.specs.Cells.{cell_of, dtype_of}
use Rattle.vortex_array_types.specs.Row.{Column}
use Rattle.vortex_array_types.specs.Truth.{Cells, keeps}
use Rattle.vortex_array_types.specs.declared.column.ColumnDesc.{ColumnDesc}
use Rattle.vortex_array_types.specs.declared.types.DType.{DType}
use Rattle.vortex_scan_types.specs.declared.batch.WorkScope.{WorkScope}
use Rattle.vortex_scan_types.specs.declared.request.Projection.{Projection}
use Rattle.vortex_scan_types.specs.declared.request.ScanRequest.{ScanRequest}
use Rattle.vortex_table_chunks.specs.Kept.{kept_rows}
use Rattle.vortex_table_types.specs.Answers.{columns_of}
use Rattle.vortex_table_types.specs.Chosen.{Placed, is_chosen, is_partition_chosen, projected, projected_names, projected_types, rows_in}
use Rattle.vortex_table_types.specs.Table.{row_at}
use Rattle.std.proofs.lemmas.List.{length-map}
use Rattle.vortex_scan.specs.Owed.{Rows, under}
use Rattle.vortex_table_chunks.specs.ChunkOf.{chunk_column}
use Rattle.vortex_table_chunks.specs.declared.chunk.Chunk.{Chunk}
use Rattle.vortex_table_types.specs.Turn.{in_turn}
use Rattle.vortex_table_planner.specs.Owing.{entry_of}
use Rattle.vortex_table_types.proofs.Tiling.{placed_from}
use Rattle.vortex_table_planner.specs.Morsels.{if_any, named_column, no_chunks, rows_under, seen_from}
use Rattle.vortex_table_planner.specs.Planners.{is_picked}

-- ---- one split

-- what is kept of a split's rows is what is chosen of them
pub chosen_kept : (request : ScanRequest) (columns : List ColumnDesc) (contents : List Column) (p start i n : ℕ) → is_partition_chosen request p ≡ true
    → map (λ (x : Placed). cell_of columns x.values) (filter (is_chosen request columns) (placed_from p start (map (row_at contents) (range_with_len i n))))
    ≡ kept_rows request.filter (map (is_picked request.row_range request.selection) (range_with_len start n)) (map (λ j. cell_of columns (row_at contents j)) (range_with_len i n))
chosen_kept request columns contents p start i zero e = refl
chosen_kept request columns contents p start i (suc n) e =
    by (chosen_kept request columns contents p (start + 1) (i + 1) n e) (is_picked request.row_range request.selection start) refl (keeps request.filter (cell_of columns (row_at contents i))) refl
  where
    by : map (λ (x : Placed). cell_of columns x.values) (filter (is_chosen request columns) (placed_from p (start + 1) (map (row_at contents) (range_with_len (i + 1) n))))
        ≡ kept_rows request.filter (map (is_picked request.row_range request.selection) (range_with_len (start + 1) n)) (map (λ j. cell_of columns (row_at contents j)) (range_with_len (i + 1) n))
        → (b : Bool) → is_picked request.row_range request.selection start ≡ b → (k : Bool) → keeps request.filter (cell_of columns (row_at contents i)) ≡ k
        → map (λ (x : Placed). cell_of columns x.values) (filter (is_chosen request columns) (placed_from p start (map (row_at contents) (range_with_len i (suc n)))))
        ≡ kept_rows request.filter (map (is_picked request.row_range request.selection) (range_with_len start (suc n))) (map (λ j. cell_of columns (row_at contents j)) (range_with_len i (suc n)))
    by rest true f true g = rw (e, f, g) (ap (λ (cells : List Cells). cell_of columns (row_at contents i) ∷ cells) rest)
    by rest true f false g = rw (e, f, g) rest
    by rest false f k g = rw (e, f) rest

-- each known name has a type
abbrev pub AreKnown : List ColumnDesc → List (List ℕ) → Type 0
AreKnown columns names = AllByRecursion (λ name. is_some (dtype_of columns name) ≡ true) names

-- the value at a place of a list of values
value_at : {X Y : Type 0} (g : X → Option Y) (xs : List X) (k : ℕ) (x : X) (rest : List X) → drop k xs ≡ x ∷ rest → unwrap_or (slice_get (map g xs) k) None ≡ g x
value_at g [] zero x rest e = absurd (cc)
value_at g [] (suc k) x rest e = absurd (cc)
value_at g (y ∷ xs) zero x rest e = let same : y ≡ x = cc in rw same refl
value_at g (y ∷ xs) (suc k) x rest e = value_at g xs k x rest e

pub drop_next : {X : Type 0} (xs : List X) (k : ℕ) (x : X) (rest : List X) → drop k xs ≡ x ∷ rest → drop (k + 1) xs ≡ rest
drop_next [] zero x rest e = absurd (cc)
drop_next [] (suc k) x rest e = absurd (cc)
drop_next (y ∷ xs) zero x rest e = cc
drop_next (y ∷ xs) (suc k) x rest e = let next : suc k + 1 ≡ suc (k + 1) = omega arith in rw next (drop_next xs k x rest e)

-- a column of the projected values is a column of what stands under the name
column_same : (columns : List ColumnDesc) (projection : Projection) (dtype : DType) (k : ℕ) (name : List ℕ) (rest : List (List ℕ)) (xs : List Placed) → drop k (projected_names columns projection) ≡ name ∷ rest
    → map (λ (x : Placed). unwrap_or (slice_get x.values k) None) (map (projected columns projection) xs) ≡ map (λ (cells : Cells). cells name) (map (λ (x : Placed). cell_of columns x.values) xs)
column_same columns projection dtype k name rest [] e = refl
column_same columns projection dtype k name rest (x ∷ xs) e =
    rw (value_at (cell_of columns x.values) (projected_names columns projection) k name rest e) (ap (λ values. cell_of columns x.values name ∷ values) (column_same columns projection dtype k name rest xs e))

columns_same : (columns : List ColumnDesc) (projection : Projection) (k : ℕ) (names : List (List ℕ)) (xs : List Placed) → drop k (projected_names columns projection) ≡ names → AreKnown columns names
    → filter_map (named_column columns (map (λ (x : Placed). cell_of columns x.values) xs)) names
    ≡ map (λ (t : ℕ × DType). record { dtype = t.1; rows = map (λ (x : Placed). unwrap_or (slice_get x.values t.0) None) (map (projected columns projection) xs) }) (enumerate_from k (filter_map (dtype_of columns) names))
columns_same columns projection k [] xs e known = refl
columns_same columns projection k (name ∷ names) xs e known = by (columns_same columns projection (k + 1) names xs (drop_next (projected_names columns projection) k name names e) known.1) (dtype_of columns name) refl
  where
    by : filter_map (named_column columns (map (λ (x : Placed). cell_of columns x.values) xs)) names
        ≡ map (λ (t : ℕ × DType). record { dtype = t.1; rows = map (λ (x : Placed). unwrap_or (slice_get x.values t.0) None) (map (projected columns projection) xs) }) (enumerate_from (k + 1) (filter_map (dtype_of columns) names))
        → (t : Option DType) → dtype_of columns name ≡ t
        → filter_map (named_column columns (map (λ (x : Placed). cell_of columns x.values) xs)) (name ∷ names)
        ≡ map (λ (t : ℕ × DType). record { dtype = t.1; rows = map (λ (x : Placed). unwrap_or (slice_get x.values t.0) None) (map (projected columns projection) xs) }) (enumerate_from k (filter_map (dtype_of columns) (name ∷ names)))
    by later None f = absurd (let no : false ≡ true = rw f at known.0 in cc)
    by later (Some dtype) f =
        rw (f, column_same columns projection dtype k name names xs e)
        (ap (λ (rest : List Column). record { dtype = dtype; rows = map (λ (cells : Cells). cells name) (map (λ (x : Placed). cell_of columns x.values) xs) } ∷ rest) later)

-- the kept rows under the projected names are the chosen rows with their projected values
rows_same : (columns : List ColumnDesc) (projection : Projection) (xs : List Placed) → AreKnown columns (projected_names columns projection)
    → rows_under columns (projected_names columns projection) (map (λ (x : Placed). cell_of columns x.values) xs)
    ≡ record { count = length (map (projected columns projection) xs); columns = columns_of (projected_types columns projection) (map (projected columns projection) xs) }
rows_same columns projection xs known =
    let counts : length (map (λ (x : Placed). cell_of columns x.values) xs) ≡ length (map (projected columns projection) xs) = length-map xs (λ (x : Placed). cell_of columns x.values) ∙ sym (length-map xs (projected columns projection)) in
    rw (counts, columns_same columns projection 0 (projected_names columns projection) xs refl known) refl

-- ---- a partition

-- what has no bit is not kept
pub none_kept : {X : Type 0} (p : ℕ → Bool) (places : List ℕ) (xs : List X) → list_any p places ≡ false → kept_by (map p places) xs ≡ []
none_kept p [] xs e = refl
none_kept p (place ∷ places) [] e = refl
none_kept {X} p (place ∷ places) (x ∷ xs) e = by (p place) refl (none_kept p places xs)
  where
    by : (b : Bool) → p place ≡ b → (list_any p places ≡ false → kept_by (map p places) xs ≡ []) → kept_by (map p (place ∷ places)) (x ∷ xs) ≡ []
    by true f rest = absurd (let no : true ≡ false = rw f at e in cc)
    by false f rest = rw f (rest (rw f at e))

some_are : (n : ℕ) → nat_lt 0 (suc n) ≡ true
some_are n = grind arith

-- one split of L, as an entry if it has rows
pub turn_head : (columns : List ColumnDesc) (projection : Projection) (rows : List Placed) (scope : WorkScope) (scopes : List WorkScope) (xs : List Placed) → AreKnown columns (projected_names columns projection)
    → rows_in scope rows ≡ map (projected columns projection) xs
    → map entry_of (in_turn (projected_types columns projection) rows (scope ∷ scopes))
    ≡ under scope (if_any (map (λ (x : Placed). cell_of columns x.values) xs) (rows_under columns (projected_names columns projection) (map (λ (x : Placed). cell_of columns x.values) xs)))
    ++ map entry_of (in_turn (projected_types columns projection) rows scopes)
turn_head columns projection rows scope scopes [] known e = rw e refl
turn_head columns projection rows scope scopes (x ∷ xs) known e =
    let types : List DType = projected_types columns projection in
    let some : nat_lt 0 (length (rows_in scope rows)) ≡ true = ap (λ (part : List Placed). nat_lt 0 (length part)) e ∙ some_are (length (map (projected columns projection) xs)) in
    rw some
    (ap (λ (part : List Placed). record { scope = scope; rows = record { count = length part; columns = columns_of types part } } ∷ map entry_of (in_turn types rows scopes)) e
    ∙ ap (λ (given : Rows). record { scope = scope; rows = given } ∷ map entry_of (in_turn types rows scopes)) (sym (rows_same columns projection (x ∷ xs) known)))

-- a morsel without chunks sees the content's
pub seen_new : (columns : List ColumnDesc) (chunks : List Chunk) (stands : ℕ → Option Chunk) (n : ℕ) → ((j : ℕ) → stands (n + j) ≡ slice_get chunks j) → length chunks ≡ length columns
    → seen_from columns (no_chunks columns) stands n ≡ map chunk_column chunks
seen_new [] [] stands n at e = refl
seen_new [] (chunk ∷ chunks) stands n at e = absurd (cc)
seen_new (column ∷ columns) [] stands n at e = absurd (cc)
seen_new (column ∷ columns) (chunk ∷ chunks) stands n at e =
    let here : stands n ≡ Some chunk = subst (λ (i : ℕ). stands i ≡ Some chunk) (omega arith) (at 0) in
    rw here (ap (λ (rest : List Column). chunk_column chunk ∷ rest) (seen_new columns chunks stands (n + 1) (λ j. subst (λ (i : ℕ). stands i ≡ slice_get chunks j) (omega arith) (at (suc j))) (omega (arith, e))))

-- the list at a place
pub get_drop : {X : Type 0} (xs : List X) (k : ℕ) (x : X) (rest : List X) → drop k xs ≡ x ∷ rest → slice_get xs k ≡ Some x
get_drop [] zero x rest e = absurd (cc)
get_drop [] (suc k) x rest e = absurd (cc)
get_drop (y ∷ xs) zero x rest e = let same : y ≡ x = cc in rw same refl
get_drop (y ∷ xs) (suc k) x rest e = get_drop xs k x rest e
