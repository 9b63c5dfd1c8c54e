-- What a new planner owes over a content that fits is what L has of its partition.
use Rattle.std.proofs.Common.{◌≡◌, ◌∙◌, sym, ap, refl, ℕ, ◌+◌, ◌-◌, List, [], ◌∷◌, ◌++◌, Bool, true, false, length, map, drop, arith}
use Rattle.std.specs.Prelude.{◌&&◌, Option, filter, flat_map, slice_get}
use Rattle.std.specs.List.{AllByRecursion, AllZip, list_any, range_with_len}
use Rattle.std.specs.Option.{option_and_then}
use Rattle.std.proofs.lemmas.List.FromFn.{length-map-range_with_len}
use Rattle.vortex_array_types.specs.Cells.{cell_of}
use Rattle.vortex_array_types.specs.Row.{Column}
use Rattle.vortex_array_types.specs.Truth.{Cells, keeps}
use Rattle.vortex_array_types.specs.declared.column.ColumnDesc.{ColumnDesc}
use Rattle.vortex_io.specs.Source.{Content, chunk_at}
use Rattle.vortex_scan.specs.Owed.{Entry, under}
use Rattle.vortex_scan_types.specs.Members.{in_selection, in_some_range, places_of}
use Rattle.vortex_scan_types.specs.declared.batch.WorkScope.{WorkScope}
use Rattle.vortex_scan_types.specs.declared.request.ScanRequest.{ScanRequest}
use Rattle.vortex_table_chunks.specs.ChunkOf.{chunk_column, content_of}
use Rattle.vortex_table_chunks.specs.Kept.{kept_rows, rows_of}
use Rattle.vortex_table_chunks.specs.declared.chunk.Chunk.{Chunk}
use Rattle.vortex_table_types.specs.Chosen.{Placed, is_chosen, is_partition_chosen, projected, projected_names, projected_types, rows_in}
use Rattle.vortex_table_types.specs.Table.{row_at, split_rows, split_scopes}
use Rattle.vortex_table_types.specs.Turn.{in_turn}
use Rattle.vortex_table_types.specs.declared.describe.PartitionDesc.{PartitionDesc}
use Rattle.vortex_table_types.specs.declared.describe.SplitDesc.{SplitDesc}
use Rattle.vortex_table_types.proofs.Tiling.{placed_from, placed_parts}
use Rattle.vortex_table_planner.specs.Live.{is_live, numbered}
use Rattle.vortex_table_planner.specs.Morsels.{if_any, kept_of, morsel_owed, rows_under, seen_columns}
use Rattle.vortex_table_planner.specs.Owing.{entry_of}
use Rattle.vortex_table_planner.specs.Planners.{PlannerState, is_picked, morsel_for, new_planner, picked_bits}
use Rattle.vortex_table_planner.specs.declared.live.LiveSplit.{LiveSplit}
use Rattle.vortex_table_planner.proofs.Tied.{AreKnown, chosen_kept, get_drop, drop_next, none_kept, seen_new, turn_head}

-- the cells of rows
abbrev cells_in : List ColumnDesc → List Placed → List Cells
cells_in columns xs = map (λ (x : Placed). cell_of columns x.values) xs

-- what a morsel keeps of a split over these columns is what is chosen of its rows
kept_is : (request : ScanRequest) (columns : List ColumnDesc) (contents : List Column) (p start n : ℕ) → is_partition_chosen request p ≡ true
    → kept_rows request.filter (picked_bits request.row_range request.selection (record { start = start; end = start + n })) (rows_of columns contents (length (picked_bits request.row_range request.selection (record { start = start; end = start + n }))))
    ≡ cells_in columns (filter (is_chosen request columns) (placed_from p start (map (row_at contents) (range_with_len 0 n))))
kept_is request columns contents p start n chosen =
    let picked : ℕ → Bool = is_picked request.row_range request.selection in
    let places : start + n - start ≡ n = omega arith in
    ap (λ (m : ℕ). kept_rows request.filter (map picked (range_with_len start m)) (rows_of columns contents (length (map picked (range_with_len start m))))) places
    ∙ ap (λ (m : ℕ). kept_rows request.filter (map picked (range_with_len start n)) (rows_of columns contents m)) (length-map-range_with_len picked start n)
    ∙ sym (chosen_kept request columns contents p start 0 n chosen)

-- a first element that is kept, or would give nothing
first_of : (f : LiveSplit → List Entry) (test : LiveSplit → Bool) (live : LiveSplit) (rest : List LiveSplit) (first later : List Entry) → (test live ≡ false → first ≡ []) → f live ≡ first
    → flat_map f (filter test rest) ≡ later → flat_map f (filter test (live ∷ rest)) ≡ first ++ later
first_of f test live rest first later none here after = by (test live) refl
  where
    by : (b : Bool) → test live ≡ b → flat_map f (filter test (live ∷ rest)) ≡ first ++ later
    by true e = rw (e, here, after) refl
    by false e = rw (e, none e) after

-- what is owed by the morsels of these splits
abbrev owed_by : PlannerState → Content Chunk → List LiveSplit → List Entry
owed_by it content splits = flat_map (λ (live : LiveSplit). under live.scope (morsel_owed (morsel_for it live) content)) splits

module _ (columns : List ColumnDesc) (p : ℕ) (partition : PartitionDesc) (request : ScanRequest) (content : Content Chunk) (rows : List Placed) (known : AreKnown columns (projected_names columns request.projection))
    (chosen : is_partition_chosen request p ≡ true) where
  -- L in a split, and what is chosen of the split's part
  abbrev IsPart : WorkScope → List Placed → Type 0
  IsPart scope part = rows_in scope rows ≡ map (projected columns request.projection) (filter (is_chosen request columns) part)

  live_is : (scope : WorkScope) → scope.file_ordinal ≡ p → is_live request scope ≡ list_any (is_picked request.row_range request.selection) (places_of scope.rows)
  live_is scope e =
      ap (λ (b : Bool). list_any (λ row. b && in_some_range request.row_range row && in_selection request.selection row) (places_of scope.rows)) (ap (is_partition_chosen request) e ∙ chosen)

  pub splits_owed : (k start : ℕ) (splits : List SplitDesc) (rest : Content Chunk) → drop k content ≡ rest → AllByRecursion (λ (chunks : List Chunk). length chunks ≡ length columns) rest
      → AllZip IsPart (split_scopes p start splits) (placed_parts p start splits (content_of rest)) → length rest ≡ length splits
      → owed_by (new_planner columns p partition request) content (filter (λ (live : LiveSplit). is_live request live.scope) (numbered k (split_scopes p start splits)))
      ≡ map entry_of (in_turn (projected_types columns request.projection) rows (split_scopes p start splits))
  splits_owed k start [] [] e wide r long = refl
  splits_owed k start [] (chunks ∷ rest) e wide r long = absurd (cc)
  splits_owed k start (split ∷ splits) [] e wide r long = absurd (cc)
  splits_owed k start (split ∷ splits) (chunks ∷ rest) e wide r long =
      let it : PlannerState = new_planner columns p partition request in
      let scope : WorkScope = record { file_ordinal = p; rows = record { start = start; end = start + split.rows } } in
      let live : LiveSplit = record { split = k; scope = scope } in
      let xs : List Placed = filter (is_chosen request columns) (placed_from p start (split_rows split (map chunk_column chunks))) in
      let held : (j : ℕ) → chunk_at content k (0 + j) ≡ slice_get chunks j =
      λ j. let same : 0 + j ≡ j = omega arith in
      ap (λ (i : ℕ). chunk_at content k i) same ∙ ap (λ (found : Option (List Chunk)). option_and_then (λ (columns : List Chunk). slice_get columns j) found) (get_drop content k chunks rest e) in
      let sees : seen_columns (morsel_for it live) content ≡ map chunk_column chunks = seen_new columns chunks (chunk_at content k) 0 held wide.0 in
      let kept : kept_of it.wanted (picked_bits request.row_range request.selection scope.rows) (seen_columns (morsel_for it live) content) ≡ cells_in columns xs =
      ap (λ (contents : List Column). kept_of it.wanted (picked_bits request.row_range request.selection scope.rows) contents) sees ∙ kept_is request columns (map chunk_column chunks) p start split.rows chosen in
      let head : under scope (morsel_owed (morsel_for it live) content) ≡ under scope (if_any (cells_in columns xs) (rows_under columns (projected_names columns request.projection) (cells_in columns xs))) =
      ap (λ (cells : List Cells). under scope (if_any cells (rows_under columns (projected_names columns request.projection) cells))) kept in
      let later : owed_by it content (filter (λ (other : LiveSplit). is_live request other.scope) (numbered (k + 1) (split_scopes p (start + split.rows) splits))) ≡ map entry_of (in_turn (projected_types columns request.projection) rows (split_scopes p (start + split.rows) splits)) =
      splits_owed (k + 1) (start + split.rows) splits rest (drop_next content k chunks rest e) wide.1 r.1 (omega (arith, long)) in
      let first : List Entry = under scope (if_any (cells_in columns xs) (rows_under columns (projected_names columns request.projection) (cells_in columns xs))) in
      let none : is_live request scope ≡ false → first ≡ [] =
      λ dead.
      let unpicked : list_any (is_picked request.row_range request.selection) (places_of scope.rows) ≡ false = sym (live_is scope refl) ∙ dead in
      let bits : List Bool = picked_bits request.row_range request.selection scope.rows in
      let cells : List Cells = rows_of columns (map chunk_column chunks) (length bits) in
      let empty : cells_in columns xs ≡ [] =
      sym (kept_is request columns (map chunk_column chunks) p start split.rows chosen) ∙ ap (λ (kept : List Cells). filter (keeps request.filter) kept) (none_kept (is_picked request.row_range request.selection) (places_of scope.rows) cells unpicked) in
      ap (λ (kept : List Cells). under scope (if_any kept (rows_under columns (projected_names columns request.projection) kept))) empty in
      first_of (λ (other : LiveSplit). under other.scope (morsel_owed (morsel_for it other) content)) (λ (other : LiveSplit). is_live request other.scope) live (numbered (k + 1) (split_scopes p (start + split.rows) splits)) first
      (map entry_of (in_turn (projected_types columns request.projection) rows (split_scopes p (start + split.rows) splits))) none head later
      ∙ sym (turn_head columns request.projection rows scope (split_scopes p (start + split.rows) splits) xs known r.0)

-- where the partition is not chosen, none of its splits is live, and L has no row of it
pub none_live : (request : ScanRequest) (p : ℕ) (scope : WorkScope) → scope.file_ordinal ≡ p → is_partition_chosen request p ≡ false → is_live request scope ≡ false
none_live request p scope e out =
    ap (λ (b : Bool). list_any (λ row. b && in_some_range request.row_range row && in_selection request.selection row) (places_of scope.rows)) (ap (is_partition_chosen request) e ∙ out) ∙ never (places_of scope.rows)
  where
    never : {X : Type 0} (xs : List X) → list_any (λ _. false) xs ≡ false
    never [] = refl
    never (x ∷ xs) = never xs
