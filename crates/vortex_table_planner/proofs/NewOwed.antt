-- What a new planner owes over a content that fits its partition is what L has of the partition.
use Rattle.std.proofs.Common.{◌≡◌, ◌∙◌, sym, ap, refl, ℕ, ◌+◌, List, [], ◌∷◌, ◌++◌, Bool, true, false, length, map}
use Rattle.std.specs.Prelude.{◌&&◌, None, filter, is_some, not}
use Rattle.std.specs.List.{AllByRecursion, AllZip}
use Rattle.std.proofs.lemmas.List.{length-map}
use Rattle.vortex_array_types.specs.Cells.{Row, cell_of, dtype_of}
use Rattle.vortex_array_types.specs.Truth.{keeps}
use Rattle.vortex_array_types.specs.Typed.{filter_names}
use Rattle.vortex_array_types.specs.declared.column.ColumnDesc.{ColumnDesc}
use Rattle.vortex_array_types.specs.declared.types.DType.{DType}
use Rattle.vortex_io.specs.Source.{Content}
use Rattle.vortex_scan_types.specs.Members.{in_selection, in_some_range}
use Rattle.vortex_scan_types.specs.Valid.{first_unknown, projection_names}
use Rattle.vortex_scan_types.specs.declared.batch.WorkScope.{WorkScope}
use Rattle.vortex_scan_types.specs.declared.request.ScanRequest.{ScanRequest}
use Rattle.vortex_table_chunks.specs.ChunkOf.{chunk_column, content_of}
use Rattle.vortex_table_chunks.specs.declared.chunk.Chunk.{Chunk}
use Rattle.vortex_table_types.specs.Chosen.{Placed, is_chosen, is_partition_chosen, projected, projected_names, projected_types, rows_in}
use Rattle.vortex_table_types.specs.Described.{AllFit, FitsColumns, IsChunkOf}
use Rattle.vortex_table_types.specs.Table.{FitsChunk, FitsPartition, partition_rows, split_scopes}
use Rattle.vortex_table_types.specs.Turn.{in_turn}
use Rattle.vortex_table_types.specs.declared.describe.PartitionDesc.{PartitionDesc}
use Rattle.vortex_table_types.specs.declared.describe.SplitDesc.{SplitDesc}
use Rattle.vortex_table_types.proofs.Joined.{IsKnown, is_known, names_known, none_found}
use Rattle.vortex_table_types.proofs.Rising.{Each, each_more}
use Rattle.vortex_table_types.proofs.Tiling.{partition_parts, placed_from, placed_parts, rows_in_chosen}
use Rattle.vortex_table_types.proofs.Whole.{all_each}
use Rattle.vortex_table_types.proofs.Zipped.{zipped-long}
use Rattle.vortex_table_planner.specs.Live.{is_live, numbered}
use Rattle.vortex_table_planner.specs.Owing.{partition_chosen, partition_owed}
use Rattle.vortex_table_planner.specs.Planners.{new_planner, planner_owed}
use Rattle.vortex_table_planner.specs.declared.live.LiveSplit.{LiveSplit}
use Rattle.vortex_table_planner.proofs.Parted.{none_live, splits_owed}
use Rattle.vortex_table_planner.proofs.Tied.{AreKnown}

each_by : {X : Type 0} (P : X → Type 0) (xs : List X) → Each P xs → AllByRecursion P xs
each_by P [] e = tt
each_by P (x ∷ xs) e = (e.0, each_by P xs e.1)

each_left : {X : Type 0} (P : X → Type 0) (xs ys : List X) → Each P (xs ++ ys) → Each P xs
each_left P [] ys e = tt
each_left P (x ∷ xs) ys e = (e.0, each_left P xs ys e.1)

zip_each : {A B : Type 0} (R S : A → B → Type 0) → ((x : A) (y : B) → R x y → S x y) → (xs : List A) (ys : List B) → AllZip R xs ys → AllZip S xs ys
zip_each R S f [] [] r = tt
zip_each R S f [] (y ∷ ys) r = r
zip_each R S f (x ∷ xs) [] r = r
zip_each R S f (x ∷ xs) (y ∷ ys) r = (f x y r.0, zip_each R S f xs ys r.1)

-- each split's chunks are as many as the columns
wide : (columns : List ColumnDesc) (splits : List SplitDesc) (content : Content Chunk) → Each (FitsColumns columns) splits → AllZip (λ split chunks. AllZip FitsChunk split.chunks chunks) splits (content_of content)
    → AllByRecursion (λ (chunks : List Chunk). length chunks ≡ length columns) content
wide columns [] [] e r = tt
wide columns [] (chunks ∷ content) e r = absurd r
wide columns (split ∷ splits) [] e r = absurd r
wide columns (split ∷ splits) (chunks ∷ content) e r =
    (sym (zipped-long (IsChunkOf split) columns split.chunks e.0 ∙ zipped-long FitsChunk split.chunks (map chunk_column chunks) r.0 ∙ length-map chunks chunk_column), wide columns splits content e.1 r.1)

-- the projected names are known
names_of_columns : (columns : List ColumnDesc) (request : ScanRequest) → first_unknown columns request ≡ None → AreKnown columns (projected_names columns request.projection)
names_of_columns columns request none =
    let test : List ℕ → Bool = λ name. not (is_some (dtype_of columns name)) in
    let listed : List (List ℕ) = projection_names request.projection in
    each_by (IsKnown columns) (projected_names columns request.projection)
    (names_known columns request.projection
    (each_more (λ n. test n ≡ false) (IsKnown columns) (λ n e. is_known (dtype_of columns n) e) listed
    (each_left (λ n. test n ≡ false) listed (filter_names request.filter) (none_found test (listed ++ filter_names request.filter) none))))

-- ---- a partition that is not chosen

pub dead : (request : ScanRequest) (p k start : ℕ) (splits : List SplitDesc) → is_partition_chosen request p ≡ false → filter (λ (live : LiveSplit). is_live request live.scope) (numbered k (split_scopes p start splits)) ≡ []
dead request p k start [] e = refl
dead request p k start (split ∷ splits) e =
    rw (none_live request p (record { file_ordinal = p; rows = record { start = start; end = start + split.rows } }) refl e) (dead request p (k + 1) (start + split.rows) splits e)

unchosen : (request : ScanRequest) (columns : List ColumnDesc) (p n : ℕ) (rows : List Row) → is_partition_chosen request p ≡ false → filter (is_chosen request columns) (placed_from p n rows) ≡ []
unchosen request columns p n [] e = refl
unchosen request columns p n (row ∷ rows) e =
    let no_row : is_chosen request columns (record { partition = p; row = n; values = row }) ≡ false =
    ap (λ (b : Bool). (b && in_some_range request.row_range n && in_selection request.selection n) && keeps request.filter (cell_of columns row)) e in
    rw no_row (unchosen request columns p (n + 1) rows e)

none_in_turn : (types : List DType) (scopes : List WorkScope) → in_turn types [] scopes ≡ []
none_in_turn types [] = refl
none_in_turn types (scope ∷ scopes) = none_in_turn types scopes

-- ---- both

pub new_owed : (columns : List ColumnDesc) (p : ℕ) (partition : PartitionDesc) (request : ScanRequest) (content : Content Chunk) → AllFit columns partition → first_unknown columns request ≡ None → FitsPartition partition (content_of content)
    → planner_owed (new_planner columns p partition request) content ≡ partition_owed columns p partition request (content_of content)
new_owed columns p partition request content fit known fits = by (is_partition_chosen request p) refl
  where
    length-content : length partition.splits ≡ length (content_of content) → length content ≡ length partition.splits
    length-content e = sym (e ∙ length-map content (map chunk_column))

    by : (b : Bool) → is_partition_chosen request p ≡ b → planner_owed (new_planner columns p partition request) content ≡ partition_owed columns p partition request (content_of content)
    by true e =
        let rows : List Placed = partition_chosen columns p partition request (content_of content) in
        let all : List Placed = placed_from p 0 (partition_rows partition (content_of content)) in
        splits_owed columns p partition request content rows (names_of_columns columns request known) e 0 0 partition.splits content refl
        (wide columns partition.splits content (all_each (FitsColumns columns) partition.splits fit) fits)
        (zip_each (λ scope part. rows_in scope all ≡ part) (λ scope part. rows_in scope rows ≡ map (projected columns request.projection) (filter (is_chosen request columns) part))
        (λ scope part same. rows_in_chosen request columns request.projection scope all ∙ ap (λ (some : List Placed). map (projected columns request.projection) (filter (is_chosen request columns) some)) same)
        (split_scopes p 0 partition.splits) (placed_parts p 0 partition.splits (content_of content)) (partition_parts p partition (content_of content) fits))
        (length-content (zipped-long _ partition.splits (content_of content) fits))
    by false e =
        rw (dead request p 0 0 partition.splits e, unchosen request columns p 0 (partition_rows partition (content_of content)) e, none_in_turn (projected_types columns request.projection) (split_scopes p 0 partition.splits)) refl
