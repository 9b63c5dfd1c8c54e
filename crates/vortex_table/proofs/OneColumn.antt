-- A table of one column of whole numbers, and requests without limits: the kept numbers of each split are the batches in turn.
use Rattle.std.proofs.Common.{◌≡◌, ◌∙◌, sym, ap, subst, refl, ℕ, zero, suc, ◌+◌, ◌<◌, ◌&&◌, List, [], ◌∷◌, ◌++◌, Bool, true, false, cond, length, map, arith, append-nil}
use Rattle.std.specs.Prelude.{All, Option, Some, None, is_none, option_map, filter, nat_lt, slice_get, slice_index_or, unwrap_or}
use Rattle.std.specs.List.{AllZip, cons_option, range_with_len}
use Rattle.std.specs.Str.{bytes_eq}
use Rattle.std.proofs.lemmas.List.{length-map}
use Rattle.std.proofs.lemmas.Slice.Eq.{bytes_eq-Decides}
use Rattle.vortex_array_types.specs.Cells.{Row, cell_of}
use Rattle.vortex_array_types.specs.Truth.{keeps}
use Rattle.vortex_array_types.specs.declared.types.PType.TheVariants as width
use Rattle.vortex_array_types.specs.declared.types.Nullability.TheVariants as nullability
use Rattle.vortex_array_types.specs.declared.types.DType.{DType}
use Rattle.vortex_array_types.specs.declared.types.DType.TheVariants as dtype
use Rattle.vortex_array_types.specs.declared.column.ColumnDesc.{ColumnDesc}
use Rattle.vortex_io.specs.declared.request.IoTarget.TheVariants as target
use Rattle.vortex_table.specs.declared.built.Comparison.{Comparison}
use Rattle.vortex_table.specs.declared.chunk.Chunk.{Chunk}
use Rattle.vortex_table_types.specs.declared.describe.ChunkDesc.{ChunkDesc}
use Rattle.vortex_table_types.specs.declared.describe.SplitDesc.{SplitDesc}
use Rattle.vortex_table_types.specs.declared.describe.PartitionDesc.{PartitionDesc}
use Rattle.vortex_scan_types.specs.declared.batch.WorkScope.{WorkScope}
use Rattle.vortex_scan_types.specs.declared.request.Projection.{Projection}
use Rattle.vortex_scan_types.specs.declared.request.Projection.TheVariants.{All as AllColumns, Columns}
use Rattle.vortex_scan_types.specs.declared.request.ScanRequest.{ScanRequest}
use Rattle.vortex_scan_types.specs.declared.selection.Selection.{Selection}
use Rattle.vortex_scan_types.specs.declared.selection.Selection.TheVariants.{All as AllPlaces, IncludeByIndex, ExcludeByIndex}
use Rattle.vortex_table_types.specs.Answers.{Answers, Given, asked, columns_of}
use Rattle.vortex_table.specs.Built.{is_one_u64, is_u64, is_unlimited, is_whole, selects_all, u64_type}
use Rattle.vortex_table_types.specs.Chosen.{Placed, chosen, is_chosen, is_selected, projected, projected_types, rows_in}
use Rattle.vortex_table.specs.ChunkOf.{chunk_column, content_of}
use Rattle.vortex_table_types.specs.Described.{FitsColumns, IsChunkOf}
use Rattle.vortex_table.specs.Kept.{passes}
use Rattle.vortex_scan_types.specs.Members.{in_selection, in_some_range}
use Rattle.vortex_table.specs.Scanning.{HasNumbers, batch_if, chunk_numbers, column_at, kept_batches, scope_at, split_numbers, u64_column, u64_row}
use Rattle.vortex_table_types.specs.Table.{FitsChunk, FitsPartition, decoded, row_at, scopes_from, split_rows, split_scopes}
use Rattle.vortex_table_types.specs.Turn.{given_of, in_turn}
use Rattle.vortex_table.proofs.ReadBack.{column_fits}
use Rattle.vortex_table_types.proofs.Rising.{Each}
use Rattle.vortex_table_types.proofs.Whole.{all_each}
use Rattle.vortex_table_types.proofs.Tiling.{chosen_parts, placed_from, placed_parts}
use Rattle.vortex_table_types.proofs.Turning.{in_turn_answers}

-- ---- requests without limits

-- nothing is left out: all columns, all partitions, all rows
pub record Unlimited (request : ScanRequest) : Type 0 where
  pub projection : request.projection ≡ AllColumns
  pub row_range : request.row_range ≡ None
  pub partition_range : request.partition_range ≡ None
  pub selection : request.selection ≡ AllPlaces
  pub partition_selection : request.partition_selection ≡ AllPlaces
  pub limit : request.limit ≡ None

-- both of two tests that hold together hold
both_true : (a b : Bool) → a && b ≡ true → (a ≡ true) × (b ≡ true)
both_true true true e = (refl, refl)
both_true true false e = cc
both_true false b e = cc

-- two tests that hold, hold together
all_true : (a b : Bool) → a ≡ true → b ≡ true → a && b ≡ true
all_true true true e f = refl
all_true true false e f = f
all_true false b e f = e

-- what is absent is not there
absent : {X : Type 0} (o : Option X) → is_none o ≡ true → o ≡ None
absent None e = refl
absent (Some x) e = cc

-- a projection to all columns
whole : (p : Projection) → is_whole p ≡ true → p ≡ AllColumns
whole AllColumns e = refl
whole (Columns names) e = cc

-- a selection of all places
all_selected : (s : Selection) → selects_all s ≡ true → s ≡ AllPlaces
all_selected AllPlaces e = refl
all_selected (IncludeByIndex listed) e = cc
all_selected (ExcludeByIndex listed) e = cc

-- a request that passes the test leaves nothing out
pub unlimited : (request : ScanRequest) → is_unlimited request ≡ true → Unlimited request
unlimited request e =
    let a : (is_whole request.projection && is_none request.row_range && is_none request.partition_range && selects_all request.selection && selects_all request.partition_selection ≡ true) × (is_none request.limit ≡ true) = both_true _ _ e in
    let b : (is_whole request.projection && is_none request.row_range && is_none request.partition_range && selects_all request.selection ≡ true) × (selects_all request.partition_selection ≡ true) = both_true _ _ a.0 in
    let c : (is_whole request.projection && is_none request.row_range && is_none request.partition_range ≡ true) × (selects_all request.selection ≡ true) = both_true _ _ b.0 in
    let d : (is_whole request.projection && is_none request.row_range ≡ true) × (is_none request.partition_range ≡ true) = both_true _ _ c.0 in
    let f : (is_whole request.projection ≡ true) × (is_none request.row_range ≡ true) = both_true _ _ d.0 in
    record {
      projection = whole request.projection f.0;
      row_range = absent request.row_range f.1;
      partition_range = absent request.partition_range d.1;
      selection = all_selected request.selection c.1;
      partition_selection = all_selected request.partition_selection b.1;
      limit = absent request.limit a.1;
    }

-- so every row is selected
pub all_rows_selected : (request : ScanRequest) → is_unlimited request ≡ true → (partition row : ℕ) → is_selected request partition row ≡ true
all_rows_selected request e partition row =
    let u : Unlimited request = unlimited request e in
    all_true _ _ (all_true _ _ (all_true _ _ (ap (λ s. in_selection s partition) u.partition_selection) (ap (λ r. in_some_range r partition) u.partition_range)) (ap (λ r. in_some_range r row) u.row_range))
    (ap (λ s. in_selection s row) u.selection)

-- ---- chunks of numbers

-- the type that the test finds
type_u64 : (t : DType) → is_u64 t ≡ true → t ≡ u64_type
type_u64 (dtype.Primitive width.U64 nullability.NonNullable) e = refl
type_u64 t e = cc

-- a split of one chunk, of numbers, one for each row
record IsOfNumbers (split : SplitDesc) (chunks : List Chunk) : Type 0 where
  first : option_map chunk_column (slice_get chunks 0) ≡ Some (u64_column (split_numbers chunks))
  only : map chunk_column chunks ≡ u64_column (split_numbers chunks) ∷ []
  counted : length (split_numbers chunks) ≡ split.rows

-- a chunk that fits a description of that type and of the split's rows
one_chunk : (column : ColumnDesc) (split : SplitDesc) (described : ChunkDesc) (chunk : Chunk) → is_u64 column.dtype ≡ true → IsChunkOf split column described → FitsChunk described (chunk_column chunk) → IsOfNumbers split (chunk ∷ [])
one_chunk column split described chunk one made fits =
    let same : chunk_column chunk ≡ u64_column (chunk_numbers chunk) = column_fits (chunk_column chunk) (fits.dtype ∙ made.dtype ∙ type_u64 column.dtype one) fits.fits in
    let long : length (chunk_numbers chunk) ≡ split.rows = sym (length-map (chunk_numbers chunk) u64_row) ∙ sym (ap (λ c. length c.rows) same) ∙ fits.rows ∙ made.rows in
    record { first = ap (λ c. Some c) same; only = ap (λ c. c ∷ []) same; counted = long }

-- chunks that fit a split of a table of one such column
split_of_numbers : (columns : List ColumnDesc) (split : SplitDesc) (described : List ChunkDesc) (chunks : List Chunk) → is_one_u64 columns ≡ true
    → AllZip (IsChunkOf split) columns described → AllZip FitsChunk described (map chunk_column chunks) → IsOfNumbers split chunks
split_of_numbers [] split described chunks one made fits = cc
split_of_numbers (column ∷ next ∷ columns) split described chunks one made fits = cc
split_of_numbers (column ∷ []) split [] chunks one made fits = absurd made
split_of_numbers (column ∷ []) split (d ∷ e ∷ described) chunks one made fits = absurd made.1
split_of_numbers (column ∷ []) split (d ∷ []) [] one made fits = absurd fits
split_of_numbers (column ∷ []) split (d ∷ []) (chunk ∷ next ∷ chunks) one made fits = absurd fits.1
split_of_numbers (column ∷ []) split (d ∷ []) (chunk ∷ []) one made fits = one_chunk column split d chunk one made.0 fits.0

-- and so with each split
splits_of_numbers : (columns : List ColumnDesc) (splits : List SplitDesc) (chunks : List (List Chunk)) → is_one_u64 columns ≡ true
    → Each (FitsColumns columns) splits → AllZip (λ split cs. AllZip FitsChunk split.chunks cs) splits (content_of chunks) → AllZip IsOfNumbers splits chunks
splits_of_numbers columns [] [] one made fits = tt
splits_of_numbers columns [] (cs ∷ chunks) one made fits = absurd fits
splits_of_numbers columns (split ∷ splits) [] one made fits = absurd fits
splits_of_numbers columns (split ∷ splits) (cs ∷ chunks) one made fits = (split_of_numbers columns split split.chunks cs one made.0 fits.0, splits_of_numbers columns splits chunks one made.1 fits.1)

-- each split has its numbers
long_of : (splits : List SplitDesc) (chunks : List (List Chunk)) → AllZip IsOfNumbers splits chunks → length (map split_numbers chunks) ≡ length splits
long_of [] [] z = refl
long_of [] (cs ∷ chunks) z = absurd z
long_of (split ∷ splits) [] z = absurd z
long_of (split ∷ splits) (cs ∷ chunks) z = ap suc (long_of splits chunks z.1)

-- its chunk is the column of them
held_of : (splits : List SplitDesc) (chunks : List (List Chunk)) → AllZip IsOfNumbers splits chunks → (k : ℕ) (ns : List ℕ) → k < length splits
    → column_at chunks (target.Chunk k 0) ≡ Some (u64_column (slice_index_or (map split_numbers chunks) k ns))
held_of [] chunks z k ns h = absurd (omega (arith, h))
held_of (split ∷ splits) [] z k ns h = absurd z
held_of (split ∷ splits) (cs ∷ chunks) z zero ns h = z.0.first
held_of (split ∷ splits) (cs ∷ chunks) z (suc k) ns h = held_of splits chunks z.1 k ns (omega (arith, h))

-- and it has as many as rows
counted_of : (splits : List SplitDesc) (chunks : List (List Chunk)) → AllZip IsOfNumbers splits chunks → (k : ℕ) (ns : List ℕ) (split : SplitDesc) → k < length splits
    → length (slice_index_or (map split_numbers chunks) k ns) ≡ (slice_index_or splits k split).rows
counted_of [] chunks z k ns d h = absurd (omega (arith, h))
counted_of (split ∷ splits) [] z k ns d h = absurd z
counted_of (split ∷ splits) (cs ∷ chunks) z zero ns d h = z.0.counted
counted_of (split ∷ splits) (cs ∷ chunks) z (suc k) ns d h = counted_of splits chunks z.1 k ns d (omega (arith, h))

-- chunks that fit a partition of one such column have the numbers of its splits
pub numbers_held : (columns : List ColumnDesc) (partition : PartitionDesc) (chunks : List (List Chunk)) → is_one_u64 columns ≡ true
    → All (FitsColumns columns) partition.splits → FitsPartition partition (content_of chunks) → HasNumbers chunks partition.splits (map split_numbers chunks)
numbers_held columns partition chunks one made fits =
    let z : AllZip IsOfNumbers partition.splits chunks = splits_of_numbers columns partition.splits chunks one (all_each (FitsColumns columns) partition.splits made) fits in
    record { long = long_of partition.splits chunks z; held = held_of partition.splits chunks z; counted = counted_of partition.splits chunks z }

-- ---- the rows of a split

-- a number as the one value of a row
abbrev one_value : ℕ → Row
one_value n = u64_row n ∷ []

-- a function of numbers that begin one later
range_shift : {Y : Type 0} (f g : ℕ → Y) → ((i : ℕ) → f (suc i) ≡ g i) → (n m : ℕ) → map f (range_with_len (n + 1) m) ≡ map g (range_with_len n m)
range_shift f g e n zero = refl
range_shift f g e n (suc m) = let s : n + 1 ≡ suc n = omega arith in ap (λ y. y ∷ map f (range_with_len (n + 1 + 1) m)) (ap f s ∙ e n) ∙ ap (λ r. g n ∷ r) (range_shift f g e (n + 1) m)

-- read row by row, a column of numbers gives them
rows_read : (numbers : List ℕ) → map (row_at (u64_column numbers ∷ [])) (range_with_len 0 (length numbers)) ≡ map one_value numbers
rows_read [] = refl
rows_read (n ∷ numbers) =
    ap (λ r. one_value n ∷ r) (range_shift (row_at (u64_column (n ∷ numbers) ∷ [])) (row_at (u64_column numbers ∷ [])) (λ i. refl) 0 (length numbers) ∙ rows_read numbers)

-- so the rows of a split are its numbers
rows_of_numbers : (split : SplitDesc) (chunks : List Chunk) → IsOfNumbers split chunks → split_rows split (map chunk_column chunks) ≡ map one_value (split_numbers chunks)
rows_of_numbers split chunks h =
    ap (λ columns. split_rows split columns) h.only
    ∙ ap (λ n. map (row_at (u64_column (split_numbers chunks) ∷ [])) (range_with_len 0 n)) (sym h.counted)
    ∙ rows_read (split_numbers chunks)

-- two changes in turn are one
map_map : {X Y Z : Type 0} (f : Y → Z) (g : X → Y) (xs : List X) → map f (map g xs) ≡ map (λ x. f (g x)) xs
map_map f g [] = refl
map_map f g (x ∷ xs) = ap (λ r. f (g x) ∷ r) (map_map f g xs)

-- a name is equal to itself
own_name : (name : List ℕ) → bytes_eq name name ≡ true
own_name name = (bytes_eq-Decides name name).1 refl

-- the batch of a split with these rows, if there are any
abbrev batch_of : List DType → WorkScope → List Placed → List Given
batch_of types scope [] = []
batch_of types scope (x ∷ part) = given_of types scope (x ∷ part) ∷ []

-- a successor is above zero
positive : (n : ℕ) → nat_lt 0 (suc n) ≡ true
positive n = grind arith

-- the batches in turn begin with the one of the first split
turn_first : (types : List DType) (rows : List Placed) (s : WorkScope) (scopes : List WorkScope) → in_turn types rows (s ∷ scopes) ≡ batch_of types s (rows_in s rows) ++ in_turn types rows scopes
turn_first types rows s scopes = by (rows_in s rows) (filter (λ t. nat_lt 0 (length (rows_in t rows))) scopes) refl
  where
    by : (part : List Placed) (others : List WorkScope) → part ≡ rows_in s rows
        → map (λ t. given_of types t (rows_in t rows)) (cond (nat_lt 0 (length part)) (s ∷ others) others) ≡ batch_of types s part ++ map (λ t. given_of types t (rows_in t rows)) others
    by [] others e = refl
    by (x ∷ part) others e =
        ap (λ b. map (λ t. given_of types t (rows_in t rows)) (cond b (s ∷ others) others)) (positive (length part))
        ∙ ap (λ p. given_of types s p ∷ map (λ t. given_of types t (rows_in t rows)) others) (sym e)

-- the column of rows that have one number each
numbers_column : (part : List Placed) (numbers : List ℕ) → map (λ x. x.values) part ≡ map one_value numbers → columns_of (u64_type ∷ []) part ≡ u64_column numbers ∷ []
numbers_column part numbers e =
    ap (λ rows. record { dtype = u64_type; rows = rows } ∷ [])
    (sym (map_map (λ (values : Row). unwrap_or (slice_get values 0) None) (λ x. x.values) part)
    ∙ ap (map (λ (values : Row). unwrap_or (slice_get values 0) None)) e
    ∙ map_map (λ (values : Row). unwrap_or (slice_get values 0) None) one_value numbers)

-- the batch of rows that have one number each is the batch of these numbers
batch_numbers : (types : List DType) (scope : WorkScope) (part : List Placed) (numbers : List ℕ) → types ≡ u64_type ∷ [] → map (λ x. x.values) part ≡ map one_value numbers
    → batch_of types scope part ≡ batch_if scope numbers
batch_numbers types scope [] [] t e = refl
batch_numbers types scope [] (n ∷ numbers) t e = absurd (omega (arith, ap length e))
batch_numbers types scope (x ∷ part) [] t e = absurd (omega (arith, ap length e))
batch_numbers types scope (x ∷ part) (n ∷ numbers) t e =
    let long : length (x ∷ part) ≡ length (n ∷ numbers) = sym (length-map (x ∷ part) (λ y. y.values)) ∙ ap length e ∙ length-map (n ∷ numbers) one_value in
    let column : columns_of types (x ∷ part) ≡ u64_column (n ∷ numbers) ∷ [] = ap (λ ts. columns_of ts (x ∷ part)) t ∙ numbers_column (x ∷ part) (n ∷ numbers) e in
    λ i. record { scope = scope; rows = long i; columns = column i } ∷ []

-- ---- one column

module _ (column : ColumnDesc) (request : ScanRequest) (keep : Option Comparison) (one : is_u64 column.dtype ≡ true) (free : is_unlimited request ≡ true)
    (kept : (n : ℕ) → passes keep n ≡ keeps request.filter (cell_of (column ∷ []) (u64_row n ∷ []))) where
  -- the one projected type
  one_type : projected_types (column ∷ []) request.projection ≡ u64_type ∷ []
  one_type =
      ap (projected_types (column ∷ [])) (unlimited request free).projection
      ∙ ap (λ b. cons_option (cond b (Some column.dtype) None) []) (own_name column.name)
      ∙ ap (λ t. t ∷ []) (type_u64 column.dtype one)

  -- a number as a row of the partition
  abbrev placed : ℕ → ℕ → Placed
  placed row n = record { partition = 0; row = row; values = one_value n }

  -- a row is chosen where its number passes
  chosen_is : (row n : ℕ) → is_chosen request (column ∷ []) (placed row n) ≡ passes keep n
  chosen_is row n = ap (λ b. b && keeps request.filter (cell_of (column ∷ []) (one_value n))) (all_rows_selected request free 0 row) ∙ sym (kept n)

  -- all columns of a row of one value are that value
  projected_is : (n : ℕ) → map (cell_of (column ∷ []) (one_value n)) (column.name ∷ []) ≡ one_value n
  projected_is n = ap (λ b. cond b (u64_row n) None ∷ []) (own_name column.name)

  -- the values of rows, with all columns asked for
  abbrev values_of : List Placed → List Row
  values_of part = map (λ x. x.values) (map (projected (column ∷ []) AllColumns) part)

  -- the chosen rows of a split have the numbers that pass
  values_kept : (start : ℕ) (numbers : List ℕ) → values_of (filter (is_chosen request (column ∷ [])) (placed_from 0 start (map one_value numbers))) ≡ map one_value (filter (passes keep) numbers)
  values_kept start [] = refl
  values_kept start (n ∷ numbers) =
      let rest : List Placed = filter (is_chosen request (column ∷ [])) (placed_from 0 (start + 1) (map one_value numbers)) in
      ap (λ b. values_of (cond b (placed start n ∷ rest) rest)) (chosen_is start n) ∙ by rest (passes keep n) (values_kept (start + 1) numbers)
    where
      by : (rest : List Placed) (b : Bool) → values_of rest ≡ map one_value (filter (passes keep) numbers)
          → values_of (cond b (placed start n ∷ rest) rest) ≡ map one_value (cond b (n ∷ filter (passes keep) numbers) (filter (passes keep) numbers))
      by rest true e = λ i. projected_is n i ∷ e i
      by rest false e = e

  -- the rows of a split are the chosen ones of its part, with their projected values
  abbrev HasPart : List Placed → WorkScope → List Placed → Type 0
  HasPart rows s part = rows_in s rows ≡ map (projected (column ∷ []) request.projection) (filter (is_chosen request (column ∷ [])) part)

  -- the batches of the splits are those of the numbers that pass
  splits_in_turn : (rows : List Placed) (start : ℕ) (splits : List SplitDesc) (chunks : List (List Chunk)) → AllZip IsOfNumbers splits chunks
      → AllZip (HasPart rows) (split_scopes 0 start splits) (placed_parts 0 start splits (content_of chunks))
      → kept_batches keep start splits (map split_numbers chunks) ≡ in_turn (projected_types (column ∷ []) request.projection) rows (split_scopes 0 start splits)
  splits_in_turn rows start [] chunks o z = refl
  splits_in_turn rows start (split ∷ splits) [] o z = absurd o
  splits_in_turn rows start (split ∷ splits) (cs ∷ chunks) o z =
      let types : List DType = projected_types (column ∷ []) request.projection in
      let s : WorkScope = scope_at start split in
      let passed : List ℕ = filter (passes keep) (split_numbers cs) in
      let values : map (λ x. x.values) (rows_in s rows) ≡ map one_value passed =
      ap (map (λ x. x.values)) z.0
      ∙ ap (λ p. map (λ x. x.values) (map (projected (column ∷ []) p) (filter (is_chosen request (column ∷ [])) (placed_from 0 start (split_rows split (map chunk_column cs)))))) (unlimited request free).projection
      ∙ ap (λ r. values_of (filter (is_chosen request (column ∷ [])) (placed_from 0 start r))) (rows_of_numbers split cs o.0)
      ∙ values_kept start (split_numbers cs) in
      ap (λ r. batch_if s passed ++ r) (splits_in_turn rows (start + split.rows) splits chunks o.1 z.1)
      ∙ ap (λ b. b ++ in_turn types rows (split_scopes 0 (start + split.rows) splits)) (sym (batch_numbers types s (rows_in s rows) passed one_type values))
      ∙ sym (turn_first types rows s (split_scopes 0 (start + split.rows) splits))

-- the numbers that pass, split by split, are the batches in turn
pub kept_in_turn : (columns : List ColumnDesc) (partition : PartitionDesc) (chunks : List (List Chunk)) (request : ScanRequest) (keep : Option Comparison) → is_one_u64 columns ≡ true → is_unlimited request ≡ true
    → ((n : ℕ) → passes keep n ≡ keeps request.filter (cell_of columns (u64_row n ∷ []))) → All (FitsColumns columns) partition.splits → FitsPartition partition (content_of chunks)
    → kept_batches keep 0 partition.splits (map split_numbers chunks) ≡ in_turn (projected_types columns request.projection) (chosen request (decoded columns (partition ∷ []) (content_of chunks ∷ []))) (scopes_from 0 (partition ∷ []))
kept_in_turn [] partition chunks request keep one free kept made fits = cc
kept_in_turn (column ∷ next ∷ columns) partition chunks request keep one free kept made fits = cc
kept_in_turn (column ∷ []) partition chunks request keep one free kept made fits =
    let rows : List Placed = chosen request (decoded (column ∷ []) (partition ∷ []) (content_of chunks ∷ [])) in
    let scopes : List WorkScope = split_scopes 0 0 partition.splits in
    let parts : List (List Placed) = placed_parts 0 0 partition.splits (content_of chunks) in
    let o : AllZip IsOfNumbers partition.splits chunks = splits_of_numbers (column ∷ []) partition.splits chunks one (all_each (FitsColumns (column ∷ [])) partition.splits made) fits in
    let z : AllZip (HasPart column request keep one free kept rows) scopes parts =
    subst (λ p. AllZip (HasPart column request keep one free kept rows) scopes p) (append-nil parts)
    (subst (λ t. AllZip (HasPart column request keep one free kept rows) t (parts ++ [])) (append-nil scopes)
    (chosen_parts (column ∷ []) (partition ∷ []) (content_of chunks ∷ []) request (fits, tt))) in
    splits_in_turn column request keep one free kept rows 0 partition.splits chunks o z ∙ ap (in_turn (projected_types (column ∷ []) request.projection) rows) (sym (append-nil scopes))

-- so they are an answer
pub kept_answers : (columns : List ColumnDesc) (partition : PartitionDesc) (chunks : List (List Chunk)) (request : ScanRequest) (keep : Option Comparison) → is_one_u64 columns ≡ true → is_unlimited request ≡ true
    → ((n : ℕ) → passes keep n ≡ keeps request.filter (cell_of columns (u64_row n ∷ []))) → All (FitsColumns columns) partition.splits → FitsPartition partition (content_of chunks)
    → Answers (asked columns (partition ∷ []) (content_of chunks ∷ []) request) (kept_batches keep 0 partition.splits (map split_numbers chunks))
kept_answers columns partition chunks request keep one free kept made fits =
    subst (Answers (asked columns (partition ∷ []) (content_of chunks ∷ []) request)) (sym (kept_in_turn columns partition chunks request keep one free kept made fits))
    (in_turn_answers columns (partition ∷ []) (content_of chunks ∷ []) request (fits, tt) (unlimited request free).limit)

-- a table of no partition is answered by no batch
pub none_answer : (columns : List ColumnDesc) (request : ScanRequest) → request.limit ≡ None → Answers (asked columns [] [] request) []
none_answer columns request none = in_turn_answers columns [] [] request tt none
