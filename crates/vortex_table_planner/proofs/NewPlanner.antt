-- What a new planner of a partition tells of itself.
use Rattle.std.proofs.Common.{◌≡◌, ◌∙◌, sym, ap, subst, refl, ℕ, zero, suc, ◌+◌, ◌-◌, ◌*◌, ◌<◌, ◌≤◌, List, [], ◌∷◌, Bool, true, false, length, map, arith, inl, inr}
use Rattle.std.specs.Prelude.{◌==◌, eqb, Contains, Option, None, Some, filter, slice_get}
use Rattle.std.specs.List.{AllByRecursion, enumerate_from, list_any}
use Rattle.std.specs.Option.{option_map}
use Rattle.std.proofs.lemmas.List.{length-map}
use Rattle.std.proofs.lemmas.List.FromFn.{length-map-range_with_len, length-enumerate_from}
use Rattle.vortex_array_types.specs.Row.{Column}
use Rattle.vortex_array_types.specs.declared.column.ColumnDesc.{ColumnDesc}
use Rattle.vortex_io.specs.Source.{Content, chunk_at}
use Rattle.vortex_scan.specs.Numbers.{repeats}
use Rattle.vortex_scan_types.specs.declared.batch.WorkScope.{WorkScope}
use Rattle.vortex_scan_types.specs.declared.request.ScanRequest.{ScanRequest}
use Rattle.vortex_table_chunks.specs.ChunkOf.{chunk_column, content_of}
use Rattle.vortex_table_chunks.specs.declared.chunk.Chunk.{Chunk}
use Rattle.vortex_table_types.specs.Described.{IsDescribed}
use Rattle.vortex_table_types.specs.Table.{FitsPartition, split_scopes}
use Rattle.vortex_table_types.specs.declared.describe.PartitionDesc.{PartitionDesc}
use Rattle.vortex_table_types.specs.declared.describe.SplitDesc.{SplitDesc}
use Rattle.vortex_table_planner.specs.Live.{is_live, live_splits, numbered}
use Rattle.vortex_table_planner.specs.Morsels.{IsFitting, Mismatches, is_among, is_want, no_chunks, seen, slot}
use Rattle.vortex_table_planner.specs.Owing.{IsMismatch}
use Rattle.vortex_table_planner.specs.Planners.{PermitsSome, PlannerState, morsel_for, new_planner, picked_bits, planner_permits, planner_work}
use Rattle.vortex_table_planner.specs.declared.errors.PlanError.{PlanError}
use Rattle.vortex_table_planner.specs.declared.errors.PlanError.TheVariants as error
use Rattle.vortex_table_planner.specs.declared.live.LiveSplit.{LiveSplit}
use Rattle.vortex_table_planner.proofs.Fitting.{no_mismatch}

-- ---- the needed columns

-- the numbers of elements that pass a test, the first having number n
abbrev passing : {X : Type 0} → (X → Bool) → ℕ → List X → List ℕ
passing test n xs = map (λ x. x.0) (filter (λ x. test x.1) (enumerate_from n xs))

passing_inside : {X : Type 0} (test : X → Bool) (n m : ℕ) (xs : List X) → n + length xs ≤ m → AllByRecursion (λ i. i < m) (passing test n xs)
passing_inside test n m [] h = tt
passing_inside {X} test n m (x ∷ xs) h = by (test x) refl (passing_inside test (n + 1) m xs (omega (arith, h)))
  where
    by : (b : Bool) → test x ≡ b → AllByRecursion (λ i. i < m) (passing test (n + 1) xs) → AllByRecursion (λ i. i < m) (passing test n (x ∷ xs))
    by true e rest = rw e (omega (arith, h), rest)
    by false e rest = rw e rest

less_apart : (k n : ℕ) → k < n → eqb k n ≡ false
less_apart k n h = grind (arith, h)

passing_apart : {X : Type 0} (test : X → Bool) (k n : ℕ) (xs : List X) → k < n → list_any (eqb k) (passing test n xs) ≡ false
passing_apart test k n [] h = refl
passing_apart {X} test k n (x ∷ xs) h = by (test x) refl (passing_apart test k (n + 1) xs (omega (arith, h)))
  where
    by : (b : Bool) → test x ≡ b → list_any (eqb k) (passing test (n + 1) xs) ≡ false → list_any (eqb k) (passing test n (x ∷ xs)) ≡ false
    by true e rest = rw (e, less_apart k n h) rest
    by false e rest = rw e rest

passing_once : {X : Type 0} (test : X → Bool) (n : ℕ) (xs : List X) → repeats (passing test n xs) ≡ false
passing_once test n [] = refl
passing_once {X} test n (x ∷ xs) = by (test x) refl (passing_once test (n + 1) xs)
  where
    by : (b : Bool) → test x ≡ b → repeats (passing test (n + 1) xs) ≡ false → repeats (passing test n (x ∷ xs)) ≡ false
    by true e rest = rw (e, passing_apart test n (n + 1) xs (omega arith)) rest
    by false e rest = rw e rest

-- the needed columns are columns, each once
pub new_fits : (columns : List ColumnDesc) (p : ℕ) (partition : PartitionDesc) (request : ScanRequest) → IsFitting (new_planner columns p partition request).wanted
new_fits columns p partition request = record { inside = passing_inside _ 0 (length columns) columns (omega arith); apart = passing_once _ 0 columns }

-- ---- its work

length_filter : {X : Type 0} (test : X → Bool) (xs : List X) → length (filter test xs) ≤ length xs
length_filter test [] = omega arith
length_filter {X} test (x ∷ xs) = by (test x) refl (length_filter test xs)
  where
    by : (b : Bool) → test x ≡ b → length (filter test xs) ≤ length xs → length (filter test (x ∷ xs)) ≤ length (x ∷ xs)
    by true e rest = rw e (omega (arith, rest))
    by false e rest = rw e (omega (arith, rest))

length_scopes : (p start : ℕ) (xs : List SplitDesc) → length (split_scopes p start xs) ≡ length xs
length_scopes p start [] = refl
length_scopes p start (x ∷ xs) = ap suc (length_scopes p (start + x.rows) xs)

pub new_work : (columns : List ColumnDesc) (p : ℕ) (partition : PartitionDesc) (request : ScanRequest) → planner_work (new_planner columns p partition request) ≤ 6 * length partition.splits + 1
new_work columns p partition request =
    let scopes : List WorkScope = split_scopes p 0 partition.splits in
    let less : length (live_splits request p partition) ≤ length (numbered 0 scopes) = length_filter (λ (live : LiveSplit). is_live request live.scope) (numbered 0 scopes) in
    let as_many : length (numbered 0 scopes) ≡ length (enumerate_from 0 scopes) = length-map (enumerate_from 0 scopes) (λ x. record { split = x.0; scope = x.1 }) in
    omega (arith, less, as_many, length-enumerate_from 0 scopes, length_scopes p 0 partition.splits)

-- ---- what it is permitted

some_place : (needed : List ℕ) (column : ℕ) → is_among needed column ≡ true → Contains needed column
some_place [] column e = absurd (cc)
some_place (other ∷ needed) column e = by (other == column) refl (some_place needed column)
  where
    by : (b : Bool) → (other == column) ≡ b → (is_among needed column ≡ true → Contains needed column) → Contains (other ∷ needed) column
    by true f rest = let same : other ≡ column = grind (arith, f) in (0, omega arith, same)
    by false f rest = let r = rest (rw f at e) in (suc r.0, omega (arith, r.1), r.2)

-- the split whose morsel is permitted the error
record Permitting (it : PlannerState) (content : Content Chunk) (split column : ℕ) (left : List LiveSplit) : Type 0 where
  live : LiveSplit
  lives : Contains left live
  mismatches : Mismatches (morsel_for it live) (chunk_at content live.split) split column

permitting : (it : PlannerState) (content : Content Chunk) (split column : ℕ) (left : List LiveSplit) → PermitsSome it content (error.ChunkMismatch split column) left → Permitting it content split column left
permitting it content split column [] p = absurd p
permitting it content split column (live ∷ left) (inl p) = record { live = live; lives = (0, omega arith, refl); mismatches = p }
permitting it content split column (live ∷ left) (inr p) =
    let r = permitting it content split column left p in
    record { live = r.live; lives = (suc r.lives.0, omega (arith, r.lives.1), r.lives.2); mismatches = r.mismatches }

get_map : {X Y : Type 0} (f : X → Y) (xs : List X) (k : ℕ) → slice_get (map f xs) k ≡ option_map f (slice_get xs k)
get_map f [] k = refl
get_map f (x ∷ xs) zero = refl
get_map f (x ∷ xs) (suc k) = get_map f xs k

no_slot : (columns : List ColumnDesc) (k : ℕ) → slot (no_chunks columns) k ≡ None
no_slot [] k = refl
no_slot (column ∷ columns) zero = refl
no_slot (column ∷ columns) (suc k) = no_slot columns k

-- the chunks of the split, and the column's among them, where the content has it
record Held (content : Content Chunk) (split column : ℕ) (chunk : Column) : Type 0 where
  chunks : List Chunk
  there : slice_get content split ≡ Some chunks
  found : option_map chunk_column (slice_get chunks column) ≡ Some chunk

held : (content : Content Chunk) (split column : ℕ) (chunk : Column) → option_map chunk_column (chunk_at content split column) ≡ Some chunk → Held content split column chunk
held content split column chunk e = by (slice_get content split) refl
  where
    by : (o : Option (List Chunk)) → slice_get content split ≡ o → Held content split column chunk
    by None f = absurd (let none : option_map chunk_column None ≡ Some chunk = rw f at e in cc)
    by (Some chunks) f = record { chunks = chunks; there = f; found = rw f at e }

pub new_permits : (columns : List ColumnDesc) (p : ℕ) (partition : PartitionDesc) (request : ScanRequest) (content : Content Chunk) (split column : ℕ)
    → planner_permits (new_planner columns p partition request) content (error.ChunkMismatch split column) → IsMismatch columns p partition request (content_of content) split column
new_permits columns p partition request content split column permits =
    let it : PlannerState = new_planner columns p partition request in
    let r = permitting it content split column it.left permits in
    let m = r.mismatches in
    let none : slot (no_chunks columns) column ≡ None = no_slot columns column in
    let sees : seen None (chunk_at content r.live.split column) ≡ Some m.chunk = subst (λ (o : Option Chunk). seen o (chunk_at content r.live.split column) ≡ Some m.chunk) none m.there in
    let h = held content r.live.split column m.chunk sees in
    let long : length (picked_bits request.row_range request.selection r.live.scope.rows) ≡ r.live.scope.rows.end - r.live.scope.rows.start = length-map-range_with_len _ r.live.scope.rows.start (r.live.scope.rows.end - r.live.scope.rows.start) in
    record {
      live = r.live;
      lives = r.lives;
      number = sym m.here;
      needed = some_place it.wanted.needed column m.needed;
      differs = record {
        described = m.described;
        chunk = m.chunk;
        named = m.named;
        chunks = map chunk_column h.chunks;
        held = subst (λ (s : ℕ). slice_get (content_of content) s ≡ Some (map chunk_column h.chunks)) (sym m.here) (get_map (map chunk_column) content r.live.split ∙ ap (option_map (map chunk_column)) h.there);
        there = get_map chunk_column h.chunks column ∙ h.found;
        differs = rw long at m.differs;
      };
    }

-- it suits a content that fits: nothing but want of memory is permitted
pub new_suits : (columns : List ColumnDesc) (p : ℕ) (partition : PartitionDesc) (request : ScanRequest) (content : Content Chunk) (failure : PlanError) → IsDescribed columns (partition ∷ []) 1 → FitsPartition partition (content_of content)
    → planner_permits (new_planner columns p partition request) content failure → is_want failure ≡ true
new_suits columns p partition request content (error.ChunkMismatch split column) described fits permits =
    absurd (no_mismatch columns p partition request (content_of content) split column described fits (new_permits columns p partition request content split column permits))
new_suits columns p partition request content error.OutOfMemory described fits permits = refl
