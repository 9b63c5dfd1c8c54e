-- A content that fits a partition has no chunk that differs from its description.
use Rattle.std.proofs.Common.{◌≡◌, ◌∙◌, subst, refl, ℕ, zero, suc, ◌+◌, ◌-◌, ◌<◌, List, [], ◌∷◌, Bool, true, false, length, get_or, arith, inl, inr}
use Rattle.std.specs.Prelude.{Some, filter, slice_get}
use Rattle.std.specs.List.{AllZip}
use Rattle.vortex_array_types.specs.Row.{Column}
use Rattle.vortex_array_types.specs.declared.column.ColumnDesc.{ColumnDesc}
use Rattle.vortex_scan_types.specs.declared.request.ScanRequest.{ScanRequest}
use Rattle.vortex_table_types.specs.Described.{FitsColumns, IsChunkOf, IsDescribed}
use Rattle.vortex_table_types.specs.Table.{Content, FitsChunk, FitsPartition, split_scopes}
use Rattle.vortex_table_types.specs.declared.describe.ChunkDesc.{ChunkDesc}
use Rattle.vortex_table_types.specs.declared.describe.PartitionDesc.{PartitionDesc}
use Rattle.vortex_table_types.specs.declared.describe.SplitDesc.{SplitDesc}
use Rattle.vortex_table_types.proofs.Rising.{Each}
use Rattle.vortex_table_types.proofs.Whole.{all_each}
use Rattle.vortex_table_planner.specs.Live.{is_live, numbered}
use Rattle.vortex_table_planner.specs.Owing.{Differs, IsMismatch}
use Rattle.vortex_table_planner.specs.declared.live.LiveSplit.{LiveSplit}

-- an element by recursion, and at a place
abbrev Stands : {X : Type 0} → List X → ℕ → X → Type 0
Stands [] k x = ⊥
Stands (y ∷ ys) zero x = y ≡ x
Stands (y ∷ ys) (suc k) x = Stands ys k x

stands_at : {X : Type 0} (xs : List X) (k : ℕ) (x : X) → k < length xs → get_or xs k x ≡ x → Stands xs k x
stands_at [] k x h e = absurd (omega (arith, h))
stands_at (y ∷ xs) zero x h e = e
stands_at (y ∷ xs) (suc k) x h e = stands_at xs k x (omega (arith, h)) e

-- a kept element is one
stands_kept : {X : Type 0} (test : X → Bool) (xs : List X) (k : ℕ) (x : X) → Stands (filter test xs) k x → (j : ℕ) × Stands xs j x
stands_kept test [] k x s = absurd s
stands_kept {X} test (y ∷ xs) k x s = by (test y) refl k s (λ i t. stands_kept test xs i x t)
  where
    by : (b : Bool) → test y ≡ b → (i : ℕ) → Stands (filter test (y ∷ xs)) i x → ((i : ℕ) → Stands (filter test xs) i x → (j : ℕ) × Stands xs j x) → (j : ℕ) × Stands (y ∷ xs) j x
    by true e zero t rest = (0, (rw e at t))
    by true e (suc i) t rest = let r = rest i (rw e at t) in (suc r.0, r.1)
    by false e i t rest = let r = rest i (rw e at t) in (suc r.0, r.1)

-- chunks that fit their descriptions differ from none
columns_fit : (split : SplitDesc) (columns : List ColumnDesc) (described : List ChunkDesc) (chunks : List Column) (column : ℕ) (one : ColumnDesc) (chunk : Column) → AllZip (IsChunkOf split) columns described → AllZip FitsChunk described chunks
    → slice_get columns column ≡ Some one → slice_get chunks column ≡ Some chunk → (length chunk.rows ≡ split.rows) × (chunk.dtype ≡ one.dtype)
columns_fit split [] described chunks column one chunk f g named there = absurd (cc)
columns_fit split (first ∷ columns) [] chunks column one chunk f g named there = absurd f
columns_fit split (first ∷ columns) (desc ∷ described) [] column one chunk f g named there = absurd g
columns_fit split (first ∷ columns) (desc ∷ described) (part ∷ chunks) zero one chunk f g named there =
    let same : first ≡ one = cc in
    let given : part ≡ chunk = cc in (
      subst (λ (c : Column). length c.rows ≡ split.rows) given (g.0.rows ∙ f.0.rows),
      subst (λ (c : Column). c.dtype ≡ one.dtype) given (subst (λ (d : ColumnDesc). part.dtype ≡ d.dtype) same (g.0.dtype ∙ f.0.dtype)),
    )
columns_fit split (first ∷ columns) (desc ∷ described) (part ∷ chunks) (suc column) one chunk f g named there = columns_fit split columns described chunks column one chunk f.1 g.1 named there

-- the chunks of a split with this number fit it
splits_fit : (columns : List ColumnDesc) (p k start : ℕ) (splits : List SplitDesc) (content : Content) (live : LiveSplit) (j : ℕ) (chunks : List Column) (column : ℕ) (one : ColumnDesc) (chunk : Column)
    → Each (FitsColumns columns) splits → AllZip (λ split columns. AllZip FitsChunk split.chunks columns) splits content → Stands (numbered k (split_scopes p start splits)) j live → slice_get content j ≡ Some chunks → slice_get columns column ≡ Some one → slice_get chunks column ≡ Some chunk
    → (length chunk.rows ≡ live.scope.rows.end - live.scope.rows.start) × (chunk.dtype ≡ one.dtype)
splits_fit columns p k start [] content live j chunks column one chunk f g s held named there = absurd s
splits_fit columns p k start (split ∷ splits) [] live j chunks column one chunk f g s held named there = absurd g
splits_fit columns p k start (split ∷ splits) (first ∷ content) live zero chunks column one chunk f g s held named there =
    let same : first ≡ chunks = cc in
    let fits : (length chunk.rows ≡ split.rows) × (chunk.dtype ≡ one.dtype) = columns_fit split columns split.chunks chunks column one chunk f.0 (subst (λ (some : List Column). AllZip FitsChunk split.chunks some) same g.0) named there in
    let long : split.rows ≡ start + split.rows - start = omega arith in
    subst (λ (l : LiveSplit). (length chunk.rows ≡ l.scope.rows.end - l.scope.rows.start) × (chunk.dtype ≡ one.dtype)) s (fits.0 ∙ long, fits.1)
splits_fit columns p k start (split ∷ splits) (first ∷ content) live (suc j) chunks column one chunk f g s held named there =
    splits_fit columns p (k + 1) (start + split.rows) splits content live j chunks column one chunk f.1 g.1 s held named there

-- the number of a split that stands at a place
numbers_fit : (p k start : ℕ) (splits : List SplitDesc) (live : LiveSplit) (j : ℕ) → Stands (numbered k (split_scopes p start splits)) j live → live.split ≡ k + j
numbers_fit p k start [] live j s = absurd s
numbers_fit p k start (split ∷ splits) live zero s = subst (λ (l : LiveSplit). l.split ≡ k + 0) s (omega arith)
numbers_fit p k start (split ∷ splits) live (suc j) s = let r = numbers_fit p (k + 1) (start + split.rows) splits live j s in omega (arith, r)

-- so nothing of a content that fits is a mismatch
pub no_mismatch : (columns : List ColumnDesc) (p : ℕ) (partition : PartitionDesc) (request : ScanRequest) (content : Content) (split column : ℕ) → IsDescribed columns (partition ∷ []) 1 → FitsPartition partition content
    → IsMismatch columns p partition request content split column → ⊥
no_mismatch columns p partition request content split column described fits m =
    let test : LiveSplit → Bool = λ live. is_live request live.scope in
    let all : List LiveSplit = numbered 0 (split_scopes p 0 partition.splits) in
    let kept = stands_kept test all m.lives.0 m.live (stands_at (filter test all) m.lives.0 m.live m.lives.1 m.lives.2) in
    let number : split ≡ kept.0 = omega (arith, m.number, numbers_fit p 0 0 partition.splits m.live kept.0 kept.1) in
    let held = subst (λ (s : ℕ). slice_get content s ≡ Some m.differs.chunks) number m.differs.held in
    let f = splits_fit columns p 0 0 partition.splits content m.live kept.0 m.differs.chunks column m.differs.described m.differs.chunk
    (all_each (FitsColumns columns) partition.splits (described.fits 0 partition (omega arith))) fits kept.1 held m.differs.named m.differs.there in
    clash m.differs.differs f.0 f.1
  where
    clash : Differs (m.live.scope.rows.end - m.live.scope.rows.start) m.differs.described m.differs.chunk → length m.differs.chunk.rows ≡ m.live.scope.rows.end - m.live.scope.rows.start → m.differs.chunk.dtype ≡ m.differs.described.dtype → ⊥
    clash (inl n) rows dtype = n rows
    clash (inr n) rows dtype = n dtype
