-- Batches in order of scope, and cut at a limit.
use Rattle.std.specs.Prelude.{◌≡◌, ◌≤◌, ◌-◌, ◌+◌, ◌<◌, ◌⊎◌, ◌≢◌, ℕ, List, [], ◌∷◌, ◌++◌, Option, None, Some, length, slice_index_or}
use Rattle.std.specs.List.{AllZip}
use Rattle.vortex_array.specs.Head.{IsHeadOf}
use Rattle.vortex_scan_types.specs.declared.batch.Batch.{Batch}

-- the first rows of a batch, under its root, scope and place
pub record IsCutOf (rows : ℕ) (whole cut : Batch) : Type 0 where
  pub root : cut.root ≡ whole.root
  pub scope : cut.scope ≡ whole.scope
  pub place : cut.place ≡ whole.place
  pub count : cut.array.rows ≡ rows
  pub columns : AllZip (IsHeadOf rows) whole.array.columns cut.array.columns

-- no batch has an earlier scope than the one before it
abbrev pub AreInOrder : List Batch → Type 0
AreInOrder batches = (k : ℕ) (d : Batch) → k + 1 < length batches →
    ((slice_index_or batches k d).scope.file_ordinal < (slice_index_or batches (k + 1) d).scope.file_ordinal)
    ⊎ (((slice_index_or batches k d).scope.file_ordinal ≡ (slice_index_or batches (k + 1) d).scope.file_ordinal)
    × ((slice_index_or batches k d).scope.rows.start ≤ (slice_index_or batches (k + 1) d).scope.rows.start))

-- a batch joins others where so many rows are left, whole or cut, and so many rows are left then
abbrev pub Joins : Batch → ℕ → List Batch → List Batch → ℕ → Type 0
Joins batch left old new now =
    ((batch.array.rows ≤ left) × (new ≡ old ++ batch ∷ []) × (now ≡ left - batch.array.rows)) ⊎ ((left < batch.array.rows) × ((cut : Batch) × IsCutOf left batch cut × (new ≡ old ++ cut ∷ [])) × (now ≡ 0))

-- the same, where there may be no limit
abbrev pub JoinsWithin : Batch → Option ℕ → List Batch → List Batch → Option ℕ → Type 0
JoinsWithin batch None old new None = new ≡ old ++ batch ∷ []
JoinsWithin batch None old new (Some now) = ⊥
JoinsWithin batch (Some left) old new None = ⊥
JoinsWithin batch (Some left) old new (Some now) = Joins batch left old new now

-- the batches that hold the first so many rows: whole ones, and the last one cut
abbrev pub CutAt : ℕ → List Batch → List Batch → Type 0
CutAt left [] cut = cut ≡ []
CutAt left (batch ∷ batches) cut =
    ((left ≡ 0) × (cut ≡ []))
    ⊎ (((left ≢ 0) × (batch.array.rows ≤ left) × ((rest : List Batch) × (cut ≡ batch ∷ rest) × CutAt (left - batch.array.rows) batches rest))
    ⊎ ((left ≢ 0) × (left < batch.array.rows) × ((first : Batch) × IsCutOf left batch first × (cut ≡ first ∷ []))))

-- all of them where there is no limit
abbrev pub CutWithin : Option ℕ → List Batch → List Batch → Type 0
CutWithin None batches cut = cut ≡ batches
CutWithin (Some limit) batches cut = CutAt limit batches cut
