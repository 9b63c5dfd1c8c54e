-- A scan that nothing hinders is answered, or memory is wanting.
use Rattle.std.proofs.Common.{◌≡◌, ◌∙◌, sym, subst, refl, true, false, ℕ, zero, suc, ◌<◌, ◌≤◌, List, [], ◌∷◌, length, arith, ⊎_elim}
use Rattle.std.specs.Prelude.{IfErr, Result, Ok, Err, Some, map, slice_get, slice_index_or}
use Rattle.std.specs.List.{AllZip}
use Rattle.vortex_buffer.specs.Counts.{Faulted}
use Rattle.vortex_io.specs.Source.{Content, IsHonest}
use Rattle.vortex_io.specs.declared.source.IoSource.{Ghosts}
use Rattle.vortex_scan_types.specs.Valid.{ValidRequest}
use Rattle.vortex_scan_types.specs.declared.request.ScanRequest.{ScanRequest}
use Rattle.vortex_table_chunks.specs.ChunkOf.{content_of}
use Rattle.vortex_table_chunks.specs.declared.chunk.Chunk.{Chunk}
use Rattle.vortex_table_planner.specs.Owing.{IsMismatch}
use Rattle.vortex_table_types.specs.Described.{steps_of}
use Rattle.vortex_table_types.specs.Table.{FitsPartition}
use Rattle.vortex_table_types.specs.declared.describe.PartitionDesc.{PartitionDesc}
use Rattle.vortex_table_types.proofs.Zipped.{zipped-at}
use Rattle.vortex_table_scan.specs.Causes.{DiffersFrom, FailedAt, HasCause, IsAnswered, IsSilent, LiedAt}
use Rattle.vortex_table_scan.specs.Over.{AreHonest, NoneFails}
use Rattle.vortex_table_scan.specs.State.{TableState}
use Rattle.vortex_table_scan.specs.declared.errors.ScanError.{ScanError}
use Rattle.vortex_table_scan.specs.declared.errors.ScanError.TheVariants.{InvalidRequest, MismatchedTypes, Source, Protocol, ChunkMismatch, StepLimit, OutOfMemory}

-- what holds of each two elements at one place
at_place : {A B : Type 0} (R : A → B → Type 0) (xs : List A) (ys : List B) (p : ℕ) (x : A) (y : B) → AllZip R xs ys → slice_get xs p ≡ Some x → slice_get ys p ≡ Some y → R x y
at_place R xs ys p x y all hx hy = at (grind_at xs p x hx) (grind_at ys p y hy)
  where
    -- an element that is there stands below the length, and is found whatever stands for none
    grind_at : {X : Type 0} (list : List X) (p : ℕ) (x : X) → slice_get list p ≡ Some x → (p < length list) × (slice_index_or list p x ≡ x)
    grind_at [] p x e = absurd (cc)
    grind_at (y ∷ list) zero x e = (omega arith, cc)
    grind_at (y ∷ list) (suc p) x e = let r = grind_at list p x e in (let l = r.0 in omega (arith, l), r.1)

    at : (p < length xs) × (slice_index_or xs p x ≡ x) → (p < length ys) × (slice_index_or ys p y ≡ y) → R x y
    at hx hy = subst (λ x'. R x' y) hx.1 (subst (λ y'. R (slice_index_or xs p x) y') hy.1 (zipped-at R xs ys all p x y hx.0))

-- what the source of a place tells
told_at : {S : Type 0} (source : Ghosts S Chunk) (sources : List S) (told : List (Content Chunk)) → map source.content sources ≡ map (λ (content : Content Chunk). Some content) told → (p : ℕ) (before : S) → slice_get sources p ≡ Some before
    → (content : Content Chunk) × (source.content before ≡ Some content) × (slice_get told p ≡ Some content)
told_at source [] told e p before there = absurd (cc)
told_at source (s ∷ sources) [] e p before there = absurd (cc)
told_at source (s ∷ sources) (content ∷ told) e zero before there = (content, (let same : s ≡ before = (cc) in subst (λ it. source.content it ≡ Some content) same (cc)), refl)
told_at source (s ∷ sources) (content ∷ told) e (suc p) before there = told_at source sources told (cc) p before there

module _ {S : Type 0} (source : Ghosts S Chunk) (request : ScanRequest) (steps : ℕ) (told : List (Content Chunk)) (old new : TableState S) (valid : ValidRequest old.columns request)
    (honest : AreHonest source old.partitions told old.sources new.sources) (none : NoneFails source old.sources new.sources) (enough : steps_of old.partitions ≤ steps) where
  not_failed : (p : ℕ) → FailedAt source p old new → ⊥
  not_failed p f = at_place (λ before after. ¬ Faulted (source.faults before) (source.faults after)) old.sources new.sources p f.before f.after none f.is.was f.is.now f.failed

  not_lied : (p : ℕ) → LiedAt source p old new → ⊥
  not_lied p l = at_place (λ before after. IsHonest (source.lies before) (source.lies after)) old.sources new.sources p l.before l.after honest.honest l.is.was l.is.now l.lied

  not_silent : (p : ℕ) → IsSilent source p old → ⊥
  not_silent p s = let t = told_at source old.sources told honest.tells p s.before s.was in let none = s.untold in let some = t.1 in absurd (cc)

  -- where no content that fits a partition differs from its description
  module _ (fits : (p split column : ℕ) (partition : PartitionDesc) (content : Content Chunk) → slice_get old.partitions p ≡ Some partition → FitsPartition partition (content_of content)
      → IsMismatch old.columns p partition request (content_of content) split column → ⊥) where
    not_different : (p split column : ℕ) → DiffersFrom source request p split column old → ⊥
    not_different p split column d =
        let t = told_at source old.sources told honest.tells p d.before d.was in
        let same : t.0 ≡ d.content = (let some = t.1 in let other = d.told in cc) in
        let fit = at_place (λ partition (content : Content Chunk). FitsPartition partition (content_of content)) old.partitions told p d.partition t.0 honest.fit d.described t.2 in
        fits p split column d.partition d.content d.described (subst (λ (content : Content Chunk). FitsPartition d.partition (content_of content)) same fit) d.mismatch

    -- each refusal but want of memory lacks its cause
    pub memory_alone : (why : ScanError) → HasCause source request steps old new why → why ≡ OutOfMemory
    memory_alone (InvalidRequest name) c = absurd (let known = valid.names in cc)
    memory_alone MismatchedTypes c = absurd (let clash : false ≡ true = sym c.1 ∙ valid.types in cc)
    memory_alone (Source p) c = absurd (not_failed p c.1)
    memory_alone (Protocol p owner number) c = absurd (not_lied p c.1)
    memory_alone (ChunkMismatch p split column) c = absurd (⊎_elim (λ l. not_lied p l) (λ r. ⊎_elim (λ s. not_silent p s) (λ d. not_different p split column d) r) c.1)
    memory_alone StepLimit c = absurd (let less = c.1 in omega (arith, less, enough))
    memory_alone OutOfMemory c = refl

pub answered : {T : Type 0} (result : Result T ScanError) (P : ScanError → Type 0) → IfErr result P → ((why : ScanError) → P why → why ≡ OutOfMemory) → IsAnswered result
answered (Ok value) P cause alone = tt
answered (Err why) P cause alone = alone why cause
