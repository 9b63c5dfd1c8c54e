-- Sources that were cleared or scanned have the content that they had.
use Rattle.std.proofs.Common.{◌≡◌, ◌∙◌, All, ap, refl, sym, subst, ℕ, List, [], ◌∷◌}
use Rattle.std.specs.Prelude.{Option, Some}
use Rattle.std.specs.List.{AllZip}
use Rattle.std.proofs.lemmas.List.Elements.{All-cons, All-head, All-nil, All-tail}
use Rattle.vortex_io.specs.Memory.{MemoryState}
use Rattle.vortex_table.specs.declared.chunk.Chunk.{Chunk}
use Rattle.vortex_table_types.specs.declared.describe.PartitionDesc.{PartitionDesc}
use Rattle.vortex_table.specs.ChunkOf.{content_of}
use Rattle.vortex_table.specs.Given.{contents_of}
use Rattle.vortex_table.specs.State.{ArrivesInOrder, IsCleared, Stands, TableState}
use Rattle.vortex_table_types.specs.Table.{Content, FitsPartition}
use Rattle.judged_scans.specs.Ready.{IsReady}

abbrev Cleared : MemoryState Chunk → MemoryState Chunk → Type 0
Cleared = IsCleared (λ (s : MemoryState Chunk). s.outstanding) (λ (s : MemoryState Chunk). Some s.chunks) (λ (s : MemoryState Chunk). Some s.journal) (λ (s : MemoryState Chunk). s.faults) (λ (s t : MemoryState Chunk). t ≡ record s { outstanding = [] })

same_chunks : (s t : List (List Chunk)) → Some s ≡ Some t → s ≡ t
same_chunks s t e = cc e

one_more : (x y : MemoryState Chunk) (xs ys : List (MemoryState Chunk)) → y.chunks ≡ x.chunks → contents_of ys ≡ contents_of xs → contents_of (y ∷ ys) ≡ contents_of (x ∷ xs)
one_more x y xs ys e r = ap (λ chunks. content_of chunks ∷ contents_of ys) e ∙ ap (λ rest. content_of x.chunks ∷ rest) r

cleared : (xs ys : List (MemoryState Chunk)) → AllZip Cleared xs ys → contents_of ys ≡ contents_of xs
cleared [] [] z = refl
cleared [] (y ∷ ys) z = absurd z
cleared (x ∷ xs) [] z = absurd z
cleared (x ∷ xs) (y ∷ ys) z = one_more x y xs ys (same_chunks y.chunks x.chunks z.0.chunks) (cleared xs ys z.1)

scanned : (xs ys : List (MemoryState Chunk)) → AllZip Stands xs ys → contents_of ys ≡ contents_of xs
scanned [] [] z = refl
scanned [] (y ∷ ys) z = absurd z
scanned (x ∷ xs) [] z = absurd z
scanned (x ∷ xs) (y ∷ ys) z = one_more x y xs ys z.0.chunks (scanned xs ys z.1)

cleared_arrive : (xs ys : List (MemoryState Chunk)) → AllZip Cleared xs ys → All ArrivesInOrder xs → All ArrivesInOrder ys
cleared_arrive [] [] z arrive = All-nil ArrivesInOrder
cleared_arrive [] (y ∷ ys) z arrive = absurd z
cleared_arrive (x ∷ xs) [] z arrive = absurd z
cleared_arrive (x ∷ xs) (y ∷ ys) z arrive = All-cons ArrivesInOrder y ys (ap (λ (s : MemoryState Chunk). s.arrive) z.0.stated ∙ All-head ArrivesInOrder x xs arrive) (cleared_arrive xs ys z.1 (All-tail ArrivesInOrder x xs arrive))

scanned_arrive : (xs ys : List (MemoryState Chunk)) → AllZip Stands xs ys → All ArrivesInOrder xs → All ArrivesInOrder ys
scanned_arrive [] [] z arrive = All-nil ArrivesInOrder
scanned_arrive [] (y ∷ ys) z arrive = absurd z
scanned_arrive (x ∷ xs) [] z arrive = absurd z
scanned_arrive (x ∷ xs) (y ∷ ys) z arrive = All-cons ArrivesInOrder y ys (z.0.arrive ∙ All-head ArrivesInOrder x xs arrive) (scanned_arrive xs ys z.1 (All-tail ArrivesInOrder x xs arrive))

-- a table of content that fits, over sources that arrive in order, is ready
pub fit_made : (ps : List PartitionDesc) (table : TableState (MemoryState Chunk)) (contents : List Content) (xs : List (MemoryState Chunk)) → AllZip FitsPartition ps contents → contents ≡ contents_of xs → All ArrivesInOrder xs → table.partitions ≡ ps
    → AllZip Cleared xs table.sources → IsReady table
fit_made ps table contents xs f e arrive p z = record {
  arrives = cleared_arrive xs table.sources z arrive;
  fits = subst (λ c. AllZip FitsPartition table.partitions c) (e ∙ sym (cleared xs table.sources z)) (subst (λ q. AllZip FitsPartition q contents) (sym p) f);
}

-- and is so after a scan
pub fit_scanned : (old new : TableState (MemoryState Chunk)) → IsReady old → new.partitions ≡ old.partitions → AllZip Stands old.sources new.sources → IsReady new
fit_scanned old new ready p z = record {
  arrives = scanned_arrive old.sources new.sources z ready.arrives;
  fits = subst (λ c. AllZip FitsPartition new.partitions c) (sym (scanned old.sources new.sources z)) (subst (λ q. AllZip FitsPartition q (contents_of old.sources)) (sym p) ready.fits);
}
