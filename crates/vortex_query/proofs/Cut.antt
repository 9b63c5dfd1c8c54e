-- Numbers as columns, and that the pieces of numbers fit their descriptions.
use Rattle.std.proofs.Common.{◌≡◌, ◌<◌, ◌*◌, ◌^◌, ◌∙◌, All, ap, refl, subst, sym, arith, pos, ℕ, zero, suc, List, [], ◌∷◌, length, map, take, drop, get_or, Some, IsTrue}
use Rattle.std.specs.Prelude.{option_map}
use Rattle.std.specs.List.{AllByRecursion, AllZip, list_all, range_with_len}
use Rattle.std.specs.Int.{div_ceil}
use Rattle.std.proofs.lemmas.Bool.Decides.{nat_tests}
use Rattle.std.proofs.lemmas.List.{length-map}
use mir.Val.{Fits}
use mir.Syntax.{w64}
use Rattle.vortex_array_types.specs.declared.scalar.Value.TheVariants.{Int}
use Rattle.vortex_array_types.specs.declared.column.ColumnDesc.{ColumnDesc}
use Rattle.vortex_array_types.specs.Row.{Column, fits_type}
use Rattle.std.proofs.lemmas.List.Elements.{All-cons, All-head, All-nil, All-tail}
use Rattle.vortex_io.specs.declared.order.Order.{Order}
use Rattle.vortex_io.specs.Memory.{MemoryState}
use Rattle.vortex_table.specs.declared.chunk.Chunk.{Chunk}
use Rattle.vortex_table_types.specs.declared.describe.PartitionDesc.{PartitionDesc}
use Rattle.vortex_table_types.specs.declared.describe.SplitDesc.{SplitDesc}
use Rattle.vortex_table.specs.Built.{u64_type}
use Rattle.vortex_table.specs.ChunkOf.{content_of}
use Rattle.vortex_table.specs.Given.{contents_of}
use Rattle.vortex_table.specs.State.{IsCleared}
use Rattle.vortex_table_types.specs.Table.{Content, FitsChunk, FitsPartition}
use Rattle.vortex_query.specs.Numbered.{NumberedColumn, numbered}
use Rattle.vortex_query.specs.Spelled.{IsFresh, cut, spelled, chunks_of, numbers_column, partition_of, piece, pieces, split_of}

-- numbers that are read as rows of a column without nulls
pub read_numbers : (numbers : List ℕ) → map (λ v. Some v) (map (λ n. Int n) (map (λ x. pos x) numbers)) ≡ map (λ n. Some (Int (pos n))) numbers
read_numbers [] = refl
read_numbers (n ∷ numbers) = ap (λ r. Some (Int (pos n)) ∷ r) (read_numbers numbers)

-- ---- numbers of 64 bits

-- each number has 64 bits at most
abbrev Small : List ℕ → Type 0
Small numbers = AllByRecursion (λ n. n < 2 ^ 64) numbers

small_slice : (numbers : List ℕ) → ((i : ℕ) → Fits w64 (get_or numbers i 0)) → Small numbers
small_slice [] h = tt
small_slice (n ∷ numbers) h = (omega (arith, h 0), small_slice numbers (λ i. h (suc i)))

small_take : (k : ℕ) (numbers : List ℕ) → Small numbers → Small (take k numbers)
small_take zero numbers s = tt
small_take (suc k) [] s = tt
small_take (suc k) (n ∷ numbers) s = (s.0, small_take k numbers s.1)

small_drop : (k : ℕ) (numbers : List ℕ) → Small numbers → Small (drop k numbers)
small_drop zero numbers s = s
small_drop (suc k) [] s = tt
small_drop (suc k) (n ∷ numbers) s = small_drop k numbers s.1

small_piece : (n : ℕ) (numbers : List ℕ) (k : ℕ) → Small numbers → Small (piece n numbers k)
small_piece n numbers k s = small_take n (drop (n * k) numbers) (small_drop (n * k) numbers s)

fits_small : (numbers : List ℕ) → Small numbers → IsTrue (list_all (fits_type u64_type) (map (λ n. Some (Int (pos n))) numbers))
fits_small [] s = refl
fits_small (n ∷ numbers) s =
    let first : n < 2 ^ 64 = s.0 in
    let rest = fits_small numbers s.1 in
    grind (arith, nat_tests, first, rest)

-- ---- descriptions and content

-- what f and g make of the numbers up to a place, where both agree at each
zip_maps : {A B : Type 0} (R : A → B → Type 0) (f : List ℕ → A) (g : List ℕ → B) (h : ℕ → List ℕ) → ((k : ℕ) → R (f (h k)) (g (h k))) → (ks : List ℕ) → AllZip R (map f (map h ks)) (map g (map h ks))
zip_maps R f g h each [] = tt
zip_maps R f g h each (k ∷ ks) = (each k, zip_maps R f g h each ks)

fits_split : (numbers : List ℕ) → Small numbers → AllZip FitsChunk (split_of numbers).chunks (numbers_column numbers ∷ [])
fits_split numbers s = (record { rows = length-map numbers (λ n. Some (Int (pos n))); dtype = refl; fits = fits_small numbers s }, tt)

fits_partition : (n : ℕ) (numbers : List ℕ) → Small numbers → FitsPartition (partition_of n numbers) (chunks_of n numbers)
fits_partition n numbers s =
    zip_maps (λ (split : SplitDesc) (columns : List Column). AllZip FitsChunk split.chunks columns) split_of (λ part. numbers_column part ∷ []) (piece n numbers) (λ k. fits_split (piece n numbers k) (small_piece n numbers k s)) (range_with_len 0 (div_ceil (length numbers) n))

-- the partitions of numbers fit what their sources hold
pub fits_cut : (size n : ℕ) (numbers : List ℕ) → ((i : ℕ) → Fits w64 (get_or numbers i 0)) → AllZip FitsPartition (map (partition_of n) (pieces size numbers)) (map (chunks_of n) (pieces size numbers))
fits_cut size n numbers h =
    let s = small_slice numbers h in
    zip_maps FitsPartition (partition_of n) (chunks_of n) (piece size numbers) (λ k. fits_partition n (piece size numbers k) (small_piece size numbers k s)) (range_with_len 0 (div_ceil (length numbers) size))

-- ---- sources

-- a source that gave up what was outstanding has its content
pub cleared_contents : (old new : List (MemoryState Chunk)) → AllZip (IsCleared (λ (s : MemoryState Chunk). s.outstanding) (λ (s : MemoryState Chunk). Some s.chunks) (λ (s : MemoryState Chunk). Some s.journal) (λ (s : MemoryState Chunk). s.faults) (λ (s t : MemoryState Chunk). t ≡ record s { outstanding = [] })) old new → contents_of new ≡ contents_of old
cleared_contents [] [] z = refl
cleared_contents [] (y ∷ ys) z = absurd z
cleared_contents (x ∷ xs) [] z = absurd z
cleared_contents (x ∷ xs) (y ∷ ys) z =
    let same : y.chunks ≡ x.chunks = cc z.0.chunks in
    ap (λ chunks. content_of chunks ∷ contents_of ys) same ∙ ap (λ rest. content_of x.chunks ∷ rest) (cleared_contents xs ys z.1)

-- and is as fresh as it was
fresh_one : (order : Order) (old new : MemoryState Chunk) → new ≡ record old { outstanding = [] } → IsFresh order old → IsFresh order new
fresh_one order old new same fresh = subst (IsFresh order) (sym same) (record { arrive = fresh.arrive; idle = refl; journal = fresh.journal; faults = fresh.faults })

pub cleared_fresh : (order : Order) (old new : List (MemoryState Chunk)) → AllZip (IsCleared (λ (s : MemoryState Chunk). s.outstanding) (λ (s : MemoryState Chunk). Some s.chunks) (λ (s : MemoryState Chunk). Some s.journal) (λ (s : MemoryState Chunk). s.faults) (λ (s t : MemoryState Chunk). t ≡ record s { outstanding = [] })) old new
    → All (IsFresh order) old → All (IsFresh order) new
cleared_fresh order [] [] z fresh = All-nil (IsFresh order)
cleared_fresh order [] (y ∷ ys) z fresh = absurd z
cleared_fresh order (x ∷ xs) [] z fresh = absurd z
cleared_fresh order (x ∷ xs) (y ∷ ys) z fresh = All-cons (IsFresh order) y ys (fresh_one order x y z.0.stated (All-head (IsFresh order) x xs fresh)) (cleared_fresh order xs ys z.1 (All-tail (IsFresh order) x xs fresh))

-- ---- the table

-- a table of these parts is the one that the bytes spell
pub spelled_parts : (bytes : List ℕ) (column : NumberedColumn) (columns : List ColumnDesc) (partitions : List PartitionDesc) (contents : List Content) → numbered bytes ≡ Some column
    → columns ≡ record { name = column.name; dtype = u64_type } ∷ [] → partitions ≡ map (partition_of 8192) (pieces 65536 column.numbers) → contents ≡ map (chunks_of 8192) (pieces 65536 column.numbers)
    → spelled bytes ≡ Some (record { columns = columns; partitions = partitions; contents = contents })
spelled_parts bytes column columns partitions contents n c p k = rw (c, p, k) (ap (option_map (cut 65536 8192)) n)
