-- The partitions of few numbers make a table with one column of numbers.
use Rattle.std.proofs.Common.{◌≡◌, ◌≤◌, ◌*◌, ◌∙◌, All, ap, refl, sym, subst, arith, ℕ, List, [], ◌∷◌, length, map, take, drop, length-take, true, false, Bool, Option, Some, None}
use Rattle.std.specs.Prelude.{if◌then◌else◌, nat_le, sum_by, option_and_then, option_map}
use Rattle.std.specs.Int.{div_ceil}
use Rattle.std.specs.List.{range_with_len}
use Rattle.std.proofs.lemmas.Bool.Decides.{nat_tests}
use Rattle.std.proofs.lemmas.Grind.{div_ceil_times}
use Rattle.std.proofs.lemmas.List.{length-map}
use Rattle.std.proofs.lemmas.List.Elements.{All-cons, All-get_or, All-nil}
use Rattle.std.proofs.lemmas.List.FromFn.{length-map-range_with_len}
use Rattle.std.proofs.lemmas.List.Sums.{sum_by-le}
use Rattle.csv.specs.Reading.{default_config, records, strip_bom}
use Rattle.vortex_array_types.specs.declared.column.ColumnDesc.{ColumnDesc}
use Rattle.vortex_table_types.specs.declared.describe.PartitionDesc.{PartitionDesc}
use Rattle.vortex_table_types.specs.declared.describe.SplitDesc.{SplitDesc}
use Rattle.vortex_table_types.specs.declared.errors.TableError.{TableError}
use Rattle.vortex_table_types.specs.declared.errors.TableError.TheVariants.{RepeatedName, SourceCount, ChunkListDoesNotFit, TooLarge, OutOfMemory}
use Rattle.vortex_io.specs.Memory.{MemoryState}
use Rattle.vortex_table.specs.declared.chunk.Chunk.{Chunk}
use Rattle.vortex_table.specs.Built.{u64_type}
use Rattle.vortex_table.specs.ChunkOf.{content_of}
use Rattle.vortex_table.specs.Given.{contents_of}
use Rattle.vortex_table_types.specs.Described.{AllFit, FitsColumns, IsDescribed, Refuses, rows_of}
use Rattle.vortex_query.specs.Fields.{header_name}
use Rattle.vortex_query.specs.Numbered.{NumberedColumn, column_in, numbered, rows_numbers, under_name}
use Rattle.vortex_query.specs.Spelled.{chunks_of, partition_of, piece, pieces, split_of}

-- ---- the numbers of a text are few

few-tested : (name numbers : List ℕ) (b : Bool) → nat_le (length numbers) 65536 ≡ b → (column : NumberedColumn)
    → option_map (λ (ns : List ℕ). record { name = name; numbers = ns }) (if b then Some numbers else None) ≡ Some column → length column.numbers ≤ 65536
few-tested name numbers true t column e = let same : numbers ≡ column.numbers = cc e in subst (λ ns. length ns ≤ 65536) same (grind (arith, nat_tests, t))
few-tested name numbers false t column e = absurd (cc e)

few-under : (name : List ℕ) (found : Option (List ℕ)) (column : NumberedColumn) → under_name name found ≡ Some column → length column.numbers ≤ 65536
few-under name None column e = absurd (cc e)
few-under name (Some numbers) column e = few-tested name numbers (nat_le (length numbers) 65536) refl column e

few-header : (name : Option (List ℕ)) (rows : List (List (List ℕ))) (column : NumberedColumn) → option_and_then (λ n. under_name n (rows_numbers rows)) name ≡ Some column → length column.numbers ≤ 65536
few-header None rows column e = absurd (cc e)
few-header (Some name) rows column e = few-under name (rows_numbers rows) column e

few-column : (rows : List (List (List ℕ))) (column : NumberedColumn) → column_in rows ≡ Some column → length column.numbers ≤ 65536
few-column [] column e = absurd (cc e)
few-column (header ∷ rows) column e = few-header (header_name header) rows column e

few : (bytes : List ℕ) (column : NumberedColumn) → numbered bytes ≡ Some column → length column.numbers ≤ 65536
few bytes column e = few-column (records default_config (strip_bom bytes)) column e

-- ---- what is made of pieces

-- what f makes of the lists up to a place, where each of them passes
all-made : {A : Type 0} (P : A → Type 0) (f : List ℕ → A) (h : ℕ → List ℕ) → ((k : ℕ) → P (f (h k))) → (ks : List ℕ) → All P (map f (map h ks))
all-made P f h each [] = All-nil P
all-made P f h each (k ∷ ks) = All-cons P (f (h k)) (map f (map h ks)) (each k) (all-made P f h each ks)

all-pieces : {A : Type 0} (P : A → Type 0) (f : List ℕ → A) (n : ℕ) (numbers : List ℕ) → ((k : ℕ) → P (f (piece n numbers k))) → All P (map f (pieces n numbers))
all-pieces P f n numbers each = all-made P f (piece n numbers) each (range_with_len 0 (div_ceil (length numbers) n))

count-pieces : {A : Type 0} (f : List ℕ → A) (n : ℕ) (numbers : List ℕ) → length (map f (pieces n numbers)) ≡ div_ceil (length numbers) n
count-pieces f n numbers = length-map (pieces n numbers) f ∙ length-map-range_with_len (piece n numbers) 0 (div_ceil (length numbers) n)

few-taken : (n : ℕ) (numbers : List ℕ) → length (take n numbers) ≤ n
few-taken n numbers = omega (arith, length-take n numbers)

one-partition : (n : ℕ) → n ≤ 65536 → div_ceil n 65536 ≤ 1
one-partition n few = omega (arith, few, (div_ceil_times n 65536 (omega arith)).1)

eight-splits : (n : ℕ) → n ≤ 65536 → div_ceil n 8192 ≤ 8
eight-splits n few = omega (arith, few, (div_ceil_times n 8192 (omega arith)).1)

-- ---- a partition

splits-few : (numbers : List ℕ) → length numbers ≤ 65536 → length (partition_of 8192 numbers).splits ≤ 8
splits-few numbers few = omega (arith, count-pieces split_of 8192 numbers, eight-splits (length numbers) few)

rows-few : (numbers : List ℕ) → length numbers ≤ 65536 → rows_of (partition_of 8192 numbers) ≤ 65536
rows-few numbers few =
    let each = all-pieces (λ (split : SplitDesc). split.rows ≤ 8192) split_of 8192 numbers (λ k. few-taken 8192 (drop (8192 * k) numbers)) in
    omega (arith, sum_by-le (λ (split : SplitDesc). split.rows) 8192 (map split_of (pieces 8192 numbers)) each, splits-few numbers few)

fits-column : (name numbers : List ℕ) → FitsColumns (record { name = name; dtype = u64_type } ∷ []) (split_of numbers)
fits-column name numbers = (record { rows = refl; dtype = refl }, tt)

fits-partition : (name numbers : List ℕ) → AllFit (record { name = name; dtype = u64_type } ∷ []) (partition_of 8192 numbers)
fits-partition name numbers = all-pieces (FitsColumns (record { name = name; dtype = u64_type } ∷ [])) split_of 8192 numbers (λ k. fits-column name (piece 8192 numbers k))

-- ---- a table

module _ (name numbers : List ℕ) (few : length numbers ≤ 65536) where
  abbrev partitions : List PartitionDesc
  partitions = map (partition_of 8192) (pieces 65536 numbers)

  part-few : (k : ℕ) → length (piece 65536 numbers k) ≤ 65536
  part-few k = few-taken 65536 (drop (65536 * k) numbers)

  partitions-few : length partitions ≤ 1
  partitions-few = omega (arith, count-pieces (partition_of 8192) 65536 numbers, one-partition (length numbers) few)

  total-few : sum_by rows_of partitions ≤ length partitions * 65536
  total-few = sum_by-le rows_of 65536 partitions (all-pieces (λ p. rows_of p ≤ 65536) (partition_of 8192) 65536 numbers (λ k. rows-few (piece 65536 numbers k) (part-few k)))

  splits-total : sum_by (λ (p : PartitionDesc). length p.splits) partitions ≤ length partitions * 8
  splits-total = sum_by-le (λ (p : PartitionDesc). length p.splits) 8 partitions (all-pieces (λ (p : PartitionDesc). length p.splits ≤ 8) (partition_of 8192) 65536 numbers (λ k. splits-few (piece 65536 numbers k) (part-few k)))

  described : IsDescribed (record { name = name; dtype = u64_type } ∷ []) partitions (length partitions)
  described = record {
    names = λ i j d before within. absurd (omega (arith, before, within));
    paired = refl;
    fits = all-pieces (AllFit (record { name = name; dtype = u64_type } ∷ [])) (partition_of 8192) 65536 numbers (λ k. fits-partition name (piece 65536 numbers k));
    counted = record { rows = omega (arith, total-few, partitions-few); steps = omega (arith, splits-total, partitions-few) };
  }

-- a description that makes a table is refused for want of memory alone
only-memory : (columns : List ColumnDesc) (partitions : List PartitionDesc) (sources : ℕ) (error : TableError) → IsDescribed columns partitions sources → Refuses columns partitions sources error → error ≡ OutOfMemory
only-memory columns partitions sources RepeatedName d r = absurd (r d.names)
only-memory columns partitions sources SourceCount d r = absurd (r.1 d.paired)
only-memory columns partitions sources (ChunkListDoesNotFit p s) d r =
    let first = r.2 in
    let none : PartitionDesc = record { splits = [] } in
    let empty : SplitDesc = record { rows = 0; chunks = [] } in
    let here = first.here none in
    absurd (here.fails empty (All-get_or (FitsColumns columns) _ s empty here.within (All-get_or (AllFit columns) partitions p none first.within d.fits)))
only-memory columns partitions sources TooLarge d r = absurd (r.3 d.counted)
only-memory columns partitions sources OutOfMemory d r = refl

-- so is the table that a text spells
pub spelled-refused : (bytes : List ℕ) (column : NumberedColumn) (columns : List ColumnDesc) (partitions : List PartitionDesc) (sources : List (MemoryState Chunk)) (error : TableError) → numbered bytes ≡ Some column
    → columns ≡ record { name = column.name; dtype = u64_type } ∷ [] → partitions ≡ map (partition_of 8192) (pieces 65536 column.numbers) → contents_of sources ≡ map (chunks_of 8192) (pieces 65536 column.numbers)
    → Refuses columns partitions (length sources) error → error ≡ OutOfMemory
spelled-refused bytes column columns partitions sources error n c p s r =
    let cut = pieces 65536 column.numbers in
    let held = sym (length-map sources (λ (source : MemoryState Chunk). content_of source.chunks)) ∙ ap length s ∙ length-map cut (chunks_of 8192) in
    let paired : length sources ≡ length partitions = held ∙ sym (ap length p ∙ length-map cut (partition_of 8192)) in
    let known = described column.name column.numbers (few bytes column n) in
    only-memory columns partitions (length sources) error (rw (c, paired, p) known) r
