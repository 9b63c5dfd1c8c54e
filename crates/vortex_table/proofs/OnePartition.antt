-- Tables of at most one partition: what their sources hold, what their scans answer, and what stays.
use Rattle.std.proofs.Common.{◌≡◌, sym, refl, ℕ, ◌≤◌, List, [], ◌∷◌, length, Option, true, arith, append-nil}
use Rattle.std.specs.Prelude.{All}
use Rattle.std.specs.List.{AllZip}
use Rattle.vortex_array_types.specs.Cells.{cell_of}
use Rattle.vortex_array_types.specs.Truth.{keeps}
use Rattle.vortex_array_types.specs.declared.column.ColumnDesc.{ColumnDesc}
use Rattle.vortex_io.specs.Memory.{MemoryState}
use Rattle.vortex_table.specs.declared.built.Comparison.{Comparison}
use Rattle.vortex_table.specs.declared.chunk.Chunk.{Chunk}
use Rattle.vortex_table_types.specs.declared.describe.PartitionDesc.{PartitionDesc}
use Rattle.vortex_scan_types.specs.declared.request.ScanRequest.{ScanRequest}
use Rattle.vortex_table_types.specs.Answers.{Answers, asked}
use Rattle.vortex_table.specs.Built.{is_one_u64, is_unlimited}
use Rattle.vortex_table_types.specs.Described.{AllFit}
use Rattle.vortex_table.specs.Given.{contents_of}
use Rattle.vortex_table.specs.Kept.{passes}
use Rattle.vortex_table.specs.Scanning.{FirstHolds, table_batches, u64_row}
use Rattle.vortex_table.specs.State.{Stands}
use Rattle.vortex_table_types.specs.Table.{FitsPartition}
use Rattle.vortex_table.proofs.OneColumn.{kept_answers, none_answer, numbers_held, unlimited}
use Rattle.vortex_table_types.proofs.Zipped.{zipped-same}

-- where contents fit, the first source has the numbers of the first partition
pub first_held : (columns : List ColumnDesc) (partitions : List PartitionDesc) (sources : List (MemoryState Chunk)) → is_one_u64 columns ≡ true → All (AllFit columns) partitions
    → AllZip FitsPartition partitions (contents_of sources) → FirstHolds partitions sources
first_held columns [] sources one fits z = tt
first_held columns (p ∷ partitions) [] one fits z = absurd z
first_held columns (p ∷ partitions) (s ∷ sources) one fits z = numbers_held columns p s.chunks one (fits 0 p (omega arith)) z.0

-- the batches of the numbers that are kept answer the request
pub table_answers : (columns : List ColumnDesc) (partitions : List PartitionDesc) (sources : List (MemoryState Chunk)) (request : ScanRequest) (keep : Option Comparison) → length partitions ≤ 1
    → is_one_u64 columns ≡ true → is_unlimited request ≡ true → ((n : ℕ) → passes keep n ≡ keeps request.filter (cell_of columns (u64_row n ∷ []))) → All (AllFit columns) partitions
    → AllZip FitsPartition partitions (contents_of sources) → Answers (asked columns partitions (contents_of sources) request) (table_batches keep partitions sources)
table_answers columns [] [] request keep few one free law fits z = none_answer columns request (unlimited request free).limit
table_answers columns [] (s ∷ sources) request keep few one free law fits z = absurd z
table_answers columns (p ∷ partitions) [] request keep few one free law fits z = absurd z
table_answers columns (p ∷ []) (s ∷ []) request keep few one free law fits z = kept_answers columns p s.chunks request keep one free law (fits 0 p (omega arith)) z.0
table_answers columns (p ∷ []) (s ∷ t ∷ sources) request keep few one free law fits z = absurd z.1
table_answers columns (p ∷ q ∷ partitions) (s ∷ sources) request keep few one free law fits z = absurd (omega (arith, few))

-- sources with nothing outstanding stand as they are
pub stand_still : (sources : List (MemoryState Chunk)) → All (λ (s : MemoryState Chunk). s.outstanding ≡ []) sources → AllZip Stands sources sources
stand_still sources idle =
    zipped-same Stands sources sources refl
    (λ k d l. record { idle = idle k d l; chunks = refl; arrive = refl; faults = refl; added = []; journal = sym (append-nil _) })
