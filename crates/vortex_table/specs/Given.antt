-- What contracts see of a batch as an answer, and the content of sources in memory.
use Rattle.std.specs.Prelude.{ℕ, List, map, count_by}
use Rattle.std.specs.List.{range_with_len}
use Rattle.vortex_array.specs.ColumnOf.{column_of}
use Rattle.vortex_io.specs.Memory.{MemoryState}
use Rattle.vortex_table.specs.declared.chunk.Chunk.{Chunk}
use Rattle.vortex_scan_types.specs.declared.batch.Batch.{Batch}
use Rattle.vortex_scan_types.specs.declared.request.ScanRequest.{ScanRequest}
use Rattle.vortex_table_types.specs.Answers.{Asked, Given, asked}
use Rattle.vortex_table.specs.ChunkOf.{content_of}
use Rattle.vortex_table_types.specs.Chosen.{is_partition_chosen}
use Rattle.vortex_table.specs.State.{TableState}
use Rattle.vortex_table_types.specs.Table.{Content}

-- a batch: its scope, its number of rows, and its columns
abbrev pub given : Batch → Given
given b = record { scope = b.scope; rows = b.array.rows; columns = map column_of b.array.columns }

-- the content of each source
abbrev pub contents_of : List (MemoryState Chunk) → List Content
contents_of sources = map (λ (source : MemoryState Chunk). content_of source.chunks) sources

-- the question that a request asks of a table over sources in memory
abbrev pub question : TableState (MemoryState Chunk) → ScanRequest → Asked
question table request = asked table.columns table.partitions (contents_of table.sources) request

-- how many chosen partitions stand before this one
abbrev pub rank : ScanRequest → ℕ → ℕ
rank request partition = count_by (is_partition_chosen request) (range_with_len 0 partition)
