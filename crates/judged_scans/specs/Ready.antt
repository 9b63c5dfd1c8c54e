-- Which tables can be scanned.
use Rattle.std.specs.Prelude.{All}
use Rattle.std.specs.List.{AllZip}
use Rattle.vortex_io.specs.Memory.{MemoryState}
use Rattle.vortex_table.specs.declared.chunk.Chunk.{Chunk}
use Rattle.vortex_table.specs.Given.{contents_of}
use Rattle.vortex_table.specs.State.{ArrivesInOrder, TableState}
use Rattle.vortex_table_types.specs.Table.{FitsPartition}

-- the sources' contents fit, and each completes its oldest fetch when it is waited for
pub record IsReady (table : TableState (MemoryState Chunk)) : Type 0 where
  pub arrives : All ArrivesInOrder table.sources
  pub fits : AllZip FitsPartition table.partitions (contents_of table.sources)
