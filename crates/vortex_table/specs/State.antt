-- What contracts see of a table, and what a call leaves of its sources.
use Rattle.std.specs.Prelude.{◌≡◌, ℕ, ◌≤◌, List, [], ◌++◌, Option}
use Rattle.vortex_array_types.specs.declared.column.ColumnDesc.{ColumnDesc}
use Rattle.vortex_io.specs.Memory.{MemoryState}
use Rattle.vortex_io.specs.Source.{Content}
use Rattle.vortex_io.specs.declared.order.Arrive.TheVariants.{OnWait}
use Rattle.vortex_io.specs.declared.order.Order.TheVariants.{First}
use Rattle.vortex_io.specs.declared.request.Fetch.{Fetch}
use Rattle.vortex_io.specs.declared.request.JournalEntry.{JournalEntry}
use Rattle.vortex_table_types.specs.declared.describe.PartitionDesc.{PartitionDesc}

-- the columns, the partitions, and a source for each partition
pub record TableState (S : Type 0) : Type 0 where
  pub columns : List ColumnDesc
  pub partitions : List PartitionDesc
  pub sources : List S

-- a source that gave up what was outstanding, and nothing else but what it states of that call
pub record IsCleared {S C : Type 0} (outstanding : S → List Fetch) (content : S → Option (Content C)) (journal : S → Option (List JournalEntry)) (faults : S → ℕ) (clears : S → S → Type 0) (old new : S) : Type 0 where
  pub idle : outstanding new ≡ []
  pub chunks : content new ≡ content old
  pub told : journal new ≡ journal old
  pub counted : faults old ≤ faults new
  pub stated : clears old new

-- a source in memory is completed oldest first, when it is waited for
abbrev pub ArrivesInOrder : {C : Type 0} → MemoryState C → Type 0
ArrivesInOrder source = source.arrive ≡ OnWait First

-- a source in memory after a scan: nothing is outstanding, its chunks, its order and its count are as they were, its journal is only extended
pub record Stands {C : Type 0} (old new : MemoryState C) : Type 0 where
  pub idle : new.outstanding ≡ []
  pub chunks : new.chunks ≡ old.chunks
  pub arrive : new.arrive ≡ old.arrive
  pub faults : new.faults ≡ old.faults
  pub added : List JournalEntry
  pub journal : new.journal ≡ old.journal ++ added
