-- What contracts see of a table.
use Rattle.std.specs.Prelude.{List}
use Rattle.vortex_array_types.specs.declared.column.ColumnDesc.{ColumnDesc}
use Rattle.vortex_table_types.specs.declared.describe.PartitionDesc.{PartitionDesc}

-- the columns, the partitions, and a source for each partition
pub record TableState (S : Type 0) : Type 0 where
  pub columns : List ColumnDesc
  pub partitions : List PartitionDesc
  pub sources : List S
