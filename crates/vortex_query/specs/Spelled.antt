-- The table that a text spells: its numbers are cut into partitions, and these into splits.
use Rattle.std.specs.Prelude.{◌≡◌, ℕ, ◌*◌, pos, List, [], ◌∷◌, length, map, take, drop, Option, Some, None, option_map}
use Rattle.std.specs.Int.{div_ceil}
use Rattle.std.specs.List.{range_with_len}
use Rattle.vortex_array_types.specs.declared.scalar.Value.TheVariants.{Int}
use Rattle.vortex_array_types.specs.declared.column.ColumnDesc.{ColumnDesc}
use Rattle.vortex_array_types.specs.Row.{Column}
use Rattle.vortex_io.specs.declared.order.Arrive.TheVariants.{OnWait}
use Rattle.vortex_io.specs.declared.order.Order.{Order}
use Rattle.vortex_io.specs.declared.order.Order.TheVariants.{First}
use Rattle.vortex_table_types.specs.declared.describe.PartitionDesc.{PartitionDesc}
use Rattle.vortex_table_types.specs.declared.describe.SplitDesc.{SplitDesc}
use Rattle.vortex_io.specs.Memory.{MemoryState}
use Rattle.vortex_table.specs.declared.chunk.Chunk.{Chunk}
use Rattle.vortex_table.specs.Built.{u64_type}
use Rattle.vortex_table.specs.Given.{contents_of}
use Rattle.vortex_table.specs.State.{TableState}
use Rattle.vortex_table_types.specs.Table.{Content}
use Rattle.vortex_query.specs.Numbered.{NumberedColumn, numbered}
use Rattle.vortex_query.specs.declared.options.Encode.TheVariants.{Plain}
use Rattle.vortex_query.specs.declared.options.Options.{Options}

-- the columns and partitions of a table, and what its sources hold
pub record SpelledTable : Type 0 where
  pub columns : List ColumnDesc
  pub partitions : List PartitionDesc
  pub contents : List Content

-- what contracts see of a table
abbrev pub table_seen : TableState (MemoryState Chunk) → SpelledTable
table_seen table = record { columns = table.columns; partitions = table.partitions; contents = contents_of table.sources }

-- a source of which nothing was asked yet, and that completes fetches in this order, when it is waited for
pub record IsFresh (order : Order) (source : MemoryState Chunk) : Type 0 where
  pub arrive : source.arrive ≡ OnWait order
  pub idle : source.outstanding ≡ []
  pub journal : source.journal ≡ []
  pub faults : source.faults ≡ 0

-- what holds where no option is given
abbrev pub default_options : Options
default_options = record { partition_rows = 65536; split_rows = 8192; encode = Plain; arrive = First; steps = None }

-- piece k of the pieces of n items each, the last of which may be shorter
abbrev pub piece : {X : Type 0} → ℕ → List X → ℕ → List X
piece n xs k = take n (drop (n * k) xs)

-- the pieces of n items each, as many as the items need
abbrev pub pieces : {X : Type 0} → ℕ → List X → List (List X)
pieces n xs = map (piece n xs) (range_with_len 0 (div_ceil (length xs) n))

-- numbers as a column
abbrev pub numbers_column : List ℕ → Column
numbers_column numbers = record { dtype = u64_type; rows = map (λ n. Some (Int (pos n))) numbers }

-- a split of these numbers: one chunk
abbrev pub split_of : List ℕ → SplitDesc
split_of numbers = record { rows = length numbers; chunks = record { rows = length numbers; dtype = u64_type } ∷ [] }

-- a partition of these numbers, in splits of n rows
abbrev pub partition_of : ℕ → List ℕ → PartitionDesc
partition_of n numbers = record { splits = map split_of (pieces n numbers) }

-- what the source of such a partition holds
abbrev pub chunks_of : ℕ → List ℕ → Content
chunks_of n numbers = map (λ part. numbers_column part ∷ []) (pieces n numbers)

-- the table of a column, in partitions of so many rows and splits of so many
abbrev pub cut : ℕ → ℕ → NumberedColumn → SpelledTable
cut partition_rows split_rows column = record {
  columns = record { name = column.name; dtype = u64_type } ∷ [];
  partitions = map (partition_of split_rows) (pieces partition_rows column.numbers);
  contents = map (chunks_of split_rows) (pieces partition_rows column.numbers);
}

-- the table that the bytes spell
abbrev pub spelled : List ℕ → Option SpelledTable
spelled bytes = option_map (cut default_options.partition_rows default_options.split_rows) (numbered bytes)
