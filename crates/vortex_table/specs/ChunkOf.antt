-- The column that a chunk stands for, and the content that a source tells.
use Rattle.std.specs.Prelude.{List, map}
use Rattle.vortex_array_types.specs.Row.{Column}
use Rattle.vortex_array.specs.ColumnOf.{column_of}
use Rattle.vortex_table.specs.declared.chunk.Chunk.{Chunk}
use Rattle.vortex_table.specs.declared.chunk.Chunk.TheVariants.{Plain}
use Rattle.vortex_table_types.specs.Table.{Content}

-- the type and the rows of a chunk
abbrev pub chunk_column : Chunk → Column
chunk_column (Plain array) = column_of array

-- chunks by split and by column, seen as columns
abbrev pub content_of : List (List Chunk) → Content
content_of chunks = map (map chunk_column) chunks
