-- The column that a chunk stands for, and the content that a source tells.
use Rattle.std.specs.Prelude.{ℕ, List, length, map, min}
use Rattle.vortex_array_types.specs.Row.{Column}
use Rattle.vortex_array.specs.ColumnOf.{column_of}
use Rattle.vortex_dict.specs.Decoded.{dict_column}
use Rattle.vortex_decimal_byte_parts.specs.Columns.{parts_column}
use Rattle.vortex_table_types.specs.Table.{Content}
use Rattle.vortex_table_chunks.specs.declared.chunk.Chunk.{Chunk}
use Rattle.vortex_table_chunks.specs.declared.chunk.Chunk.TheVariants.{Plain, Dict, Parts}

-- the type and the rows of a chunk
abbrev pub chunk_column : Chunk → Column
chunk_column (Plain array) = column_of array
chunk_column (Dict dict) = dict_column dict
chunk_column (Parts parts) = parts_column parts

-- chunks by split and by column, seen as columns
abbrev pub content_of : List (List Chunk) → Content
content_of chunks = map (map chunk_column) chunks

-- how often a test of a chunk's values is asked at most: once a row, and of a dictionary once a value where these are fewer
abbrev pub questions : Chunk → ℕ
questions (Plain array) = length (column_of array).rows
questions (Dict dict) = min (length (column_of dict.values).rows) (length (dict_column dict).rows)
questions (Parts parts) = length (parts_column parts).rows
