-- What contracts see of batches that are shown, and of a writer that shows them.
use Rattle.std.specs.Prelude.{◌≡◌, ℕ, pos, List, [], ◌∷◌, map, flat_map, false, Option, Some}
use Rattle.csv.specs.Writing.{default_writer, fields_written, has_written, text_written, writer_setup}
use Rattle.csv.specs.declared.writer.Writer.{Writer}
use Rattle.vortex_array_types.specs.declared.scalar.Value.{Value}
use Rattle.vortex_array_types.specs.declared.scalar.Value.TheVariants.{Int}
use Rattle.vortex_array_types.specs.declared.column.ColumnDesc.{ColumnDesc}
use Rattle.vortex_array_types.specs.Cells.{Row}
use Rattle.vortex_array.specs.ColumnOf.{column_of}
use Rattle.vortex_scan_types.specs.declared.batch.Batch.{Batch}
use Rattle.vortex_table.specs.Given.{given}
use Rattle.vortex_table.specs.Built.{u64_type}
use Rattle.vortex_table_types.specs.Turn.{batch_rows}

-- the rows of the batches together
abbrev pub rows_of : List Batch → List Row
rows_of batches = flat_map batch_rows (map given batches)

-- the one column has whole numbers of 64 bits without sign and without nulls
abbrev pub IsOneU64Column : List ColumnDesc → Type 0
IsOneU64Column columns = map (λ column. column.dtype) columns ≡ u64_type ∷ []

-- the batch has one column of that type
abbrev pub IsOneU64Batch : Batch → Type 0
IsOneU64Batch b = map (λ array. (column_of array).dtype) b.array.columns ≡ u64_type ∷ []

-- a row of one value
abbrev pub one_value : Option Value → Row
one_value v = v ∷ []

-- a number as a row of one value
abbrev pub number_row : ℕ → Row
number_row n = Some (Int (pos n)) ∷ []

-- a writer of `csv` with the default settings that has written this text and stands between two rows
pub record Holds {W : Type 0} (contents : W → Option (List ℕ)) (writer : Writer W) (text : List ℕ) : Type 0 where
  pub setup : writer_setup writer ≡ default_writer
  pub fields : fields_written writer ≡ 0
  pub fresh : has_written writer ≡ false
  pub written : text_written contents writer ≡ Some text
