-- The lines of numbers.
use Rattle.std.proofs.Common.{◌≡◌, ◌<◌, ◌+◌, ◌++◌, ◌∙◌, ap, sym, refl, arith, add-one, ℕ, zero, suc, List, [], ◌∷◌, length, map, take, get_or, append_assoc}
use Rattle.std.specs.Prelude.{decimal, flat_map, All, Option}
use Rattle.std.specs.List.{range_with_len}
use Rattle.std.proofs.lemmas.List.{append-nil, flat_map_more, map_more}
use Rattle.std.proofs.lemmas.Grind.{flat_map-append}
use Rattle.csv.specs.Writing.{default_writer, row_text}
use Rattle.vortex_array_types.specs.declared.types.DType.{DType}
use Rattle.vortex_array_types.specs.declared.scalar.Value.{Value}
use Rattle.vortex_array_types.specs.declared.column.ColumnDesc.{ColumnDesc}
use Rattle.vortex_array.specs.declared.arrays.Array.{Array}
use Rattle.vortex_array.specs.Batch.{HasRows}
use Rattle.vortex_array_types.specs.Cells.{Row}
use Rattle.vortex_array_types.specs.Row.{Column}
use Rattle.vortex_array.specs.ColumnOf.{column_of}
use Rattle.vortex_scan_types.specs.declared.request.Projection.{Projection}
use Rattle.vortex_scan_types.specs.declared.request.Projection.TheVariants as projection
use Rattle.vortex_table.specs.Built.{u64_type}
use Rattle.vortex_table.specs.Given.{given}
use Rattle.vortex_table.specs.Scanning.{u64_column, u64_row}
use Rattle.vortex_table_types.specs.Table.{row_at}
use Rattle.vortex_scan_types.specs.declared.batch.Batch.{Batch}
use Rattle.vortex_table_types.specs.Turn.{batch_rows}
use Rattle.vortex_query.specs.Shown.{IsOneU64Column, number_row, one_value, rows_of}
use Rattle.vortex_query.specs.Text.{header_cell, line_text, text}

-- the line of a number under the one column
pub number_line : (columns : List ColumnDesc) (n : ℕ) → IsOneU64Column columns → line_text columns (number_row n) ≡ row_text default_writer (decimal n ∷ [])
number_line [] n e = absurd (cc e)
number_line (c ∷ []) n e = refl
number_line (c ∷ d ∷ rest) n e = absurd (cc e)

-- the lines of one more number
pub more_lines : (columns : List ColumnDesc) (written : List ℕ) (numbers : List ℕ) (i : ℕ) → IsOneU64Column columns → i < length numbers
    → (written ++ flat_map (line_text columns) (map number_row (take i numbers))) ++ row_text default_writer (decimal (get_or numbers i 0) ∷ [])
    ≡ written ++ flat_map (line_text columns) (map number_row (take (i + 1) numbers))
more_lines columns written numbers i one h =
    let before : List Row = map number_row (take i numbers) in
    let n : ℕ = get_or numbers i 0 in
    ap (λ line. (written ++ flat_map (line_text columns) before) ++ line) (sym (number_line columns n one))
    ∙ flat_map_more (line_text columns) written before (number_row n)
    ∙ ap (λ rows. written ++ flat_map (line_text columns) rows) (sym (map_more number_row numbers i 0 h))

-- the text under one column that is shown: its header and the lines
pub one_header : (columns : List ColumnDesc) (p : Projection) (d : ColumnDesc) (rows : List Row) → IsOneU64Column columns → p ≡ projection.All
    → text columns p rows ≡ row_text default_writer (header_cell (get_or columns 0 d) ∷ []) ++ flat_map (line_text columns) rows
one_header [] p d rows e all = absurd (cc e)
one_header (c ∷ []) p d rows e all = rw all refl
one_header (c ∷ b ∷ rest) p d rows e all = absurd (cc e)

more_under : (columns : List ColumnDesc) (p : Projection) (d : ColumnDesc) (rows more : List Row) → IsOneU64Column columns → p ≡ projection.All
    → text columns p (rows ++ more) ≡ text columns p rows ++ flat_map (line_text columns) more
more_under columns p d rows more e all =
    let header : List ℕ = row_text default_writer (header_cell (get_or columns 0 d) ∷ []) in
    one_header columns p d (rows ++ more) e all
    ∙ ap (λ lines. header ++ lines) (flat_map-append (line_text columns) rows more)
    ∙ sym (append_assoc header (flat_map (line_text columns) rows) (flat_map (line_text columns) more))
    ∙ ap (λ t. t ++ flat_map (line_text columns) more) (sym (one_header columns p d rows e all))

-- more rows are more lines
pub more_rows : (columns : List ColumnDesc) (p : Projection) (rows more : List Row) → IsOneU64Column columns → p ≡ projection.All
    → text columns p (rows ++ more) ≡ text columns p rows ++ flat_map (line_text columns) more
more_rows [] p rows more e all = absurd (cc e)
more_rows (c ∷ rest) p rows more e all = more_under (c ∷ rest) p c rows more e all

-- a function of the number before, over numbers that begin one later
shifted : {Y : Type 0} (f g : ℕ → Y) → ((i : ℕ) → f (suc i) ≡ g i) → (n m : ℕ) → map f (range_with_len (n + 1) m) ≡ map g (range_with_len n m)
shifted f g e n zero = refl
shifted f g e n (suc m) = ap (λ y. y ∷ map f (range_with_len (n + 1 + 1) m)) (ap f (add-one n) ∙ e n) ∙ ap (λ r. g n ∷ r) (shifted f g e (n + 1) m)

-- one column, read row by row
one_column : (t : DType) (rows : List (Option Value)) → map one_value rows ≡ map (row_at (record { dtype = t; rows = rows } ∷ [])) (range_with_len 0 (length rows))
one_column t [] = refl
one_column t (v ∷ rows) =
    ap (λ r. one_value v ∷ r) (one_column t rows ∙ sym (shifted (row_at (record { dtype = t; rows = v ∷ rows } ∷ [])) (row_at (record { dtype = t; rows = rows } ∷ [])) (λ i. refl) 0 (length rows)))

-- numbers as rows of one value
pub numbers_as_rows : (numbers : List ℕ) → map number_row numbers ≡ map one_value (map u64_row numbers)
numbers_as_rows [] = refl
numbers_as_rows (n ∷ numbers) = ap (λ r. number_row n ∷ r) (numbers_as_rows numbers)

-- the rows of a column of numbers
pub column_rows : (c : Column) (numbers : List ℕ) → c ≡ u64_column numbers → map number_row numbers ≡ map one_value c.rows
column_rows c numbers e = numbers_as_rows numbers ∙ ap (λ d. map one_value d.rows) (sym e)

-- the one array of a batch has the type
pub one_kind : (arrays : List Array) (d : Array) → map (λ a. (column_of a).dtype) arrays ≡ u64_type ∷ [] → (column_of (get_or arrays 0 d)).dtype ≡ u64_type
one_kind [] d e = absurd (cc e)
one_kind (a ∷ []) d e = cc e
one_kind (a ∷ b ∷ rest) d e = absurd (cc e)

-- read row by row, it gives the rows of the batch
pub one_rows : (rows : ℕ) (arrays : List Array) (d : Array) → map (λ a. (column_of a).dtype) arrays ≡ u64_type ∷ [] → All (HasRows rows) arrays
    → map one_value (column_of (get_or arrays 0 d)).rows ≡ map (row_at (map column_of arrays)) (range_with_len 0 rows)
one_rows rows [] d e long = absurd (cc e)
one_rows rows (a ∷ []) d e long = rw (← long 0 a (omega arith)) (one_column (column_of a).dtype (column_of a).rows)
one_rows rows (a ∷ b ∷ rest) d e long = absurd (cc e)

-- the rows of one more batch
pub rows_more : (batches : List Batch) (i : ℕ) (b : Batch) → b ≡ get_or batches i b → i < length batches → rows_of (take (i + 1) batches) ≡ rows_of (take i batches) ++ batch_rows (given b)
rows_more batches i b is h =
    ap (flat_map batch_rows) (map_more given batches i b h)
    ∙ flat_map-append batch_rows (map given (take i batches)) (given (get_or batches i b) ∷ [])
    ∙ ap (λ rows. rows_of (take i batches) ++ rows) (append-nil (batch_rows (given (get_or batches i b))))
    ∙ ap (λ x. rows_of (take i batches) ++ batch_rows (given x)) (sym is)
