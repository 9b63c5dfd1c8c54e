-- The name and the numbers that a text spells: its records are those of `csv`.
use Rattle.std.specs.Prelude.{◌≡◌, ℕ, List, [], ◌∷◌, ◌++◌, length, nat_le, Option, Some, None, option_and_then, option_map, if◌then◌else◌}
use Rattle.csv.specs.Reading.{default_config, records, strip_bom}
use Rattle.csv.specs.declared.reader.Reader.{Reader}
use Rattle.vortex_query.specs.Fields.{header_name, row_number}
use Rattle.vortex_query.specs.Left.{Left}
use Rattle.vortex_query.specs.declared.table_text.numbered.NamedNumbers.{NamedNumbers}

-- a name, and the numbers under it
pub record NumberedColumn : Type 0 where
  pub name : List ℕ
  pub numbers : List ℕ

-- what contracts see of such a column
abbrev pub column_seen : NamedNumbers → NumberedColumn
column_seen column = record { name = column.name; numbers = column.numbers.items }

-- these numbers, and then those
abbrev pub preceded : List ℕ → Option (List ℕ) → Option (List ℕ)
preceded ns more = option_map (λ ms. ns ++ ms) more

-- the numbers of the rows, where each spells one
unfoldable pub rows_numbers : List (List (List ℕ)) → Option (List ℕ)
rows_numbers [] = Some []
rows_numbers (fields ∷ rest) = option_and_then (λ n. preceded (n ∷ []) (rows_numbers rest)) (row_number fields)

-- the numbers where they are at most 65,536
abbrev pub few : List ℕ → Option (List ℕ)
few numbers = if nat_le (length numbers) 65536 then Some numbers else None

-- the numbers of the rows, where each spells one and they are few
abbrev pub few_numbers : List (List (List ℕ)) → Option (List ℕ)
few_numbers rows = option_and_then few (rows_numbers rows)

-- the numbers under a name, where they are few
abbrev pub under_name : List ℕ → Option (List ℕ) → Option NumberedColumn
under_name name numbers = option_map (λ ns. record { name = name; numbers = ns }) (option_and_then few numbers)

-- the column of the records: a header, and a row for each number
abbrev pub column_in : List (List (List ℕ)) → Option NumberedColumn
column_in [] = None
column_in (header ∷ rows) = option_and_then (λ name. under_name name (rows_numbers rows)) (header_name header)

-- the column that the bytes spell
abbrev pub numbered : List ℕ → Option NumberedColumn
numbered bytes = column_in (records default_config (strip_bom bytes))

-- rows were read as far as those that are left: they spell these numbers, and then what the rows that are left spell
pub record Going {R : Type 0} (rem : R → Option (List ℕ)) (reader : Reader R) (rows : List (List (List ℕ))) (numbers : List ℕ) : Type 0 where
  pub rest : List (List (List ℕ))
  pub left : Left rem reader rest
  pub spells : rows_numbers rows ≡ preceded numbers (rows_numbers rest)

-- one number was read, or no row was left
abbrev pub ReadsNumber : {R : Type 0} → (R → Option (List ℕ)) → Reader R → List (List (List ℕ)) → Option ℕ → Type 0
ReadsNumber rem reader rows None = rows ≡ []
ReadsNumber rem reader rows (Some n) = Going rem reader rows (n ∷ [])

-- the name was read, under which stand the numbers of the rows that are left
pub record ReadsName {R : Type 0} (rem : R → Option (List ℕ)) (reader : Reader R) (rows : List (List (List ℕ))) (name : List ℕ) : Type 0 where
  pub rest : List (List (List ℕ))
  pub left : Left rem reader rest
  pub spells : column_in rows ≡ under_name name (rows_numbers rest)
