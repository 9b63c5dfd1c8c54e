-- Header cells: a name, a colon and a type.
use Rattle.std.specs.Prelude.{ℕ, ◌+◌, ◌==◌, List, [], ◌∷◌, ◌++◌, codes, drop, take, Option, Some, None, option_and_then, if◌then◌else◌}
use Rattle.vortex_array_types.specs.declared.types.DType.{DType}
use Rattle.vortex_array_types.specs.declared.column.ColumnDesc.{ColumnDesc}
use Rattle.vortex_query_fields.specs.Types.{type_spelled, type_text}
use Rattle.vortex_query_fields.specs.Values.{text_spelled}

-- what stands above a column
abbrev pub header_text : ColumnDesc → List ℕ
header_text column = column.name ++ codes ":" ++ type_text column.dtype

-- the place of the last byte of this kind
unfoldable pub last_place : ℕ → List ℕ → Option ℕ
last_place b [] = None
last_place b (c ∷ rest) = earlier (last_place b rest)
  where
    earlier : Option ℕ → Option ℕ
    earlier (Some at) = Some (at + 1)
    earlier None = if c == b then Some 0 else None

-- a name that is not empty
abbrev pub name_spelled : List ℕ → Option (List ℕ)
name_spelled [] = None
name_spelled (b ∷ rest) = text_spelled (b ∷ rest)

-- a column of this name and this type, where both are there
abbrev pub column_of : Option (List ℕ) → Option DType → Option ColumnDesc
column_of (Some name) (Some t) = Some (record { name = name; dtype = t })
column_of _ _ = None

-- the column that a cell spells: the last colon divides
abbrev pub column_spelled : List ℕ → Option ColumnDesc
column_spelled cell = option_and_then (λ at. column_of (name_spelled (take at cell)) (type_spelled (drop (at + 1) cell))) (last_place 58 cell)
