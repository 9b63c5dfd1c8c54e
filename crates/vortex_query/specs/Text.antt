-- The text of rows: a header, and a line for each row.
use Rattle.std.specs.Prelude.{ℕ, zero, suc, ℤ, pos, negsuc, ◌/◌, ◌%◌, ◌-◌, ◌^◌, List, [], ◌∷◌, ◌++◌, length, map, zip, flat_map, replicate, codes, decimal, unsigned_abs, true, false, Option, Some, None, find, if◌then◌else◌}
use Rattle.std.specs.Char.{digit_char}
use Rattle.std.specs.List.{filter_map}
use Rattle.std.specs.Str.{bytes_eq}
use Rattle.csv.specs.Writing.{default_writer, row_text}
use Rattle.vortex_array_types.specs.declared.types.PType.{PType}
use Rattle.vortex_array_types.specs.declared.types.PType.TheVariants.{U8, U16, U32, U64, I8, I16, I32, I64}
use Rattle.vortex_array_types.specs.declared.types.DType.{DType}
use Rattle.vortex_array_types.specs.declared.types.DType.TheVariants as dtype
use Rattle.vortex_array_types.specs.declared.scalar.Value.{Value}
use Rattle.vortex_array_types.specs.declared.scalar.Value.TheVariants as value
use Rattle.vortex_array_types.specs.declared.column.ColumnDesc.{ColumnDesc}
use Rattle.vortex_array_types.specs.Row.{is_nullable}
use Rattle.vortex_array_types.specs.Cells.{Row}
use Rattle.vortex_scan_types.specs.declared.request.Projection.{Projection}
use Rattle.vortex_scan_types.specs.declared.request.Projection.TheVariants.{All, Columns}

-- the name of a width
abbrev pub width_text : PType → List ℕ
width_text U8 = codes "u8"
width_text U16 = codes "u16"
width_text U32 = codes "u32"
width_text U64 = codes "u64"
width_text I8 = codes "i8"
width_text I16 = codes "i16"
width_text I32 = codes "i32"
width_text I64 = codes "i64"

-- the name of a type, without its nulls
abbrev pub kind_text : DType → List ℕ
kind_text (dtype.Bool _) = codes "bool"
kind_text (dtype.Primitive width _) = width_text width
kind_text (dtype.Decimal d _) = codes "decimal(" ++ decimal d.precision ++ codes " " ++ decimal (unsigned_abs d.scale) ++ codes ")"
kind_text (dtype.Utf8 _) = codes "utf8"
kind_text (dtype.Binary _) = codes "binary"

-- the name of a type: a question mark tells of nulls
abbrev pub type_text : DType → List ℕ
type_text t = kind_text t ++ (if is_nullable t then codes "?" else [])

-- what stands above a column: its name, a colon and its type
abbrev pub header_cell : ColumnDesc → List ℕ
header_cell column = column.name ++ codes ":" ++ type_text column.dtype

-- the sign of a number, where it is negative
abbrev pub sign : ℤ → List ℕ
sign (pos n) = []
sign (negsuc n) = codes "-"

-- a whole number, without leading zeros
abbrev pub whole_text : ℤ → List ℕ
whole_text z = sign z ++ decimal (unsigned_abs z)

-- digits with as many zeros before them as make this width
abbrev pub filled : ℕ → ℕ → List ℕ
filled width n = replicate (width - length (decimal n)) 48 ++ decimal n

-- a point and exactly so many digits; nothing for none
abbrev pub behind_point : ℕ → ℕ → List ℕ
behind_point zero n = []
behind_point (suc scale) n = codes "." ++ filled (suc scale) (n % 10 ^ suc scale)

-- an unscaled number, with its point and as many digits behind it
abbrev pub decimal_text : ℕ → ℤ → List ℕ
decimal_text scale z = sign z ++ decimal (unsigned_abs z / 10 ^ scale) ++ behind_point scale (unsigned_abs z)

-- how many digits stand behind the point
abbrev pub scale_of : DType → ℕ
scale_of (dtype.Decimal d _) = unsigned_abs d.scale
scale_of _ = 0

-- a byte in two lower-case hexadecimal digits
abbrev pub byte_text : ℕ → List ℕ
byte_text b = digit_char (b / 16) ∷ digit_char (b % 16) ∷ []

-- a value of a type
abbrev pub value_text : DType → Value → List ℕ
value_text t (value.Bool true) = codes "true"
value_text t (value.Bool false) = codes "false"
value_text t (value.Int n) = whole_text n
value_text t (value.Decimal n) = decimal_text (scale_of t) n
value_text t (value.Utf8 text) = text
value_text t (value.Binary bytes) = flat_map byte_text bytes

-- a value or null of a type: null is empty
abbrev pub field_text : DType → Option Value → List ℕ
field_text t None = []
field_text t (Some v) = value_text t v

-- the columns that are shown: all, or the named ones in their order
abbrev pub projected_columns : List ColumnDesc → Projection → List ColumnDesc
projected_columns columns All = columns
projected_columns columns (Columns names) = filter_map (λ name. find (λ column. bytes_eq column.name name) columns) names

-- the line of a row
abbrev pub line_text : List ColumnDesc → Row → List ℕ
line_text columns row = row_text default_writer (map (λ x. field_text x.0.dtype x.1) (zip columns row))

-- a header, and a line for each row; without columns a line feed for each row and no header
abbrev pub lines_text : List ColumnDesc → List Row → List ℕ
lines_text [] rows = map (λ _. 10) rows
lines_text (column ∷ columns) rows = row_text default_writer (map header_cell (column ∷ columns)) ++ flat_map (line_text (column ∷ columns)) rows

-- the text of rows that hold a value for each projected column
abbrev pub text : List ColumnDesc → Projection → List Row → List ℕ
text columns projection rows = lines_text (projected_columns columns projection) rows
