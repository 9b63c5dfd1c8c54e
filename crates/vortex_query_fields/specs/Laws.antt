-- What is written is read as the same.
use Rattle.std.specs.Prelude.{◌≡◌, ◌<◌, ◌^◌, ◌&&◌, ℕ, Bool, true, IsTrue, List, length, nat_lt, unsigned_abs, Option, Some, None, if◌then◌else◌}
use Rattle.std.specs.List.{list_all}
use Rattle.std.specs.Str.{is_utf8}
use Rattle.vortex_array_types.specs.declared.types.DType.{DType}
use Rattle.vortex_array_types.specs.declared.types.DType.TheVariants as dtype
use Rattle.vortex_array_types.specs.declared.scalar.Value.{Value}
use Rattle.vortex_array_types.specs.declared.scalar.Value.TheVariants as value
use Rattle.vortex_array_types.specs.declared.column.ColumnDesc.{ColumnDesc}
use Rattle.vortex_array_types.specs.Row.{is_nullable, value_fits}
use Rattle.vortex_query_fields.specs.Columns.{column_spelled, header_text}
use Rattle.vortex_query_fields.specs.Decimals.{is_scale}
use Rattle.vortex_query_fields.specs.Numbers.{is_count}
use Rattle.vortex_query_fields.specs.Types.{type_spelled, type_text}
use Rattle.vortex_query_fields.specs.Values.{field_spelled, is_empty}
use Rattle.vortex_query_fields.specs.Written.{field_text}

-- the type has a name: a decimal has 1 to 38 digits, and 0 to 38 behind the point
abbrev pub has_name : DType → Bool
has_name (dtype.Decimal digits _) = is_count 38 digits.precision && is_scale digits.scale
has_name _ = true

-- the name of a type is read as the type
abbrev pub TypesAreRead : Type 0
TypesAreRead = (t : DType) → IsTrue (has_name t) → type_spelled (type_text t) ≡ Some t

-- a header cell is read as its column, where that has a name
abbrev pub HeadersAreRead : Type 0
HeadersAreRead = (column : ColumnDesc) → 0 < length column.name → IsTrue (is_utf8 column.name) → IsTrue (has_name column.dtype) → column_spelled (header_text column) ≡ Some column

-- numbers below 256
abbrev pub are_bytes : List ℕ → Bool
are_bytes bytes = list_all (λ b. nat_lt b 256) bytes

-- the value is one of the type: besides what fits, a decimal has at most so many digits, a text is UTF-8, and bytes are bytes
abbrev pub is_held : DType → Value → Bool
is_held (dtype.Decimal digits _) (value.Decimal n) = nat_lt (unsigned_abs n) (10 ^ digits.precision)
is_held t (value.Utf8 text) = value_fits t (value.Utf8 text) && is_utf8 text
is_held t (value.Binary bytes) = value_fits t (value.Binary bytes) && are_bytes bytes
is_held t v = value_fits t v

-- a row of the type
abbrev pub is_row : DType → Option Value → Bool
is_row t None = is_nullable t
is_row t (Some v) = is_held t v

-- the row that is read where this one is written: in a column with nulls the empty text, and no bytes, are read as null
abbrev pub read_back : DType → Option Value → Option Value
read_back t row = if is_nullable t && is_empty (field_text t row) then None else row

-- a field is read as its row, but for the empty texts and bytes of columns with nulls
abbrev pub FieldsAreRead : Type 0
FieldsAreRead = (t : DType) (row : Option Value) → IsTrue (has_name t) → IsTrue (is_row t row) → field_spelled t (field_text t row) ≡ Some (read_back t row)
