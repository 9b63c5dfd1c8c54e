-- Lists of bytes as values: texts, or bytes of any kind.
use Rattle.std.specs.Prelude.{ℕ, Bool, true, false, List, All, IsUtf8, map}
use Rattle.vortex_array_types.specs.declared.types.DType.{DType}
use Rattle.vortex_array_types.specs.declared.types.DType.TheVariants as dtype
use Rattle.vortex_array_types.specs.declared.types.Nullability.{Nullability}
use Rattle.vortex_array_types.specs.declared.scalar.Value.{Value}
use Rattle.vortex_array_types.specs.declared.scalar.Value.TheVariants as value
use Rattle.vortex_array_kinds.specs.Parts.{StringParts}
use Rattle.vortex_array_kinds.specs.declared.strings.StringKind.{StringKind}
use Rattle.vortex_array_kinds.specs.declared.strings.StringKind.TheVariants.{Utf8, Binary}

-- a type of texts
abbrev pub is_text_type : DType → Bool
is_text_type (dtype.Utf8 n) = true
is_text_type _ = false

-- a type of texts or of bytes
abbrev pub is_string_type : DType → Bool
is_string_type (dtype.Utf8 n) = true
is_string_type (dtype.Binary n) = true
is_string_type _ = false

-- the type of texts, or that of bytes
abbrev pub string_type : StringKind → Nullability → DType
string_type Utf8 n = dtype.Utf8 n
string_type Binary n = dtype.Binary n

-- bytes as a value: a text, or bytes
abbrev pub string_value : StringKind → List ℕ → Value
string_value Utf8 bytes = value.Utf8 bytes
string_value Binary bytes = value.Binary bytes

-- bytes as a value of a type
abbrev pub bytes_value : DType → List ℕ → Value
bytes_value (dtype.Utf8 n) bytes = value.Utf8 bytes
bytes_value _ bytes = value.Binary bytes

-- lists of bytes as values
abbrev pub strings_of : StringParts → List Value
strings_of s = map (string_value s.kind) s.lists

-- a text is UTF-8
abbrev pub IsString : StringKind → List ℕ → Type 0
IsString Utf8 bytes = IsUtf8 bytes
IsString Binary bytes = Unit

-- each list is a text, or bytes
abbrev pub AreStrings : StringKind → List (List ℕ) → Type 0
AreStrings kind lists = All (IsString kind) lists
