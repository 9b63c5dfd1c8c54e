-- The names of types, and the types that they spell.
use Rattle.std.specs.Prelude.{ℕ, pos, ◌+◌, ◌-◌, ◌==◌, ◌&&◌, not, Bool, List, [], ◌∷◌, ◌++◌, codes, decimal, drop, find, get_or, length, position, take, unsigned_abs, Option, Some, None, option_and_then, option_map, nat_lt, if◌then◌else◌}
use Rattle.std.specs.Str.{bytes_eq}
use Rattle.vortex_array_types.specs.declared.types.PType.{PType}
use Rattle.vortex_array_types.specs.declared.types.PType.TheVariants.{U8, U16, U32, U64, I8, I16, I32, I64}
use Rattle.vortex_array_types.specs.declared.types.Nullability.TheVariants.{NonNullable}
use Rattle.vortex_array_types.specs.declared.types.DType.{DType}
use Rattle.vortex_array_types.specs.declared.types.DType.TheVariants as dtype
use Rattle.vortex_array_types.specs.Row.{is_nullable}
use Rattle.vortex_array_types.specs.Widths.{nullable_form}
use Rattle.vortex_query_fields.specs.Numbers.{below, number_after}

-- the name of a width
abbrev pub width_text : PType → List ℕ
width_text U8 = codes "u8"
width_text U16 = codes "u16"
width_text U32 = codes "u32"
width_text U64 = codes "u64"
width_text I8 = codes "i8"
width_text I16 = codes "i16"
width_text I32 = codes "i32"
width_text I64 = codes "i64"

-- the name of a type, without its nulls
abbrev pub kind_text : DType → List ℕ
kind_text (dtype.Bool _) = codes "bool"
kind_text (dtype.Primitive width _) = width_text width
kind_text (dtype.Decimal d _) = codes "decimal(" ++ decimal d.precision ++ codes " " ++ decimal (unsigned_abs d.scale) ++ codes ")"
kind_text (dtype.Utf8 _) = codes "utf8"
kind_text (dtype.Binary _) = codes "binary"

-- the name of a type: a question mark tells of nulls
abbrev pub type_text : DType → List ℕ
type_text t = kind_text t ++ (if is_nullable t then codes "?" else [])

-- the width that has this name
abbrev pub width_spelled : List ℕ → Option PType
width_spelled text = find (λ width. bytes_eq text (width_text width)) (U8 ∷ U16 ∷ U32 ∷ U64 ∷ I8 ∷ I16 ∷ I32 ∷ I64 ∷ [])

-- the type of one word that has this name
abbrev pub word_spelled : List ℕ → Option DType
word_spelled text = find (λ t. bytes_eq text (kind_text t)) (dtype.Bool NonNullable ∷ dtype.Utf8 NonNullable ∷ dtype.Binary NonNullable ∷ [])

-- what stands before a last byte of this kind
abbrev pub before_last : ℕ → List ℕ → Option (List ℕ)
before_last b text = if get_or text (length text - 1) 0 == b then Some (take (length text - 1) text) else None

-- a zero before further digits
abbrev pub has_leading_zero : List ℕ → Bool
has_leading_zero digits = nat_lt 1 (length digits) && get_or digits 0 0 == 48

-- a number up to 38, in digits without leading zeros
abbrev pub count_spelled : List ℕ → Option ℕ
count_spelled digits = if nat_lt 0 (length digits) && not (has_leading_zero digits) then below 39 (number_after 0 digits) else None

-- a type of at least one digit
abbrev pub decimal_of : Option ℕ → Option ℕ → Option DType
decimal_of (Some precision) (Some scale) = if nat_lt 0 precision then Some (dtype.Decimal (record { precision = precision; scale = pos scale }) NonNullable) else None
decimal_of _ _ = None

-- how many digits there are, a space, and how many of them stand behind the point
abbrev pub digits_type : List ℕ → Option DType
digits_type text = option_and_then (λ at. decimal_of (count_spelled (take at text)) (count_spelled (drop (at + 1) text))) (position (λ b. b == 32) text)

-- the decimal type that has this name
abbrev pub decimal_type_spelled : List ℕ → Option DType
decimal_type_spelled text = if bytes_eq (take 8 text) (codes "decimal(") then option_and_then digits_type (before_last 41 (drop 8 text)) else None

-- the first of two that is there
abbrev pub first_of : Option DType → Option DType → Option DType
first_of (Some t) later = Some t
first_of None later = later

-- the type without nulls that has this name
abbrev pub kind_spelled : List ℕ → Option DType
kind_spelled text = first_of (option_map (λ width. dtype.Primitive width NonNullable) (width_spelled text)) (first_of (word_spelled text) (decimal_type_spelled text))

-- the type by what stands before a question mark, if there is one
abbrev pub by_mark : List ℕ → Option (List ℕ) → Option DType
by_mark text None = kind_spelled text
by_mark text (Some kind) = option_map nullable_form (kind_spelled kind)

-- the type that has this name
abbrev pub type_spelled : List ℕ → Option DType
type_spelled text = by_mark text (before_last 63 text)
