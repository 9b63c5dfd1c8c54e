-- The texts of values, as fields have them.
use Rattle.std.specs.Prelude.{ℕ, zero, suc, ℤ, pos, negsuc, ◌/◌, ◌%◌, ◌-◌, ◌^◌, Bool, true, false, List, [], ◌++◌, codes, decimal, length, replicate, unsigned_abs, Option, Some, None}
use Rattle.vortex_array_types.specs.declared.types.DType.{DType}
use Rattle.vortex_array_types.specs.declared.types.DType.TheVariants as dtype
use Rattle.vortex_array_types.specs.declared.scalar.Value.{Value}
use Rattle.vortex_array_types.specs.declared.scalar.Value.TheVariants as value
use Rattle.vortex_query_fields.specs.Decimals.{is_scale}
use Rattle.vortex_query_fields.specs.Hex.{hex_text}

-- the sign of a number, where it is negative
abbrev pub sign : ℤ → List ℕ
sign (pos n) = []
sign (negsuc n) = codes "-"

-- a whole number, without leading zeros
abbrev pub whole_text : ℤ → List ℕ
whole_text z = sign z ++ decimal (unsigned_abs z)

-- digits with as many zeros before them as make this width
abbrev pub filled : ℕ → ℕ → List ℕ
filled width n = replicate (width - length (decimal n)) 48 ++ decimal n

-- a point and exactly so many digits; nothing for none
abbrev pub behind_point : ℕ → ℕ → List ℕ
behind_point zero n = []
behind_point (suc scale) n = codes "." ++ filled (suc scale) (n % 10 ^ suc scale)

-- an unscaled number, with its point and as many digits behind it
abbrev pub decimal_text : ℕ → ℤ → List ℕ
decimal_text scale z = sign z ++ decimal (unsigned_abs z / 10 ^ scale) ++ behind_point scale (unsigned_abs z)

-- how many digits stand behind the point
abbrev pub scale_of : DType → ℕ
scale_of (dtype.Decimal digits _) = unsigned_abs digits.scale
scale_of _ = 0

-- a decimal has 0 to 38 digits behind the point
abbrev pub has_text : DType → Bool
has_text (dtype.Decimal digits _) = is_scale digits.scale
has_text _ = true

-- a truth
abbrev pub truth_text : Bool → List ℕ
truth_text true = codes "true"
truth_text false = codes "false"

-- a value of a type
abbrev pub value_text : DType → Value → List ℕ
value_text t (value.Bool b) = truth_text b
value_text t (value.Int n) = whole_text n
value_text t (value.Decimal n) = decimal_text (scale_of t) n
value_text t (value.Utf8 text) = text
value_text t (value.Binary bytes) = hex_text bytes

-- a row of a type: null is empty
abbrev pub field_text : DType → Option Value → List ℕ
field_text t None = []
field_text t (Some v) = value_text t v
