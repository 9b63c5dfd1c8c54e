-- Builders whatever the kind of their rows.
use Rattle.std.specs.Prelude.{ℕ, Bool, true, false, [], min}
use Rattle.vortex_array_types.specs.declared.types.DType.{DType}
use Rattle.vortex_array_types.specs.declared.types.DType.TheVariants.{Primitive, Utf8, Binary}
use Rattle.vortex_array_types.specs.declared.types.PType.{PType}
use Rattle.vortex_array_types.specs.declared.types.PType.TheVariants as width
use Rattle.vortex_array_types.specs.declared.types.Nullability.{Nullability}
use Rattle.vortex_dict_builders.specs.declared.constraints.DictConstraints.{DictConstraints}
use Rattle.vortex_dict_builders.specs.Encoder.{Encoder}
use Rattle.vortex_dict_builders.specs.Widths.{least_code, width_encoder}
use Rattle.vortex_dict_builders.specs.declared.any.AnyDictEncoder.{AnyDictEncoder}
use Rattle.vortex_dict_builders.specs.declared.any.AnyDictEncoder.TheVariants.{U8, U16, U32, U64, I8, I16, I32, I64, Strings}

-- the builder
abbrev pub any_encoder : AnyDictEncoder → Encoder
any_encoder (U8 encoder) = width_encoder encoder
any_encoder (U16 encoder) = width_encoder encoder
any_encoder (U32 encoder) = width_encoder encoder
any_encoder (U64 encoder) = width_encoder encoder
any_encoder (I8 encoder) = width_encoder encoder
any_encoder (I16 encoder) = width_encoder encoder
any_encoder (I32 encoder) = width_encoder encoder
any_encoder (I64 encoder) = width_encoder encoder
any_encoder (Strings encoder) = width_encoder encoder

-- a builder without entries
abbrev pub empty_encoder : DType → DictConstraints → PType → Encoder
empty_encoder t limits codes = record { dtype = t; entries = []; limits = limits; width = codes }

-- the type is one that is encoded: whole numbers, texts or bytes
abbrev pub is_encoded_type : DType → Bool
is_encoded_type (Primitive w n) = true
is_encoded_type (Utf8 n) = true
is_encoded_type (Binary n) = true
is_encoded_type t = false

-- how many entries numbers of a width may have: the limit, or one more than there are numbers where that is less
abbrev pub number_bound : PType → ℕ → ℕ
number_bound width.U8 max_len = min max_len 257
number_bound width.I8 max_len = min max_len 257
number_bound width.U16 max_len = min max_len 65537
number_bound width.I16 max_len = min max_len 65537
number_bound width.U32 max_len = min max_len 4294967297
number_bound width.I32 max_len = min max_len 4294967297
number_bound width.U64 max_len = max_len
number_bound width.I64 max_len = max_len

-- the builder of a width of numbers
abbrev pub numbers_encoder : PType → Nullability → DictConstraints → Encoder
numbers_encoder w n limits = empty_encoder (Primitive w n) limits (least_code (number_bound w limits.max_len))

-- the builder of a type
abbrev pub encoder_for : DType → DictConstraints → Encoder
encoder_for (Primitive w n) limits = numbers_encoder w n limits
encoder_for t limits = empty_encoder t limits (least_code limits.max_len)

-- the builder of a type that lets each of so many rows in
abbrev pub unlimited : DType → ℕ → Encoder
unlimited t n = empty_encoder t (record { max_bytes = 18446744073709551615; max_len = 18446744073709551615 }) (least_code n)
