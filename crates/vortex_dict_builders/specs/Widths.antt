-- Builders whatever the width of their codes.
use Rattle.std.specs.Prelude.{ℕ, cond, nat_le}
use Rattle.vortex_array_types.specs.declared.types.PType.{PType}
use Rattle.vortex_array_types.specs.declared.types.PType.TheVariants as width
use Rattle.vortex_dict_builders.specs.Encoder.{Encoder}
use Rattle.vortex_dict_builders.specs.declared.widths.AnyWidth.{AnyWidth}
use Rattle.vortex_dict_builders.specs.declared.widths.AnyWidth.TheVariants.{U8, U16, U32, U64}

-- the least width of codes that holds a bound
abbrev pub least_code : ℕ → PType
least_code bound = cond (nat_le bound 255) width.U8 (cond (nat_le bound 65535) width.U16 (cond (nat_le bound 4294967295) width.U32 width.U64))

-- the builder
abbrev pub width_encoder : {E S : Type 0} → AnyWidth E S → Encoder
width_encoder {E} {S} (U8 builder) = builder
width_encoder {E} {S} (U16 builder) = builder
width_encoder {E} {S} (U32 builder) = builder
width_encoder {E} {S} (U64 builder) = builder
