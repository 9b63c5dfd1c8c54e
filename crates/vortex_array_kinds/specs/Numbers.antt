-- The numbers that a buffer keeps.
use Rattle.std.specs.Prelude.{ℕ, ℤ, pos, List, map, length}
use Rattle.vortex_array_types.specs.declared.types.PType.{PType}
use Rattle.vortex_array_types.specs.declared.types.PType.TheVariants as width
use Rattle.vortex_array_kinds.specs.declared.primitives.PrimitiveBuffer.{PrimitiveBuffer}
use Rattle.vortex_array_kinds.specs.declared.primitives.PrimitiveBuffer.TheVariants as whole
use Rattle.vortex_array_kinds.specs.declared.decimals.DecimalBuffer.{DecimalBuffer}
use Rattle.vortex_array_kinds.specs.declared.decimals.DecimalBuffer.TheVariants as unscaled
use Rattle.vortex_array_kinds.specs.declared.widths.WideNumber.{WideNumber}
use Rattle.vortex_array_kinds.specs.declared.widths.WideNumber.TheVariants.{Signed, Unsigned}

-- the numbers of a buffer
abbrev pub numbers_of : PrimitiveBuffer → List ℤ
numbers_of (whole.U8 b) = map (λ x. pos x) b
numbers_of (whole.U16 b) = map (λ x. pos x) b
numbers_of (whole.U32 b) = map (λ x. pos x) b
numbers_of (whole.U64 b) = map (λ x. pos x) b
numbers_of (whole.I8 b) = map (λ x. x) b
numbers_of (whole.I16 b) = map (λ x. x) b
numbers_of (whole.I32 b) = map (λ x. x) b
numbers_of (whole.I64 b) = map (λ x. x) b

-- how many numbers a buffer has
abbrev pub len_of : PrimitiveBuffer → ℕ
len_of b = length (numbers_of b)

-- the width of its numbers
abbrev pub ptype_of : PrimitiveBuffer → PType
ptype_of (whole.U8 b) = width.U8
ptype_of (whole.U16 b) = width.U16
ptype_of (whole.U32 b) = width.U32
ptype_of (whole.U64 b) = width.U64
ptype_of (whole.I8 b) = width.I8
ptype_of (whole.I16 b) = width.I16
ptype_of (whole.I32 b) = width.I32
ptype_of (whole.I64 b) = width.I64

-- the number of 64 bits, with a sign or without
abbrev pub wide_number : WideNumber → ℤ
wide_number (Signed n) = n
wide_number (Unsigned n) = pos n

-- the unscaled numbers of a buffer
abbrev pub unscaled_of : DecimalBuffer → List ℤ
unscaled_of (unscaled.I8 b) = map (λ x. x) b
unscaled_of (unscaled.I16 b) = map (λ x. x) b
unscaled_of (unscaled.I32 b) = map (λ x. x) b
unscaled_of (unscaled.I64 b) = map (λ x. x) b
unscaled_of (unscaled.I128 b) = map (λ x. x) b
