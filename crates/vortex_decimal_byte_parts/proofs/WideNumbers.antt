-- The number of two parts, as it is computed in 128 bits.
use Rattle.std.proofs.Common.{◌≡◌, arith, FitsSigned, false, true}
use Rattle.std.specs.Prelude.{ℤ, pos, ◌+ℤ◌, ◌*ℤ◌, IsTrue}
use Rattle.std.specs.Int.{w128}
use Rattle.std.proofs.lemmas.Int.{ints}
use Rattle.vortex_array_types.specs.Row.{in_signed, in_unsigned, in_width}
use Rattle.vortex_array_types.specs.Widths.{has_no_sign}
use Rattle.vortex_array_types.specs.declared.types.PType.{PType}
use Rattle.vortex_decimal_byte_parts.proofs.NumberBounds.{signed-width, unsigned-width}

high_fits : (m : ℤ) → IsTrue (in_signed 64 m) → FitsSigned w128 (m *ℤ pos (18446744073709551616))
high_fits m h = grind (arith, ints)

both_fit : (m n : ℤ) → IsTrue (in_signed 64 m) → IsTrue (in_unsigned 64 n) → FitsSigned w128 ((m *ℤ pos (18446744073709551616)) +ℤ n)
both_fit m n h k = grind (arith, ints)

-- a number of a signed width times 2^64
pub high-fits : (w : PType) (m : ℤ) → has_no_sign w ≡ false → IsTrue (in_width w m) → FitsSigned w128 (m *ℤ pos (18446744073709551616))
high-fits w m e h = high_fits m (signed-width w m e h)

-- and a number of an unsigned width added to it
pub both-fit : (v w : PType) (m n : ℤ) → has_no_sign v ≡ false → has_no_sign w ≡ true → IsTrue (in_width v m) → IsTrue (in_width w n) → FitsSigned w128 ((m *ℤ pos (18446744073709551616)) +ℤ n)
both-fit v w m n d e h k = both_fit m n (signed-width v m d h) (unsigned-width w n e k)
