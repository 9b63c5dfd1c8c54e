-- The numbers of a width are those from its least to its greatest.
use Rattle.std.proofs.Common.{◌≡◌, refl, ap, ℕ, suc, ℤ, pos, negsuc, ◌&&◌, int_le, int_lt}
use lib.Dec.{leb-suc-suc}
use Rattle.vortex_array_types.specs.declared.types.PType.{PType}
use Rattle.vortex_array_types.specs.declared.types.PType.TheVariants.{U8, U16, U32, U64, I8, I16, I32, I64}
use Rattle.vortex_array_types.specs.Row.{in_width}
use Rattle.vortex_array_types.specs.Widths.{least, greatest}

-- below the next number is at most this one
below_next : (n : ℕ) (z : ℤ) → int_lt z (pos (suc n)) ≡ int_le z (pos n)
below_next n (pos a) = leb-suc-suc a n
below_next n (negsuc a) = refl

pub in_width_between : (w : PType) (z : ℤ) → in_width w z ≡ (int_le (least w) z && int_le z (greatest w))
in_width_between U8 z = ap (λ b. int_le (least U8) z && b) (below_next 255 z)
in_width_between U16 z = ap (λ b. int_le (least U16) z && b) (below_next 65535 z)
in_width_between U32 z = ap (λ b. int_le (least U32) z && b) (below_next 4294967295 z)
in_width_between U64 z = ap (λ b. int_le (least U64) z && b) (below_next 18446744073709551615 z)
in_width_between I8 z = ap (λ b. int_le (least I8) z && b) (below_next 127 z)
in_width_between I16 z = ap (λ b. int_le (least I16) z && b) (below_next 32767 z)
in_width_between I32 z = ap (λ b. int_le (least I32) z && b) (below_next 2147483647 z)
in_width_between I64 z = ap (λ b. int_le (least I64) z && b) (below_next 9223372036854775807 z)
