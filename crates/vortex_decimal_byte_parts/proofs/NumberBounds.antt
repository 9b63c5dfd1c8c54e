-- The numbers of parts lie in 64 bits, and those of two parts in 128.
use Rattle.std.proofs.Common.{suc, ◌≡◌, Bool, true, false, not, List, [], ◌∷◌, refl, arith, Option, Some, None}
use Rattle.std.specs.Prelude.{ℤ, pos, int_le, All, IsTrue}
use Rattle.std.specs.Simd.Lanes.{zip2}
use Rattle.std.proofs.lemmas.Int.{ints}
use Rattle.std.specs.List.{AllZip}
use Rattle.vortex_array_types.specs.Row.{in_signed, in_unsigned, in_width, value_fits}
use Rattle.vortex_array_types.specs.Widths.{has_no_sign}
use Rattle.vortex_array_types.specs.declared.types.DType.{DType}
use Rattle.vortex_array_types.specs.declared.types.DType.TheVariants as dtype
use Rattle.vortex_array_types.specs.declared.types.PType.{PType}
use Rattle.vortex_array_types.specs.declared.types.PType.TheVariants.{U8, U16, U32, U64, I8, I16, I32, I64}
use Rattle.vortex_array_types.specs.declared.types.Nullability.TheVariants as nulls
use Rattle.vortex_array_types.specs.declared.scalar.Value.{Value}
use Rattle.vortex_array_types.specs.declared.scalar.Value.TheVariants.{Int, Decimal}
use Rattle.vortex_decimal_byte_parts.specs.Checked.{is_lower_type, is_msp_type}
use Rattle.vortex_decimal_byte_parts.specs.Held.{Each, Holds, IsWideRow, wide}

-- a number of a signed width has 64 bits
pub signed-width : (w : PType) (n : ℤ) → has_no_sign w ≡ false → IsTrue (in_width w n) → IsTrue (in_signed 64 n)
signed-width U8 n e h = absurd (cc e)
signed-width U16 n e h = absurd (cc e)
signed-width U32 n e h = absurd (cc e)
signed-width U64 n e h = absurd (cc e)
signed-width I8 n e h = grind (arith, ints)
signed-width I16 n e h = grind (arith, ints)
signed-width I32 n e h = grind (arith, ints)
signed-width I64 n e h = h

-- a number of an unsigned width has 64 bits
pub unsigned-width : (w : PType) (n : ℤ) → has_no_sign w ≡ true → IsTrue (in_width w n) → IsTrue (in_unsigned 64 n)
unsigned-width U8 n e h = grind (arith, ints)
unsigned-width U16 n e h = grind (arith, ints)
unsigned-width U32 n e h = grind (arith, ints)
unsigned-width U64 n e h = h
unsigned-width I8 n e h = absurd (cc e)
unsigned-width I16 n e h = absurd (cc e)
unsigned-width I32 n e h = absurd (cc e)
unsigned-width I64 n e h = absurd (cc e)

pub flip : (b : Bool) → IsTrue (not b) → b ≡ false
flip true e = absurd (cc e)
flip false e = refl

-- a number of a most significant part
pub msp-number : (t : DType) (n : ℤ) → IsTrue (is_msp_type t) → IsTrue (value_fits t (Int n)) → IsTrue (in_signed 64 n)
msp-number (dtype.Primitive w m) n e h = signed-width w n (flip (has_no_sign w) e) h
msp-number (dtype.Bool m) n e h = absurd (cc e)
msp-number (dtype.Decimal d m) n e h = absurd (cc e)
msp-number (dtype.Utf8 m) n e h = absurd (cc e)
msp-number (dtype.Binary m) n e h = absurd (cc e)

-- a number of a lower part
pub lower-number : (t : DType) (n : ℤ) → IsTrue (is_lower_type t) → IsTrue (value_fits t (Int n)) → IsTrue (in_unsigned 64 n)
lower-number (dtype.Primitive w nulls.NonNullable) n e h = unsigned-width w n e h
lower-number (dtype.Primitive w nulls.Nullable) n e h = absurd (cc e)
lower-number (dtype.Bool m) n e h = absurd (cc e)
lower-number (dtype.Decimal d m) n e h = absurd (cc e)
lower-number (dtype.Utf8 m) n e h = absurd (cc e)
lower-number (dtype.Binary m) n e h = absurd (cc e)

-- numbers of 64 bits have 128
pub widened : (n : ℤ) → IsTrue (in_signed 64 n) → IsTrue (in_signed 128 n)
widened n h = grind (arith, ints)

-- and so the number of two parts
pub wide-fits : (m n : ℤ) → IsTrue (in_signed 64 m) → IsTrue (in_unsigned 64 n) → IsTrue (in_signed 128 (wide m n))
wide-fits m n h k = grind (arith, ints)

-- numbers of 64 bits are from 0 on
pub from-zero : (n : ℤ) → IsTrue (in_unsigned 64 n) → IsTrue (int_le (pos 0) n)
from-zero n h = grind (arith, ints)

-- what holds of all holds of each
pub each-of-all : {X : Type 0} (P Q : X → Type 0) (xs : List X) → ((x : X) → P x → Q x) → All P xs → Each Q xs
each-of-all P Q [] f h = tt
each-of-all P Q (x ∷ xs) f h = (f x (h 0 x (omega arith)), each-of-all P Q xs f (λ k d l. h (suc k) d (omega (arith, l))))

-- and of the joined items of two lists
pub each-joined : {X Y Z : Type 0} (f : X → Y → Z) (P : X → Type 0) (Q : Y → Type 0) (R : Z → Type 0) (xs : List X) (ys : List Y) → ((x : X) (y : Y) → P x → Q y → R (f x y)) → Each P xs → Each Q ys → Each R (zip2 f xs ys)
each-joined f P Q R [] ys k h i = tt
each-joined f P Q R (x ∷ xs) [] k h i = tt
each-joined f P Q R (x ∷ xs) (y ∷ ys) k h i = (k x y h.0 i.0, each-joined f P Q R xs ys k h.1 i.1)

wide_row : (row : Option Value) (n : ℤ) → Holds Decimal row n → IsTrue (in_signed 128 n) → IsWideRow row
wide_row None n h w = tt
wide_row (Some v) n h w = rw h w

-- rows whose numbers have 128 bits
pub wide-rows : (rows : List (Option Value)) (ns : List ℤ) → AllZip (Holds Decimal) rows ns → Each (λ n. IsTrue (in_signed 128 n)) ns → Each IsWideRow rows
wide-rows [] [] h w = tt
wide-rows [] (n ∷ ns) h w = absurd h
wide-rows (r ∷ rows) [] h w = absurd h
wide-rows (r ∷ rows) (n ∷ ns) h w = (wide_row r n h.0 w.0, wide-rows rows ns h.1 w.1)
