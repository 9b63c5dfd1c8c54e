-- Rows of two parts side by side, and the numbers that both parts keep.
use Rattle.std.proofs.Common.{◌≡◌, true, false, List, [], ◌∷◌, length, get_or, map, refl, sym, ap, ◌∙◌, arith, Option, Some, None}
use Rattle.std.specs.Prelude.{ℤ, pos, All, IsTrue, int_le, is_some}
use Rattle.std.specs.List.{AllZip}
use Rattle.std.specs.Simd.Lanes.{zip2}
use Rattle.std.proofs.lemmas.List.{length-map}
use Rattle.std.proofs.lemmas.Simd.{length-zip2}
use Rattle.vortex_array_types.specs.Row.{in_unsigned, nullability, value_fits}
use Rattle.vortex_array_types.specs.declared.types.DType.{DType}
use Rattle.vortex_array_types.specs.declared.types.Nullability.TheVariants.{NonNullable}
use Rattle.vortex_array_types.specs.declared.scalar.Value.{Value}
use Rattle.vortex_array_types.specs.declared.scalar.Value.TheVariants.{Decimal, Int}
use Rattle.vortex_array_order.specs.InOrder.{IsConstant}
use Rattle.vortex_decimal_byte_parts.specs.Checked.{is_lower_type}
use Rattle.vortex_decimal_byte_parts.specs.Columns.{two_rows}
use Rattle.vortex_decimal_byte_parts.specs.Held.{Each, Holds, wide}
use Rattle.vortex_decimal_byte_parts.proofs.EqualRows.{nulls-constant, starts_with_value, twos-constant, twos-constant-lower, twos-constant-msp}
use Rattle.vortex_decimal_byte_parts.proofs.HeldRows.{FromZero, full_rows, length-held, twos-held, twos-present}
use Rattle.vortex_decimal_byte_parts.proofs.MadeParts.{lower-full}
use Rattle.vortex_decimal_byte_parts.proofs.NumberBounds.{each-of-all, from-zero, lower-number}

-- rows of a most significant part beside as many of a lower one, and the numbers that they hold
pub record TwoHeld (rows others : List (Option Value)) (ms ns : List ℤ) : Type 0 where
  pub held : AllZip (Holds Int) rows ms
  pub full : others ≡ full_rows ns
  pub same : length rows ≡ length others
  pub bits : Each (λ n. IsTrue (in_unsigned 64 n)) ns
  pub natural : FromZero ns

-- what is known of the rows of two parts
pub two-held : (t : DType) (rows others : List (Option Value)) (ms ns : List ℤ) → IsTrue (is_lower_type t) → length rows ≡ length others → AllZip (Holds Int) rows ms → (nullability t ≡ NonNullable → others ≡ full_rows ns) → All (λ n. IsTrue (value_fits t (Int n))) ns → TwoHeld rows others ms ns
two-held t rows others ms ns kind same held full fits = record {
  held = held;
  full = full (lower-full t kind);
  same = same;
  bits = each-of-all (λ n. IsTrue (value_fits t (Int n))) (λ n. IsTrue (in_unsigned 64 n)) ns (λ n f. lower-number t n kind f) fits;
  natural = each-of-all (λ n. IsTrue (value_fits t (Int n))) (λ n. IsTrue (int_le (pos 0) n)) ns (λ n f. from-zero n (lower-number t n kind f)) fits;
}

many_lower : (rows others : List (Option Value)) (ms ns : List ℤ) → TwoHeld rows others ms ns → length rows ≡ length ns
many_lower rows others ms ns h = h.same ∙ ap length h.full ∙ length-map ns (λ n. Some (Int n))

-- there are as many numbers in both
pub many-both : (rows others : List (Option Value)) (ms ns : List ℤ) → TwoHeld rows others ms ns → length ms ≡ length ns
many-both rows others ms ns h = sym (length-held Int rows ms h.held) ∙ many_lower rows others ms ns h

-- and as many numbers of both parts as rows
pub long-wide : (rows others : List (Option Value)) (ms ns : List ℤ) → TwoHeld rows others ms ns → length (zip2 wide ms ns) ≡ length rows
long-wide rows others ms ns h = length-zip2 wide ms ns (many-both rows others ms ns h) ∙ sym (length-held Int rows ms h.held)

-- the decimals are the numbers of both parts
pub both-held : (rows others : List (Option Value)) (ms ns : List ℤ) → TwoHeld rows others ms ns → AllZip (Holds Decimal) (zip2 two_rows rows others) (zip2 wide ms ns)
both-held rows others ms ns h = rw h.full (twos-held rows ms ns h.held (many-both rows others ms ns h) h.natural)

-- decimals of two parts are null where the most significant one is
pub two-present : (rows others : List (Option Value)) (ms ns : List ℤ) → TwoHeld rows others ms ns → map is_some (zip2 two_rows rows others) ≡ map is_some rows
two-present rows others ms ns h = rw h.full (twos-present rows ms ns h.held (many-both rows others ms ns h) h.natural)

-- and equal only where the rows of the most significant one are
pub constant-msp : (rows others : List (Option Value)) (ms ns : List ℤ) → TwoHeld rows others ms ns → IsConstant (zip2 two_rows rows others) → IsConstant rows
constant-msp rows others ms ns h k = twos-constant-msp rows ms ns h.held (many-both rows others ms ns h) h.bits (rw h.full at k)

first_value : (rows : List (Option Value)) → starts_with_value rows ≡ is_some (get_or rows 0 None)
first_value [] = refl
first_value (r ∷ rows) = refl

-- and, where the first is a value, those of the lower one
pub constant-lower : (rows others : List (Option Value)) (ms ns : List ℤ) → TwoHeld rows others ms ns → is_some (get_or rows 0 None) ≡ true → IsConstant (zip2 two_rows rows others) → IsConstant others
constant-lower rows others ms ns h v k = rw h.full (twos-constant-lower rows ms ns h.held (many-both rows others ms ns h) h.bits (first_value rows ∙ v) (rw h.full at k))

-- equal rows of both parts are equal decimals
pub constant-both : (rows others : List (Option Value)) (ms ns : List ℤ) → TwoHeld rows others ms ns → IsConstant rows → IsConstant others → IsConstant (zip2 two_rows rows others)
constant-both rows others ms ns h e f = rw h.full (twos-constant rows ns (many_lower rows others ms ns h) e (rw h.full at f))

-- and so are rows that are all null
pub constant-nulls : (rows others : List (Option Value)) (ms ns : List ℤ) → TwoHeld rows others ms ns → is_some (get_or rows 0 None) ≡ false → IsConstant rows → IsConstant (zip2 two_rows rows others)
constant-nulls rows others ms ns h v e = rw h.full (nulls-constant rows ns (many_lower rows others ms ns h) (first_value rows ∙ v) e)

-- where there is no row none equals another
pub constant-some : (rows : List (Option Value)) → length rows ≡ 0 → IsConstant rows → ⊥
constant-some [] e h = h
constant-some (r ∷ rows) e h = absurd (omega (arith, e))
