-- Rows of an array of whole numbers, and the numbers that it keeps.
use Rattle.std.proofs.Common.{ℕ, zero, suc, ◌≡◌, List, [], ◌∷◌, length, map, refl, sym, ap, ◌∙◌, Some}
use Rattle.std.specs.Prelude.{ℤ, IsTrue, is_some, replicate}
use Rattle.std.specs.List.{AllZip}
use Rattle.std.proofs.lemmas.List.{length-map, length-replicate}
use Rattle.vortex_array_types.specs.Row.{TypedRow}
use Rattle.vortex_array_types.specs.declared.types.Nullability.TheVariants as nulls
use Rattle.vortex_array_types.specs.declared.scalar.Value.TheVariants as value
use Rattle.vortex_array_kinds.specs.Kinds.{constant_column, len_of, numbers_of, primitive_column}
use Rattle.vortex_array_kinds.specs.Parts.{ConstantParts, PlainParts}
use Rattle.vortex_array_kinds.specs.Validities.{is_as_long, nullability_of, rows_under, valid_bits}
use Rattle.vortex_array_kinds.specs.declared.primitives.PrimitiveBuffer.{PrimitiveBuffer}
use Rattle.vortex_array_kinds.specs.declared.validity.Validity.{Validity}
use Rattle.vortex_array_kinds.specs.declared.validity.Validity.TheVariants.{NonNullable, AllValid, AllInvalid, Bits}
use Rattle.vortex_array_kinds.proofs.RowLemmas.{equal-present, length-rows-map, valid-rows}
use Rattle.vortex_array.specs.Single.{number_held}
use Rattle.vortex_decimal_byte_parts.specs.Held.{Holds}
use Rattle.vortex_decimal_byte_parts.proofs.HeldRows.{full_rows, holds-equal, holds-under}

-- plain rows are null or the numbers in their places
pub plain-held : (a : PlainParts PrimitiveBuffer) → IsTrue (is_as_long a.validity (len_of a.values)) → AllZip (Holds value.Int) (primitive_column a).rows (numbers_of a.values)
plain-held a long = holds-under value.Int a.validity (numbers_of a.values) long

all_full : (ns : List ℤ) → map (λ v. Some v) (map value.Int ns) ≡ full_rows ns
all_full [] = refl
all_full (n ∷ ns) = ap (λ more. Some (value.Int n) ∷ more) (all_full ns)

full_under : (v : Validity) (ns : List ℤ) → nullability_of v ≡ nulls.NonNullable → rows_under v (map value.Int ns) ≡ full_rows ns
full_under NonNullable ns e = all_full ns
full_under AllValid ns e = absurd (cc e)
full_under AllInvalid ns e = absurd (cc e)
full_under (Bits bits) ns e = absurd (cc e)

-- and without nulls the numbers
pub plain-full : (a : PlainParts PrimitiveBuffer) → nullability_of a.validity ≡ nulls.NonNullable → (primitive_column a).rows ≡ full_rows (numbers_of a.values)
plain-full a e = full_under a.validity (numbers_of a.values) e

-- equal rows are null or the number
pub equal-held : (k : ConstantParts) → Holds value.Int k.scalar.value (number_held k.scalar.value) → AllZip (Holds value.Int) (constant_column k).rows (replicate k.len (number_held k.scalar.value))
equal-held k h = holds-equal value.Int k.scalar.value (number_held k.scalar.value) h k.len

full_equal : (n : ℤ) (len : ℕ) → replicate len (Some (value.Int n)) ≡ full_rows (replicate len n)
full_equal n zero = refl
full_equal n (suc len) = ap (λ more. Some (value.Int n) ∷ more) (full_equal n len)

pub equal-full : (k : ConstantParts) → k.scalar.value ≡ Some (value.Int (number_held k.scalar.value)) → (constant_column k).rows ≡ full_rows (replicate k.len (number_held k.scalar.value))
equal-full k e = ap (replicate k.len) e ∙ full_equal (number_held k.scalar.value) k.len

-- a plain column's validity is that of its rows
pub plain-long : (a : PlainParts PrimitiveBuffer) → IsTrue (is_as_long a.validity (len_of a.values)) → IsTrue (is_as_long a.validity (length (primitive_column a).rows))
plain-long a long = rw (length-rows-map value.Int a.validity (numbers_of a.values) long) long

pub plain-bits : (a : PlainParts PrimitiveBuffer) → IsTrue (is_as_long a.validity (len_of a.values)) → valid_bits a.validity (length (primitive_column a).rows) ≡ map is_some (primitive_column a).rows
plain-bits a long =
    let ns = numbers_of a.values in
    let many : length (map value.Int ns) ≡ length ns = length-map ns value.Int in
    ap (valid_bits a.validity) (length-rows-map value.Int a.validity ns long ∙ sym many) ∙ valid-rows a.validity (map value.Int ns) (rw many long)

-- and so that of equal rows
pub equal-bits : (v : Validity) (k : ConstantParts) (s : TypedRow) → s ≡ k.scalar → ((n : ℕ) → valid_bits v n ≡ replicate n (is_some s.value)) → valid_bits v (length (constant_column k).rows) ≡ map is_some (constant_column k).rows
equal-bits v k s same present =
    present (length (constant_column k).rows)
    ∙ ap (λ n. replicate n (is_some s.value)) (length-replicate k.len k.scalar.value)
    ∙ ap (λ (r : TypedRow). replicate k.len (is_some r.value)) same
    ∙ sym (equal-present k.len k.scalar.value)
