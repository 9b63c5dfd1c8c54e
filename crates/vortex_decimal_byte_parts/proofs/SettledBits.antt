-- Constants that a type cannot hold, and intervals beside the numbers of a width.
use Rattle.std.proofs.Common.{◌≡◌, false, List, [], ◌∷◌, length, map, refl, sym, ap, ◌∙◌, arith}
use Rattle.std.specs.Prelude.{ℤ, pos, IsTrue, IsFalse, replicate}
use Rattle.std.specs.Ordering.{int_cmp}
use Rattle.std.proofs.lemmas.Int.{ints}
use Rattle.vortex_buffer.specs.declared.compare_operator.CompareOperator.{CompareOperator}
use Rattle.vortex_array_types.specs.Order.{accepts}
use Rattle.vortex_array_types.specs.Row.{in_width, value_fits}
use Rattle.vortex_array_types.specs.Widths.{has_no_sign}
use Rattle.vortex_array_types.specs.declared.types.DType.{DType}
use Rattle.vortex_array_types.specs.declared.types.DType.TheVariants as dtype
use Rattle.vortex_array_types.specs.declared.types.PType.{PType}
use Rattle.vortex_array_types.specs.declared.types.PType.TheVariants.{U8, U16, U32, U64, I8, I16, I32, I64}
use Rattle.vortex_array_types.specs.declared.scalar.Value.TheVariants.{Int}
use Rattle.vortex_decimal_byte_parts.specs.Checked.{is_msp_type}
use Rattle.vortex_decimal_byte_parts.specs.Held.{Each, number_compares}
use Rattle.vortex_decimal_byte_parts.proofs.NumberBounds.{flip}

-- a number that a signed width cannot hold stands to all of its numbers as to 0
settled_order : (w : PType) (n c : ℤ) → has_no_sign w ≡ false → IsTrue (in_width w n) → IsFalse (in_width w c) → int_cmp n c ≡ int_cmp (pos 0) c
settled_order U8 n c e h k = absurd (cc e)
settled_order U16 n c e h k = absurd (cc e)
settled_order U32 n c e h k = absurd (cc e)
settled_order U64 n c e h k = absurd (cc e)
settled_order I8 n c e h k = grind (arith, ints)
settled_order I16 n c e h k = grind (arith, ints)
settled_order I32 n c e h k = grind (arith, ints)
settled_order I64 n c e h k = grind (arith, ints)

typed_order : (t : DType) (n c : ℤ) → IsTrue (is_msp_type t) → IsTrue (value_fits t (Int n)) → IsFalse (value_fits t (Int c)) → int_cmp n c ≡ int_cmp (pos 0) c
typed_order (dtype.Primitive w m) n c e h k = settled_order w n c (flip (has_no_sign w) e) h k
typed_order (dtype.Bool m) n c e h k = absurd (cc e)
typed_order (dtype.Decimal d m) n c e h k = absurd (cc e)
typed_order (dtype.Utf8 m) n c e h k = absurd (cc e)
typed_order (dtype.Binary m) n c e h k = absurd (cc e)

-- so that the comparison is the same for each of them
pub settled-bits : (t : DType) (operator : CompareOperator) (c : ℤ) → IsTrue (is_msp_type t) → IsFalse (value_fits t (Int c)) → (ns : List ℤ) → Each (λ n. IsTrue (value_fits t (Int n))) ns
    → replicate (length ns) (number_compares operator c (pos 0)) ≡ map (number_compares operator c) ns
settled-bits t operator c e k [] h = refl
settled-bits t operator c e k (n ∷ ns) h =
    ap (λ o. accepts operator o ∷ replicate (length ns) (number_compares operator c (pos 0))) (sym (typed_order t n c e h.0 k))
    ∙ ap (λ bs. number_compares operator c n ∷ bs) (settled-bits t operator c e k ns h.1)
