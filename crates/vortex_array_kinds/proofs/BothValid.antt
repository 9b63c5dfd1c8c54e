-- Which rows are not null, of two columns together.
use Rattle.std.proofs.Common.{ℕ, ◌≡◌, ◌==◌, Bool, ◌&&◌, List, length, refl, sym, ◌∙◌}
use Rattle.std.specs.Prelude.{IsTrue}
use Rattle.std.specs.Simd.Lanes.{zip2}
use Rattle.std.proofs.lemmas.Bool.Decides.{Decides-eqb}
use Rattle.std.proofs.lemmas.Simd.{length-zip2}
use Rattle.vortex_buffer.proofs.Unset.{and-all_left, and-all_right, and-none_left, and-none_right}
use Rattle.vortex_array_types.specs.declared.types.Nullability.{Nullability}
use Rattle.vortex_array_types.specs.declared.types.Nullability.TheVariants as nulls
use Rattle.vortex_array_kinds.specs.Truths.{BothValid, either}
use Rattle.vortex_array_kinds.specs.Validities.{is_as_long, valid_bits, nullable_validity, present_in_both}
use Rattle.vortex_array_kinds.specs.declared.validity.Validity.{Validity}
use Rattle.vortex_array_kinds.specs.declared.validity.Validity.TheVariants.{NonNullable, AllValid, AllInvalid, Bits}
use Rattle.vortex_array_kinds.proofs.RowLemmas.{long_bits, nullable-long, nullable-type}
use Rattle.vortex_array_kinds.proofs.TruthRows.{length-valid}

pub either_nullable : (n : Nullability) → nulls.Nullable ≡ either n nulls.Nullable
either_nullable nulls.NonNullable = refl
either_nullable nulls.Nullable = refl

nullable_bits : (v : Validity) (n : ℕ) → valid_bits (nullable_validity v) n ≡ valid_bits v n
nullable_bits NonNullable n = refl
nullable_bits AllValid n = refl
nullable_bits AllInvalid n = refl
nullable_bits (Bits bits) n = refl

-- bits joined have the length of one of them
joined_long : (xs ys : List Bool) (n : ℕ) → IsTrue (length xs == n) → IsTrue (length ys == n) → IsTrue (length (zip2 ◌&&◌ xs ys) == n)
joined_long xs ys n k l =
    (Decides-eqb (length (zip2 ◌&&◌ xs ys)) n).1 (length-zip2 ◌&&◌ xs ys (long_bits xs n k ∙ sym (long_bits ys n l)) ∙ long_bits xs n k)

-- what is present in both is present in each
pub both_are : (n : ℕ) (a b v : Validity) → IsTrue (is_as_long a n) → IsTrue (is_as_long b n) → v ≡ present_in_both a b → BothValid n a b v
both_are n NonNullable b v k l e = rw e (record { long = l; present = sym (and-all_left n (valid_bits b n) (sym (length-valid b n l))); nulls = refl })
both_are n AllValid b v k l e =
    rw e (record { long = rw (nullable-long b n) l; present = nullable_bits b n ∙ sym (and-all_left n (valid_bits b n) (sym (length-valid b n l))); nulls = nullable-type b })
both_are n AllInvalid b v k l e = rw e (record { long = refl; present = sym (and-none_left n (valid_bits b n) (sym (length-valid b n l))); nulls = refl })
both_are n (Bits own) NonNullable v k l e = rw e (record { long = k; present = sym (and-all_right n own (long_bits own n k)); nulls = refl })
both_are n (Bits own) AllValid v k l e = rw e (record { long = k; present = sym (and-all_right n own (long_bits own n k)); nulls = refl })
both_are n (Bits own) AllInvalid v k l e = rw e (record { long = refl; present = sym (and-none_right n own (long_bits own n k)); nulls = refl })
both_are n (Bits own) (Bits bits) v k l e = rw e (record { long = joined_long own bits n k l; present = refl; nulls = refl })
