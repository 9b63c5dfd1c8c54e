-- Which answers of two columns of truth values are known.
use Rattle.std.proofs.Common.{ℕ, ◌≡◌, Bool, true, ◌&&◌, ◌||◌, List, length, replicate, sym, ap, ◌∙◌}
use Rattle.std.specs.Prelude.{IsTrue}
use Rattle.std.specs.Simd.Lanes.{zip2}
use Rattle.std.proofs.lemmas.Bool.Decides.{Decides-eqb}
use Rattle.std.proofs.lemmas.Simd.{length-zip2}
use Rattle.vortex_array_types.specs.declared.types.Nullability.TheVariants as nulls
use Rattle.vortex_array_kinds.specs.Known.{KnownWhere, known}
use Rattle.vortex_array_kinds.specs.Truths.{BothValid, either}
use Rattle.vortex_array_kinds.specs.Validities.{is_as_long, valid_bits, nullability_of}
use Rattle.vortex_array_kinds.specs.declared.validity.Validity.{Validity}
use Rattle.vortex_array_kinds.specs.declared.validity.Validity.TheVariants.{Bits}
use Rattle.vortex_array_kinds.proofs.TruthRows.{length-valid, known-full}

-- as many answers are known or not as there are rows
pub length-known : (ps ds qs es : List Bool) (n : ℕ) → length ps ≡ n → length ds ≡ n → length qs ≡ n → length es ≡ n → length (known ps ds qs es) ≡ n
length-known ps ds qs es n p d q e =
    let pq : length (zip2 ◌&&◌ ps qs) ≡ n = length-zip2 ◌&&◌ ps qs (p ∙ sym q) ∙ p in
    let pd : length (zip2 ◌&&◌ ps ds) ≡ n = length-zip2 ◌&&◌ ps ds (p ∙ sym d) ∙ p in
    let qe : length (zip2 ◌&&◌ qs es) ≡ n = length-zip2 ◌&&◌ qs es (q ∙ sym e) ∙ q in
    let first : length (zip2 ◌||◌ (zip2 ◌&&◌ ps qs) (zip2 ◌&&◌ ps ds)) ≡ n = length-zip2 ◌||◌ (zip2 ◌&&◌ ps qs) (zip2 ◌&&◌ ps ds) (pq ∙ sym pd) ∙ pq in
    length-zip2 ◌||◌ (zip2 ◌||◌ (zip2 ◌&&◌ ps qs) (zip2 ◌&&◌ ps ds)) (zip2 ◌&&◌ qs es) (first ∙ sym qe) ∙ first

-- where no row is null, every answer is known
pub known-from-both : (n : ℕ) (a : Validity) (ds : List Bool) (b : Validity) (es : List Bool) (v : Validity)
    → valid_bits a n ≡ replicate n true → valid_bits b n ≡ replicate n true → length ds ≡ n → length es ≡ n → BothValid n a b v → KnownWhere n a ds b es v
known-from-both n a ds b es v full_a full_b d e h = record {
  long = h.long;
  present = h.present ∙ (rw (full_a, full_b) (known-full n ds es d e));
  nulls = h.nulls;
}

-- answers that are known by bits
pub known-from-bits : (n : ℕ) (a : Validity) (ds : List Bool) (b : Validity) (es bits : List Bool)
    → IsTrue (is_as_long a n) → IsTrue (is_as_long b n) → length ds ≡ n → length es ≡ n → either (nullability_of a) (nullability_of b) ≡ nulls.Nullable
    → bits ≡ known (valid_bits a n) ds (valid_bits b n) es → KnownWhere n a ds b es (Bits bits)
known-from-bits n a ds b es bits ka kb d e k is = record {
  long = (Decides-eqb (length bits) n).1 (ap length is ∙ length-known (valid_bits a n) ds (valid_bits b n) es n (length-valid a n ka) d (length-valid b n kb) e);
  present = is;
  nulls = sym k;
}
