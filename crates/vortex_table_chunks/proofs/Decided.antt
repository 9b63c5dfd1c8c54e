-- Answers that are all the same.
use Rattle.std.proofs.Common.{ℕ, ◌+◌, ◌≡◌, ◌∙◌, refl, sym, ap, arith, Bool, true, false, cond, List, [], ◌∷◌, length, map, replicate, Some}
use Rattle.std.specs.Prelude.{IsTrue, nat_eq}
use Rattle.std.specs.List.{count_by}
use Rattle.std.proofs.lemmas.List.{length-map}
use Rattle.std.proofs.lemmas.Bool.Decides.{Decides-eqb}
use Rattle.std.proofs.lemmas.List.Sums.{count_by-le-length, sum_by-cons}
use Rattle.vortex_array_types.specs.declared.scalar.Value.TheVariants as value
use Rattle.vortex_array_kinds.specs.Kinds.{bool_column}
use Rattle.vortex_array_kinds.specs.Parts.{PlainParts}
use Rattle.vortex_array_kinds.specs.Truths.{answer_in, answers}
use Rattle.vortex_array_kinds.specs.Validities.{has_none, rows_under}
use Rattle.vortex_array_kinds.specs.declared.validity.Validity.{Validity}
use Rattle.vortex_array_kinds.specs.declared.validity.Validity.TheVariants.{NonNullable, AllValid, AllInvalid, Bits}
use Rattle.vortex_buffer.proofs.Bits.{map-replicate}

count_more : (bit : Bool) (bits : List Bool) → count_by (λ b. b) (bit ∷ bits) ≡ cond bit 1 0 + count_by (λ b. b) bits
count_more bit bits = sum_by-cons (λ b. cond b 1 0) bit bits

-- as many bits are set as there are
pub all-set : (bits : List Bool) → count_by (λ b. b) bits ≡ length bits → bits ≡ replicate (length bits) true
all-set [] e = refl
all-set (true ∷ bits) e = ap (λ rest. true ∷ rest) (all-set bits (omega (arith, e, count_more true bits)))
all-set (false ∷ bits) e = absurd (omega (arith, e, count_more false bits, count_by-le-length (λ b. b) bits))

-- no bit is set
pub none-set : (bits : List Bool) → count_by (λ b. b) bits ≡ 0 → bits ≡ replicate (length bits) false
none-set [] e = refl
none-set (true ∷ bits) e = absurd (omega (arith, e, count_more true bits))
none-set (false ∷ bits) e = ap (λ rest. false ∷ rest) (none-set bits (omega (arith, e, count_more false bits)))

known_rows : (bits : List Bool) → map answer_in (map (λ v. Some v) (map (λ b. value.Bool b) bits)) ≡ map (λ b. Some b) bits
known_rows [] = refl
known_rows (bit ∷ bits) = ap (λ rest. Some bit ∷ rest) (known_rows bits)

long_rows : (bits : List Bool) → length (map (λ v. Some v) (map (λ b. value.Bool b) bits)) ≡ length bits
long_rows bits = length-map (map (λ b. value.Bool b) bits) (λ v. Some v) ∙ length-map bits (λ b. value.Bool b)

same_rows : (truth : Bool) (bits : List Bool) → bits ≡ replicate (length bits) truth
    → map answer_in (map (λ v. Some v) (map (λ b. value.Bool b) bits)) ≡ replicate (length (map (λ v. Some v) (map (λ b. value.Bool b) bits))) (Some truth)
same_rows truth bits e =
    known_rows bits
    ∙ ap (map (λ b. Some b)) e
    ∙ map-replicate (λ b. Some b) (length bits) truth
    ∙ ap (λ n. replicate n (Some truth)) (sym (long_rows bits))

-- bits that are the same, none of them null, are the same answers
pub same-answers : (validity : Validity) (truth : Bool) (bits : List Bool) → IsTrue (has_none validity) → bits ≡ replicate (length bits) truth
    → map answer_in (rows_under validity (map (λ b. value.Bool b) bits)) ≡ replicate (length (rows_under validity (map (λ b. value.Bool b) bits))) (Some truth)
same-answers NonNullable truth bits h e = same_rows truth bits e
same-answers AllValid truth bits h e = same_rows truth bits e
same-answers AllInvalid truth bits h e = absurd (cc h)
same-answers (Bits own) truth bits h e = absurd (cc h)

-- so many bits of such a column are set as the test says
module _ (a : PlainParts (List Bool)) (validity : Validity) (bits : List Bool) (found truth : Bool) (count : ℕ) (same : validity ≡ a.validity) (own : bits ≡ a.values) (told : found ≡ has_none validity) (none : found ≡ true) (counted : count ≡ count_by (λ b. b) bits) where
  has : IsTrue (has_none a.validity)
  has = ap has_none (sym same) ∙ sym told ∙ none

  pub all-true : (len : ℕ) → truth ≡ true → len ≡ length a.values → nat_eq count len ≡ true → answers (bool_column a) ≡ replicate (length (bool_column a).rows) (Some truth)
  all-true len is long e =
      let set : count_by (λ b. b) a.values ≡ length a.values = ap (count_by (λ b. b)) (sym own) ∙ sym counted ∙ (Decides-eqb count len).0 e ∙ long in
      same-answers a.validity truth a.values has (all-set a.values set ∙ ap (replicate (length a.values)) (sym is))

  pub all-false : truth ≡ false → nat_eq count 0 ≡ true → answers (bool_column a) ≡ replicate (length (bool_column a).rows) (Some truth)
  all-false is e =
      let set : count_by (λ b. b) a.values ≡ 0 = ap (count_by (λ b. b)) (sym own) ∙ sym counted ∙ (Decides-eqb count 0).0 e in
      same-answers a.validity truth a.values has (none-set a.values set ∙ ap (replicate (length a.values)) (sym is))
