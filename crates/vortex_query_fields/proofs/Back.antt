-- A field that is written is read as its row.
use Rattle.std.proofs.Common.{◌≡◌, ◌<◌, ◌≤◌, ◌+◌, ◌-◌, ◌*◌, ◌/◌, ◌%◌, ◌^◌, ◌&&◌, ◌++◌, ◌∙◌, ap, sym, ℕ, zero, suc, ℤ, pos, negsuc, neg_ℤ, Bool, true, false, true≢false, List, [], ◌∷◌, length, length-append, take, drop, nat_lt, nat_le, Option, Some, None, option_and_then, option_map, arith, refl, decimal, codes, bytes_eq, inl, inr, append-nil, append_assoc, replicate, unsigned_abs, IsTrue, mul-one, mul_assoc, add-zero, pow-add, div-one, div-add-mod', mod-lt, div-le_self}
use Rattle.std.specs.Prelude.{if◌then◌else◌}
use Rattle.std.specs.Char.{digit_char, digit_value, is_ascii_hexdigit}
use Rattle.std.proofs.lemmas.Bool.Decides.{nat_tests}
use Rattle.std.proofs.lemmas.Fmt.{length-decimal-le_wide}
use Rattle.std.proofs.lemmas.List.{length-replicate}
use Rattle.vortex_array_types.specs.declared.types.PType.{PType}
use Rattle.vortex_array_types.specs.declared.types.DType.{DType}
use Rattle.vortex_array_types.specs.declared.types.DType.TheVariants as dtype
use Rattle.vortex_array_types.specs.declared.scalar.Value.{Value}
use Rattle.vortex_array_types.specs.declared.scalar.Value.TheVariants as value
use Rattle.vortex_array_types.specs.Row.{in_width, is_nullable}
use Rattle.vortex_query_fields.specs.Numbers.{below, digits_spelled, is_count, number_after, signed_spelled, where_in, whole_spelled}
use Rattle.vortex_query_fields.specs.Decimals.{by_point, decimal_spelled, is_scale, pointed, size_spelled}
use Rattle.vortex_query_fields.specs.Hex.{byte_before, hex_spelled, hex_text, pair_spelled}
use Rattle.vortex_query_fields.specs.Values.{is_empty, value_spelled}
use Rattle.vortex_query_fields.specs.Written.{behind_point, decimal_text, filled, sign, value_text, whole_text}
use Rattle.vortex_query_fields.specs.Laws.{FieldsAreRead, are_bytes, has_name, is_held}
use Rattle.vortex_query_fields.proofs.Named.{counts, drop-front, least-scale, take-front}
use Rattle.vortex_query_fields.proofs.Shown.{after-more, apart, both, digits-alone, digits-shown, no-sign, number-behind, some-shown, place-behind, place-nowhere}
use Rattle.vortex_query_fields.proofs.Signs.{deep, great}
use Rattle.vortex_query_fields.proofs.Tens.{ten_some, tens_grow}

-- ---- signs

signed-read : (size : List ℕ → Option ℕ) (z : ℤ) (text : List ℕ) → bytes_eq (take 1 text) (codes "-") ≡ false → size text ≡ Some (unsigned_abs z) → signed_spelled size (sign z ++ text) ≡ Some z
signed-read size (pos n) text plain e = rw (plain, e) refl
signed-read size (negsuc n) text plain e = ap (option_map (λ n. neg_ℤ (pos n))) e

-- ---- whole numbers

short-number : (w : PType) (z : ℤ) → in_width w z ≡ true → unsigned_abs z < 10 ^ 39
short-number w (pos n) h = elim (apart n (2 ^ 64)) [
  | inl lo ↦ omega arith
  | inr hi ↦ absurd (true≢false (sym h ∙ great w n hi))
]
short-number w (negsuc n) h = elim (apart n (2 ^ 63)) [
  | inl lo ↦ omega arith
  | inr hi ↦ absurd (true≢false (sym h ∙ deep w n hi))
]

whole-read : (w : PType) (z : ℤ) → in_width w z ≡ true → whole_spelled w (whole_text z) ≡ Some z
whole-read w z h =
    let n : ℕ = unsigned_abs z in
    let short = short-number w z h in
    let plain = no-sign (decimal n) (digits-alone n (omega arith)) in
    ap (where_in (in_width w)) (signed-read digits_spelled z (decimal n) plain (digits-shown n short))
    ∙ ap (λ b. if b then Some z else None) h

-- ---- decimals

zeros : (m j : ℕ) → number_after m (replicate j 48) ≡ Some (m * 10 ^ j)
unfolding number_after
zeros m zero = ap Some (sym (mul-one m))
zeros m (suc j) =
    zeros (m * 10 + 0) j
    ∙ ap Some (ap (λ x. x * 10 ^ j) (add-zero (m * 10)) ∙ mul_assoc m 10 (10 ^ j) ∙ ap (λ x. m * x) (sym (pow-add 10 1 j) ∙ ap (λ k. 10 ^ k) (omega arith)))

-- digits behind a point
filled-length : (k m : ℕ) → 0 < k → k ≤ 38 → m < 10 ^ k → length (filled k m) ≡ k
filled-length k m some most h =
    let few = tens_grow k 38 most in
    let l = length-decimal-le_wide k m some h (omega arith) in
    length-append (replicate (k - length (decimal m)) 48) (decimal m) ∙ ap (λ n. n + length (decimal m)) (length-replicate (k - length (decimal m)) 48) ∙ omega arith

filled-number : (w k m : ℕ) → 0 < k → k ≤ 38 → m < 10 ^ k → number_after w (filled k m) ≡ Some (w * 10 ^ k + m)
filled-number w k m some most h =
    let few = tens_grow k 38 most in
    let l : ℕ = length (decimal m) in
    let j : ℕ = k - l in
    let fits = length-decimal-le_wide k m some h (omega arith) in
    let whole : j + l ≡ k = omega arith in
    after-more w (replicate j 48) (decimal m)
    ∙ ap (option_and_then (λ n. number_after n (decimal m))) (zeros w j)
    ∙ number-behind (w * 10 ^ j) m (omega arith)
    ∙ ap (λ n. Some (n + m)) (mul_assoc w (10 ^ j) (10 ^ l) ∙ ap (λ n. w * n) (sym (pow-add 10 j l) ∙ ap (λ n. 10 ^ n) whole))

below-it : (limit n : ℕ) → n < limit → below limit (Some n) ≡ Some n
below-it limit n h = grind (arith, nat_tests)

-- no digit behind the point
size-plain : (p n : ℕ) → p ≤ 38 → n < 10 ^ p → size_spelled p 0 (decimal n) ≡ Some n
size-plain p n few h =
    let most = tens_grow p 38 few in
    ap (by_point p 0 (decimal n)) (place-nowhere 46 (decimal n) (digits-alone n (omega arith)) refl)
    ∙ ap (λ o. below (10 ^ p) (option_map (λ n. n * 10 ^ 0) o)) (digits-shown n (omega arith))
    ∙ ap (λ m. below (10 ^ p) (Some m)) (mul-one n)
    ∙ below-it (10 ^ p) n h

pointed-read : (p k w : ℕ) (part : List ℕ) (m : ℕ) → 0 < k → length part ≡ k → w < 10 ^ 39 → number_after w part ≡ Some m → m < 10 ^ p → pointed p k (decimal w) part ≡ Some m
pointed-read p k w part m some long fits e h =
    let a : nat_lt 0 (length part) ≡ true = grind (arith, nat_tests) in
    let b : nat_le (length part) k ≡ true = grind (arith, nat_tests) in
    let none : k - length part ≡ 0 = omega arith in
    ap (λ t. if t then below (10 ^ p) (option_map (λ n. n * 10 ^ (k - length part)) (option_and_then (λ n. number_after n part) (digits_spelled (decimal w)))) else None) (ap (λ c. c && nat_le (length part) k) a ∙ b)
    ∙ ap (λ o. below (10 ^ p) (option_map (λ n. n * 10 ^ (k - length part)) (option_and_then (λ n. number_after n part) o))) (digits-shown w fits)
    ∙ ap (λ o. below (10 ^ p) (option_map (λ n. n * 10 ^ (k - length part)) o)) e
    ∙ ap (λ j. below (10 ^ p) (Some (m * 10 ^ j))) none
    ∙ ap (λ n. below (10 ^ p) (Some n)) (mul-one m)
    ∙ below-it (10 ^ p) m h

-- digits before a point and digits behind it
size-pointed : (p k n : ℕ) → p ≤ 38 → suc k ≤ 38 → n < 10 ^ p → size_spelled p (suc k) (decimal (n / 10 ^ suc k) ++ behind_point (suc k) n) ≡ Some n
size-pointed p k n few small h =
    let s : ℕ = suc k in
    let w : ℕ = n / 10 ^ s in
    let m : ℕ = n % 10 ^ s in
    let part : List ℕ = filled s m in
    let text : List ℕ = decimal w ++ 46 ∷ part in
    let most = tens_grow p 38 few in
    let rest : m < 10 ^ s = mod-lt n (ten_some s) in
    let less : w ≤ n = div-le_self n (10 ^ s) in
    let number = filled-number w s m (omega arith) small rest ∙ ap Some (div-add-mod' n (10 ^ s)) in
    ap (by_point p s text) (place-behind 46 (decimal w) part (digits-alone w (omega arith)) refl)
    ∙ ap (λ l. pointed p s l (drop (length (decimal w) + 1) text)) (take-front (decimal w) (46 ∷ part))
    ∙ ap (λ l. pointed p s (decimal w) l) (drop-front (decimal w) 46 part)
    ∙ pointed-read p s w part n (omega arith) (filled-length s m (omega arith) small rest) (omega arith) number h

size-read : (p s n : ℕ) → p ≤ 38 → s ≤ 38 → n < 10 ^ p → size_spelled p s (decimal (n / 10 ^ s) ++ behind_point s n) ≡ Some n
size-read p zero n few small h = ap (size_spelled p 0) (append-nil (decimal (n / 1)) ∙ ap decimal (div-one n)) ∙ size-plain p n few h
size-read p (suc k) n few small h = size-pointed p k n few small h

first-plain : (xs ys : List ℕ) → 0 < length xs → bytes_eq (take 1 xs) (codes "-") ≡ false → bytes_eq (take 1 (xs ++ ys)) (codes "-") ≡ false
first-plain [] ys some e = absurd (omega arith)
first-plain (x ∷ xs) ys some e = e

decimal-back : (p s : ℕ) (z : ℤ) → p ≤ 38 → s ≤ 38 → unsigned_abs z < 10 ^ p → signed_spelled (size_spelled p s) (decimal_text s z) ≡ Some z
decimal-back p s z few small h =
    let n : ℕ = unsigned_abs z in
    let w : ℕ = n / 10 ^ s in
    let most = tens_grow p 38 few in
    let less : w ≤ n = div-le_self n (10 ^ s) in
    let plain = first-plain (decimal w) (behind_point s n) (some-shown w (omega arith)) (no-sign (decimal w) (digits-alone w (omega arith))) in
    ap (signed_spelled (size_spelled p s)) (append_assoc (sign z) (decimal w) (behind_point s n)) ∙ signed-read (size_spelled p s) z (decimal w ++ behind_point s n) plain (size-read p s n few small h)

-- ---- bytes

hex-digit : (d : ℕ) → d < 16 → (is_ascii_hexdigit (digit_char d) ≡ true) × (digit_value (digit_char d) ≡ d)
hex-digit d h = grind (arith, nat_tests)

pair-read : (b : ℕ) → b < 256 → pair_spelled (digit_char (b / 16)) (digit_char (b % 16)) ≡ Some b
pair-read b h =
    let high = hex-digit (b / 16) (omega arith) in
    let low = hex-digit (b % 16) (omega arith) in
    let whole : b / 16 * 16 + b % 16 ≡ b = omega arith in
    rw (high.0, low.0, high.1, low.1, whole) refl

hex-read : (bytes : List ℕ) → are_bytes bytes ≡ true → hex_spelled (hex_text bytes) ≡ Some bytes
unfolding hex_spelled
hex-read [] h = refl
hex-read (b ∷ bytes) h =
    let k = both (nat_lt b 256) (are_bytes bytes) h in
    let small : b < 256 = grind (arith, nat_tests) in
    ap (λ o. byte_before o (hex_spelled (hex_text bytes))) (pair-read b small) ∙ ap (byte_before (Some b)) (hex-read bytes k.1)

-- ---- values

scaled-back : (p : ℕ) (s z : ℤ) → IsTrue (is_count 38 p && is_scale s) → nat_lt (unsigned_abs z) (10 ^ p) ≡ true
    → decimal_spelled (record { precision = p; scale = s }) (decimal_text (unsigned_abs s) z) ≡ Some z
scaled-back p (pos s) z named h =
    let k = both (is_count 38 p) (is_scale (pos s)) named in
    let few = (counts p k.0).1 in
    let small = least-scale s k.1 in
    let size : unsigned_abs z < 10 ^ p = grind (arith, nat_tests) in
    ap (λ b. if b then signed_spelled (size_spelled p s) (decimal_text s z) else None) k.1 ∙ decimal-back p s z (omega arith) (omega arith) size
scaled-back p (negsuc s) z named h = absurd (true≢false (sym (both (is_count 38 p) (is_scale (negsuc s)) named).1))

value-read : (t : DType) (v : Value) → IsTrue (has_name t) → is_held t v ≡ true → value_spelled t (value_text t v) ≡ Some v
value-read (dtype.Bool n) (value.Bool true) named h = refl
value-read (dtype.Bool n) (value.Bool false) named h = refl
value-read (dtype.Primitive w n) (value.Int z) named h = ap (option_map value.Int) (whole-read w z h)
value-read (dtype.Decimal d n) (value.Decimal z) named h = ap (option_map value.Decimal) (scaled-back d.precision d.scale z named h)
value-read (dtype.Utf8 n) (value.Utf8 text) named h = ap (λ b. option_map value.Utf8 (if b then Some text else None)) h
value-read (dtype.Binary n) (value.Binary bytes) named h = ap (option_map value.Binary) (hex-read bytes h)
value-read t v named h = absurd (cc h)

back : (b : Bool) (o : Option Value) (v : Value) → o ≡ Some v → (if b then Some None else option_map (λ v. Some v) o) ≡ Some (if b then None else Some v)
back true o v e = refl
back false o v e = ap (option_map (λ v. Some v)) e

pub field-read : FieldsAreRead
field-read t None named row = ap (λ b. if b && true then Some None else option_map (λ v. Some v) (value_spelled t [])) row ∙ sym (ap (λ b. Some (if b && true then None else None)) row)
field-read t (Some v) named row = back (is_nullable t && is_empty (value_text t v)) (value_spelled t (value_text t v)) v (value-read t v named row)
