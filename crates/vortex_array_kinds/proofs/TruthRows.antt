-- The rows of columns of truth values, by their bits.
use Rattle.std.proofs.Common.{ℕ, zero, suc, ◌≡◌, Bool, true, false, not, ◌&&◌, ◌||◌, List, [], ◌∷◌, length, map, refl, ap, ◌∙◌, arith, Option, Some, None}
use Rattle.std.specs.Prelude.{IsTrue, replicate, option_map}
use Rattle.std.specs.Simd.Lanes.{zip2}
use Rattle.std.proofs.lemmas.List.{length-replicate}
use Rattle.vortex_array_types.specs.Truth.{and3, or3}
use Rattle.vortex_array_types.specs.declared.scalar.Value.{Value}
use Rattle.vortex_array_types.specs.declared.scalar.Value.TheVariants as value
use Rattle.vortex_array_kinds.specs.Validities.{row_of, rows_under, is_as_long, valid_bits}
use Rattle.vortex_array_kinds.specs.Truths.{truth_row, answer_in, both_true, is_true}
use Rattle.vortex_array_kinds.specs.Known.{known}
use Rattle.vortex_array_kinds.specs.declared.validity.Validity.{Validity}
use Rattle.vortex_array_kinds.specs.declared.validity.Validity.TheVariants.{NonNullable, AllValid, AllInvalid, Bits}
use Rattle.vortex_array_kinds.proofs.RowLemmas.{long_bits}

-- two lists are the same where their first items and the others are
pub cons_same : {X : Type 0} (x y : X) (xs ys : List X) → x ≡ y → xs ≡ ys → x ∷ xs ≡ y ∷ ys
cons_same x y xs ys e f = ap (λ z. z ∷ xs) e ∙ ap (λ zs. y ∷ zs) f

-- there is a bit for each row
pub length-valid : (v : Validity) (n : ℕ) → IsTrue (is_as_long v n) → length (valid_bits v n) ≡ n
length-valid NonNullable n e = length-replicate n true
length-valid AllValid n e = length-replicate n true
length-valid AllInvalid n e = length-replicate n false
length-valid (Bits bits) n e = long_bits bits n e

all_rows : {X Y : Type 0} (f : X → Y) (xs : List X) → map (λ y. Some y) (map f xs) ≡ zip2 (λ x p. row_of (f x) p) xs (replicate (length xs) true)
all_rows f [] = refl
all_rows f (x ∷ xs) = ap (λ zs. Some (f x) ∷ zs) (all_rows f xs)

no_rows : {X Y : Type 0} (f : X → Y) (xs : List X) → rows_under AllInvalid (map f xs) ≡ zip2 (λ x p. row_of (f x) p) xs (replicate (length xs) false)
no_rows f [] = refl
no_rows f (x ∷ xs) = ap (λ zs. None ∷ zs) (no_rows f xs)

some_rows : {X Y : Type 0} (f : X → Y) (xs : List X) (bits : List Bool) → zip2 row_of (map f xs) bits ≡ zip2 (λ x p. row_of (f x) p) xs bits
some_rows f [] [] = refl
some_rows f [] (b ∷ bits) = refl
some_rows f (x ∷ xs) [] = refl
some_rows f (x ∷ xs) (b ∷ bits) = ap (λ zs. row_of (f x) b ∷ zs) (some_rows f xs bits)

-- rows under a validity are the values whose bits are set
pub rows-present : {X Y : Type 0} (f : X → Y) (v : Validity) (xs : List X) → rows_under v (map f xs) ≡ zip2 (λ x p. row_of (f x) p) xs (valid_bits v (length xs))
rows-present f NonNullable xs = all_rows f xs
rows-present f AllValid xs = all_rows f xs
rows-present f AllInvalid xs = no_rows f xs
rows-present f (Bits bits) xs = some_rows f xs bits

-- the rows of bits
abbrev pub truth_rows : List Bool → List Bool → List (Option Value)
truth_rows bits present = zip2 (λ b p. row_of (value.Bool b) p) bits present

pub and_row : (x y p q : Bool) → row_of (value.Bool (x && y)) (((p && q) || (p && not x)) || (q && not y)) ≡ truth_row (and3 (answer_in (row_of (value.Bool x) p)) (answer_in (row_of (value.Bool y) q)))
and_row true y true true = refl
and_row false y true true = refl
and_row true y true false = refl
and_row false y true false = refl
and_row x true false true = refl
and_row true false false true = refl
and_row false false false true = refl
and_row x y false false = refl

pub or_row : (x y p q : Bool) → row_of (value.Bool (x || y)) (((p && q) || (p && x)) || (q && y)) ≡ truth_row (or3 (answer_in (row_of (value.Bool x) p)) (answer_in (row_of (value.Bool y) q)))
or_row true y true true = refl
or_row false y true true = refl
or_row true y true false = refl
or_row false y true false = refl
or_row true true false true = refl
or_row false true false true = refl
or_row x false false true = refl
or_row x y false false = refl

pub strict_row : (x y p q : Bool) → row_of (value.Bool (x && y)) (p && q) ≡ truth_row (both_true (answer_in (row_of (value.Bool x) p)) (answer_in (row_of (value.Bool y) q)))
strict_row x y true true = refl
strict_row x y true false = refl
strict_row x y false q = refl

-- two lists of bits, each under bits that say which of them are present, joined row by row
pub joined-rows : (f : Bool → Bool → Bool) (k : Bool → Bool → Bool → Bool → Bool) (known_of : List Bool → List Bool → List Bool → List Bool → List Bool) (op : Option Bool → Option Bool → Option Bool)
    → ((x y p q : Bool) (xs ys ps qs : List Bool) → known_of (x ∷ xs) (y ∷ ys) (p ∷ ps) (q ∷ qs) ≡ k x y p q ∷ known_of xs ys ps qs)
    → ((x y p q : Bool) → row_of (value.Bool (f x y)) (k x y p q) ≡ truth_row (op (answer_in (row_of (value.Bool x) p)) (answer_in (row_of (value.Bool y) q))))
    → (xs ys ps qs : List Bool) → length ys ≡ length xs → length ps ≡ length xs → length qs ≡ length xs
    → truth_rows (zip2 f xs ys) (known_of xs ys ps qs) ≡ map truth_row (zip2 op (map answer_in (truth_rows xs ps)) (map answer_in (truth_rows ys qs)))
joined-rows f k known_of op next row [] [] [] [] a b c = refl
joined-rows f k known_of op next row [] (y ∷ ys) ps qs a b c = absurd (omega (arith, a))
joined-rows f k known_of op next row [] [] (p ∷ ps) qs a b c = absurd (omega (arith, b))
joined-rows f k known_of op next row [] [] [] (q ∷ qs) a b c = absurd (omega (arith, c))
joined-rows f k known_of op next row (x ∷ xs) [] ps qs a b c = absurd (omega (arith, a))
joined-rows f k known_of op next row (x ∷ xs) (y ∷ ys) [] qs a b c = absurd (omega (arith, b))
joined-rows f k known_of op next row (x ∷ xs) (y ∷ ys) (p ∷ ps) [] a b c = absurd (omega (arith, c))
joined-rows f k known_of op next row (x ∷ xs) (y ∷ ys) (p ∷ ps) (q ∷ qs) a b c =
    ap (truth_rows (f x y ∷ zip2 f xs ys)) (next x y p q xs ys ps qs)
    ∙ cons_same _ _ _ _ (row x y p q) (joined-rows f k known_of op next row xs ys ps qs (omega (arith, a)) (omega (arith, b)) (omega (arith, c)))

not_row : (x p : Bool) → row_of (value.Bool (not x)) p ≡ truth_row (option_map not (answer_in (row_of (value.Bool x) p)))
not_row x true = refl
not_row x false = refl

-- bits turned over give the rows of a negation
pub not-rows : (xs ps : List Bool) → truth_rows (map not xs) ps ≡ map truth_row (map (option_map not) (map answer_in (truth_rows xs ps)))
not-rows [] [] = refl
not-rows [] (p ∷ ps) = refl
not-rows (x ∷ xs) [] = refl
not-rows (x ∷ xs) (p ∷ ps) = cons_same _ _ _ _ (not_row x p) (not-rows xs ps)

true_row : (x p : Bool) → (x && p) ≡ is_true (answer_in (row_of (value.Bool x) p))
true_row true true = refl
true_row true false = refl
true_row false true = refl
true_row false false = refl

-- the rows that are true have both bits set
pub true-rows : (xs ps : List Bool) → zip2 ◌&&◌ xs ps ≡ map is_true (map answer_in (truth_rows xs ps))
true-rows [] [] = refl
true-rows [] (p ∷ ps) = refl
true-rows (x ∷ xs) [] = refl
true-rows (x ∷ xs) (p ∷ ps) = cons_same _ _ _ _ (true_row x p) (true-rows xs ps)

-- where every row is present, every answer is known
pub known-full : (n : ℕ) (xs ys : List Bool) → length xs ≡ n → length ys ≡ n
    → zip2 ◌&&◌ (replicate n true) (replicate n true) ≡ known (replicate n true) xs (replicate n true) ys
known-full zero [] [] e f = refl
known-full zero (x ∷ xs) ys e f = absurd (omega (arith, e))
known-full zero [] (y ∷ ys) e f = absurd (omega (arith, f))
known-full (suc n) [] ys e f = absurd (omega (arith, e))
known-full (suc n) (x ∷ xs) [] e f = absurd (omega (arith, f))
known-full (suc n) (x ∷ xs) (y ∷ ys) e f = ap (λ zs. true ∷ zs) (known-full n xs ys (omega (arith, e)) (omega (arith, f)))
