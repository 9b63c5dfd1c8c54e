-- Whether all rows of parts are equal.
use Rattle.std.proofs.Common.{zero, suc, ◌≡◌, Bool, false, List, [], ◌∷◌, length, map, refl, sym, ap, ◌∙◌, arith, Option, Some, None}
use Rattle.std.specs.Prelude.{ℤ, pos, negsuc, All, IsTrue, is_some}
use Rattle.std.specs.List.{AllZip}
use Rattle.std.specs.Simd.Lanes.{zip2}
use Rattle.std.proofs.lemmas.Int.{ints}
use Rattle.vortex_array_types.specs.Row.{in_unsigned}
use Rattle.vortex_array_types.specs.declared.scalar.Value.{Value}
use Rattle.vortex_array_types.specs.declared.scalar.Value.TheVariants.{Int, Decimal}
use Rattle.vortex_array_order.specs.InOrder.{IsConstant}
use Rattle.vortex_array.specs.Single.{unscaled_held}
use Rattle.vortex_decimal_byte_parts.specs.Columns.{one_row, two_rows}
use Rattle.vortex_decimal_byte_parts.specs.Held.{Each, Holds, wide}
use Rattle.vortex_decimal_byte_parts.proofs.HeldRows.{full_rows}
use Rattle.vortex_decimal_byte_parts.proofs.NumberBounds.{each-of-all, from-zero}

-- what holds of each holds of all
pub all-of-each : {X : Type 0} (P : X → Type 0) (xs : List X) → Each P xs → All P xs
all-of-each P [] h k d l = absurd (omega (arith, l))
all-of-each P (x ∷ xs) h zero d l = h.0
all-of-each P (x ∷ xs) h (suc k) d l = all-of-each P xs h.1 k d (omega (arith, l))

-- each row equals one
abbrev pub EachIs : Option Value → List (Option Value) → Type 0
EachIs row rows = Each (λ r. r ≡ row) rows

one_injective : (x r : Option Value) (m k : ℤ) → Holds Int x m → Holds Int r k → one_row x ≡ one_row r → x ≡ r
one_injective None None m k h i e = refl
one_injective None (Some u) m k h i e = absurd (cc (rw i at e))
one_injective (Some v) None m k h i e = absurd (cc (rw h at e))
one_injective (Some v) (Some u) m k h i e =
    let f : one_row (Some (Int m)) ≡ one_row (Some (Int k)) = ap (λ x. one_row (Some x)) (sym h) ∙ e ∙ ap (λ x. one_row (Some x)) i in
    ap (λ x. Some x) (h ∙ ap (λ n. Int n) (ap unscaled_held f) ∙ sym i)

ones_back : (row : Option Value) (k : ℤ) → Holds Int row k → (rows : List (Option Value)) (ms : List ℤ) → AllZip (Holds Int) rows ms → EachIs (one_row row) (map one_row rows) → EachIs row rows
ones_back row k i [] [] h e = tt
ones_back row k i [] (m ∷ ms) h e = absurd h
ones_back row k i (r ∷ rows) [] h e = absurd h
ones_back row k i (r ∷ rows) (m ∷ ms) h e = (one_injective r row m k h.0 i e.0, ones_back row k i rows ms h.1 e.1)

ones_forth : (row : Option Value) (rows : List (Option Value)) → EachIs row rows → EachIs (one_row row) (map one_row rows)
ones_forth row [] e = tt
ones_forth row (r ∷ rows) e = (ap one_row e.0, ones_forth row rows e.1)

to_each : (row : Option Value) (rows : List (Option Value)) → All (λ r. r ≡ row) rows → EachIs row rows
to_each row rows h = each-of-all (λ r. r ≡ row) (λ r. r ≡ row) rows (λ r e. e) h

-- the rows of a most significant part alone are equal where its rows are
pub ones-constant : (rows : List (Option Value)) (ms : List ℤ) → AllZip (Holds Int) rows ms → IsConstant rows → IsConstant (map one_row rows)
ones-constant [] ms h e = e
ones-constant (r ∷ rows) ms h e = all-of-each (λ x. x ≡ one_row r) (map one_row rows) (ones_forth r rows (to_each r rows e))

pub ones-constant-back : (rows : List (Option Value)) (ms : List ℤ) → AllZip (Holds Int) rows ms → IsConstant (map one_row rows) → IsConstant rows
ones-constant-back [] ms h e = e
ones-constant-back (r ∷ rows) [] h e = absurd h
ones-constant-back (r ∷ rows) (m ∷ ms) h e = all-of-each (λ x. x ≡ r) rows (ones_back r m h.0 rows ms h.1 (to_each (one_row r) (map one_row rows) e))

-- numbers of two parts are equal where both parts are
wide_msp : (m k n l : ℤ) → IsTrue (in_unsigned 64 n) → IsTrue (in_unsigned 64 l) → wide m n ≡ wide k l → m ≡ k
wide_msp m k n l h i e = grind (arith, ints)

wide_lower : (m k n l : ℤ) → IsTrue (in_unsigned 64 n) → IsTrue (in_unsigned 64 l) → wide m n ≡ wide k l → n ≡ l
wide_lower m k n l h i e = grind (arith, ints)

two_is : (m : ℤ) (n : ℤ) → IsTrue (in_unsigned 64 n) → two_rows (Some (Int m)) (Some (Int n)) ≡ Some (Decimal (wide m n))
two_is m (pos n) h = refl
two_is m (negsuc n) h = absurd (cc (from-zero (negsuc n) h))

two_same : (m k n l : ℤ) → IsTrue (in_unsigned 64 n) → IsTrue (in_unsigned 64 l) → two_rows (Some (Int m)) (Some (Int n)) ≡ two_rows (Some (Int k)) (Some (Int l)) → wide m n ≡ wide k l
two_same m k n l h i e = ap unscaled_held (sym (two_is m n h) ∙ e ∙ two_is k l i)

-- the first parts of equal rows are equal
two_injective : (x r : Option Value) (m k n l : ℤ) → Holds Int x m → Holds Int r k → IsTrue (in_unsigned 64 n) → IsTrue (in_unsigned 64 l) → two_rows x (Some (Int n)) ≡ two_rows r (Some (Int l)) → x ≡ r
two_injective None None m k n l h i p q e = refl
two_injective None (Some u) m k n l h i p q e = absurd (cc (rw (i, two_is k l q) at e))
two_injective (Some v) None m k n l h i p q e = absurd (cc (rw (h, two_is m n p) at e))
two_injective (Some v) (Some u) m k n l h i p q e =
    let f : two_rows (Some (Int m)) (Some (Int n)) ≡ two_rows (Some (Int k)) (Some (Int l)) = ap (λ x. two_rows (Some x) (Some (Int n))) (sym h) ∙ e ∙ ap (λ x. two_rows (Some x) (Some (Int l))) i in
    ap (λ x. Some x) (h ∙ ap (λ z. Int z) (wide_msp m k n l p q (two_same m k n l p q f)) ∙ sym i)

twos_back : (row : Option Value) (k l : ℤ) → Holds Int row k → IsTrue (in_unsigned 64 l) → (rows : List (Option Value)) (ms ns : List ℤ) → AllZip (Holds Int) rows ms → length ms ≡ length ns → Each (λ n. IsTrue (in_unsigned 64 n)) ns
    → EachIs (two_rows row (Some (Int l))) (zip2 two_rows rows (full_rows ns)) → EachIs row rows
twos_back row k l i q [] ms ns h s p e = tt
twos_back row k l i q (r ∷ rows) [] ns h s p e = absurd h
twos_back row k l i q (r ∷ rows) (m ∷ ms) [] h s p e = absurd (omega (arith, s))
twos_back row k l i q (r ∷ rows) (m ∷ ms) (n ∷ ns) h s p e = (two_injective r row m k n l h.0 i p.0 q e.0, twos_back row k l i q rows ms ns h.1 (omega (arith, s)) p.1 e.1)

lower_back : (k l : ℤ) → IsTrue (in_unsigned 64 l) → (rows : List (Option Value)) (ms ns : List ℤ) → AllZip (Holds Int) rows ms → length ms ≡ length ns → Each (λ n. IsTrue (in_unsigned 64 n)) ns
    → EachIs (Some (Int k)) rows → EachIs (two_rows (Some (Int k)) (Some (Int l))) (zip2 two_rows rows (full_rows ns)) → EachIs (Some (Int l)) (full_rows ns)
lower_back k l q [] [] [] h s p f e = tt
lower_back k l q [] [] (n ∷ ns) h s p f e = absurd (omega (arith, s))
lower_back k l q [] (m ∷ ms) ns h s p f e = absurd h
lower_back k l q (r ∷ rows) [] ns h s p f e = absurd h
lower_back k l q (r ∷ rows) (m ∷ ms) [] h s p f e = absurd (omega (arith, s))
lower_back k l q (r ∷ rows) (m ∷ ms) (n ∷ ns) h s p f e =
    let g : two_rows (Some (Int k)) (Some (Int n)) ≡ two_rows (Some (Int k)) (Some (Int l)) = ap (λ x. two_rows x (Some (Int n))) (sym f.0) ∙ e.0 in
    (ap (λ z. Some (Int z)) (wide_lower k k n l p.0 q (two_same k k n l p.0 q g)), lower_back k l q rows ms ns h.1 (omega (arith, s)) p.1 f.1 e.1)

twos_forth : (row other : Option Value) (rows others : List (Option Value)) → EachIs row rows → EachIs other others → EachIs (two_rows row other) (zip2 two_rows rows others)
twos_forth row other [] others e f = tt
twos_forth row other (r ∷ rows) [] e f = tt
twos_forth row other (r ∷ rows) (o ∷ others) e f = (ap (λ x. two_rows x o) e.0 ∙ ap (two_rows row) f.0, twos_forth row other rows others e.1 f.1)

nulls_forth : (rows others : List (Option Value)) → EachIs None rows → EachIs None (zip2 two_rows rows others)
nulls_forth [] others e = tt
nulls_forth (r ∷ rows) [] e = tt
nulls_forth (r ∷ rows) (o ∷ others) e = (ap (λ x. two_rows x o) e.0, nulls_forth rows others e.1)

-- the first of rows is a value
abbrev pub starts_with_value : List (Option Value) → Bool
starts_with_value [] = false
starts_with_value (r ∷ rows) = is_some r

-- rows of two parts are equal only where those of the most significant part are
pub twos-constant-msp : (rows : List (Option Value)) (ms ns : List ℤ) → AllZip (Holds Int) rows ms → length ms ≡ length ns → Each (λ n. IsTrue (in_unsigned 64 n)) ns → IsConstant (zip2 two_rows rows (full_rows ns)) → IsConstant rows
twos-constant-msp [] ms ns h s p e = e
twos-constant-msp (r ∷ rows) [] ns h s p e = absurd h
twos-constant-msp (r ∷ rows) (m ∷ ms) [] h s p e = absurd (omega (arith, s))
twos-constant-msp (r ∷ rows) (m ∷ ms) (n ∷ ns) h s p e =
    all-of-each (λ x. x ≡ r) rows (twos_back r m n h.0 p.0 rows ms ns h.1 (omega (arith, s)) p.1 (to_each (two_rows r (Some (Int n))) (zip2 two_rows rows (full_rows ns)) e))

-- and, where the first is a value, those of the lower part
pub twos-constant-lower : (rows : List (Option Value)) (ms ns : List ℤ) → AllZip (Holds Int) rows ms → length ms ≡ length ns → Each (λ n. IsTrue (in_unsigned 64 n)) ns → IsTrue (starts_with_value rows) → IsConstant (zip2 two_rows rows (full_rows ns)) → IsConstant (full_rows ns)
twos-constant-lower [] ms ns h s p v e = absurd (cc v)
twos-constant-lower (r ∷ rows) [] ns h s p v e = absurd h
twos-constant-lower (r ∷ rows) (m ∷ ms) [] h s p v e = absurd (omega (arith, s))
twos-constant-lower (None ∷ rows) (m ∷ ms) (n ∷ ns) h s p v e = absurd (cc v)
twos-constant-lower (Some u ∷ rows) (m ∷ ms) (n ∷ ns) h s p v e =
    let all : EachIs (two_rows (Some u) (Some (Int n))) (zip2 two_rows rows (full_rows ns)) = to_each (two_rows (Some u) (Some (Int n))) (zip2 two_rows rows (full_rows ns)) e in
    let msp : EachIs (Some u) rows = twos_back (Some u) m n h.0 p.0 rows ms ns h.1 (omega (arith, s)) p.1 all in
    all-of-each (λ x. x ≡ Some (Int n)) (full_rows ns) (lower_back m n p.0 rows ms ns h.1 (omega (arith, s)) p.1 (rw h.0 at msp) (rw h.0 at all))

-- equal rows of both parts are equal rows
pub twos-constant : (rows : List (Option Value)) (ns : List ℤ) → length rows ≡ length ns → IsConstant rows → IsConstant (full_rows ns) → IsConstant (zip2 two_rows rows (full_rows ns))
twos-constant [] ns s e f = e
twos-constant (r ∷ rows) [] s e f = absurd (omega (arith, s))
twos-constant (r ∷ rows) (n ∷ ns) s e f = all-of-each (λ x. x ≡ two_rows r (Some (Int n))) (zip2 two_rows rows (full_rows ns)) (twos_forth r (Some (Int n)) rows (full_rows ns) (to_each r rows e) (to_each (Some (Int n)) (full_rows ns) f))

-- and so are rows that are all null
pub nulls-constant : (rows : List (Option Value)) (ns : List ℤ) → length rows ≡ length ns → starts_with_value rows ≡ false → IsConstant rows → IsConstant (zip2 two_rows rows (full_rows ns))
nulls-constant [] ns s v e = e
nulls-constant (r ∷ rows) [] s v e = absurd (omega (arith, s))
nulls-constant (Some u ∷ rows) (n ∷ ns) s v e = absurd (cc v)
nulls-constant (None ∷ rows) (n ∷ ns) s v e = all-of-each (λ x. x ≡ None) (zip2 two_rows rows (full_rows ns)) (nulls_forth rows (full_rows ns) (to_each None rows e))
