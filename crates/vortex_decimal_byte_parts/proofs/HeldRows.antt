-- Rows of parts, and the numbers in their places.
use Rattle.std.proofs.Common.{ℕ, zero, suc, ◌≡◌, Bool, true, false, List, [], ◌∷◌, length, map, refl, sym, ap, ◌∙◌, arith, Option, Some, None}
use Rattle.std.specs.Prelude.{ℤ, pos, negsuc, int_le, IsTrue, replicate, is_some}
use Rattle.std.specs.List.{AllZip}
use Rattle.std.specs.Simd.Lanes.{zip2}
use Rattle.vortex_array_types.specs.declared.scalar.Value.{Value}
use Rattle.vortex_array_types.specs.declared.scalar.Value.TheVariants.{Int, Decimal}
use Rattle.vortex_array_kinds.specs.Validities.{row_of, rows_under, is_as_long, valid_bits}
use Rattle.vortex_array_kinds.specs.declared.validity.Validity.{Validity}
use Rattle.vortex_array_kinds.specs.declared.validity.Validity.TheVariants.{NonNullable, AllValid, AllInvalid, Bits}
use Rattle.vortex_array_kinds.proofs.RowLemmas.{long_bits}
use Rattle.vortex_array_kinds.proofs.TruthRows.{rows-present}
use Rattle.vortex_decimal_byte_parts.specs.Columns.{one_row, two_rows}
use Rattle.vortex_decimal_byte_parts.specs.Held.{Each, Holds, answer_if, asked_row, wide}

-- every value is a number in its place
all_hold : (as_value : ℤ → Value) (ns : List ℤ) → AllZip (Holds as_value) (map (λ v. Some v) (map as_value ns)) ns
all_hold as_value [] = tt
all_hold as_value (n ∷ ns) = (refl, all_hold as_value ns)

none_hold : (as_value : ℤ → Value) (ns : List ℤ) → AllZip (Holds as_value) (rows_under AllInvalid (map as_value ns)) ns
none_hold as_value [] = tt
none_hold as_value (n ∷ ns) = (tt, none_hold as_value ns)

row_holds : (as_value : ℤ → Value) (n : ℤ) (b : Bool) → Holds as_value (row_of (as_value n) b) n
row_holds as_value n true = refl
row_holds as_value n false = tt

some_hold : (as_value : ℤ → Value) (ns : List ℤ) (bits : List Bool) → length bits ≡ length ns → AllZip (Holds as_value) (zip2 row_of (map as_value ns) bits) ns
some_hold as_value [] bits e = tt
some_hold as_value (n ∷ ns) [] e = absurd (omega (arith, e))
some_hold as_value (n ∷ ns) (b ∷ bits) e = (row_holds as_value n b, some_hold as_value ns bits (omega (arith, e)))

-- rows under a validity are null or the numbers in their places
pub holds-under : (as_value : ℤ → Value) (v : Validity) (ns : List ℤ) → IsTrue (is_as_long v (length ns)) → AllZip (Holds as_value) (rows_under v (map as_value ns)) ns
holds-under as_value NonNullable ns e = all_hold as_value ns
holds-under as_value AllValid ns e = all_hold as_value ns
holds-under as_value AllInvalid ns e = none_hold as_value ns
holds-under as_value (Bits bits) ns e = some_hold as_value ns bits (long_bits bits (length ns) e)

-- and so equal rows
pub holds-equal : (as_value : ℤ → Value) (row : Option Value) (n : ℤ) → Holds as_value row n → (len : ℕ) → AllZip (Holds as_value) (replicate len row) (replicate len n)
holds-equal as_value row n h zero = tt
holds-equal as_value row n h (suc len) = (h, holds-equal as_value row n h len)

-- there are as many numbers as rows
pub length-held : (as_value : ℤ → Value) (rows : List (Option Value)) (ns : List ℤ) → AllZip (Holds as_value) rows ns → length rows ≡ length ns
length-held as_value [] [] h = refl
length-held as_value [] (n ∷ ns) h = absurd h
length-held as_value (r ∷ rows) [] h = absurd h
length-held as_value (r ∷ rows) (n ∷ ns) h = omega (arith, length-held as_value rows ns h.1)

one_held : (row : Option Value) (n : ℤ) → Holds Int row n → Holds Decimal (one_row row) n
one_held None n h = tt
one_held (Some v) n h = rw h refl

-- the rows of a most significant part alone are its numbers as decimals
pub ones-held : (rows : List (Option Value)) (ns : List ℤ) → AllZip (Holds Int) rows ns → AllZip (Holds Decimal) (map one_row rows) ns
ones-held [] [] h = tt
ones-held [] (n ∷ ns) h = absurd h
ones-held (r ∷ rows) [] h = absurd h
ones-held (r ∷ rows) (n ∷ ns) h = (one_held r n h.0, ones-held rows ns h.1)

one_some : (row : Option Value) (n : ℤ) → Holds Int row n → is_some (one_row row) ≡ is_some row
one_some None n h = refl
one_some (Some v) n h = rw h refl

-- and null where that is
pub ones-present : (rows : List (Option Value)) (ns : List ℤ) → AllZip (Holds Int) rows ns → map is_some (map one_row rows) ≡ map is_some rows
ones-present [] [] h = refl
ones-present [] (n ∷ ns) h = absurd h
ones-present (r ∷ rows) [] h = absurd h
ones-present (r ∷ rows) (n ∷ ns) h = ap (λ b. b ∷ map is_some (map one_row rows)) (one_some r n h.0) ∙ ap (λ bs. is_some r ∷ bs) (ones-present rows ns h.1)

-- numbers from 0 on
abbrev pub FromZero : List ℤ → Type 0
FromZero ns = Each (λ n. IsTrue (int_le (pos 0) n)) ns

-- rows of a lower part: its numbers
abbrev pub full_rows : List ℤ → List (Option Value)
full_rows ns = map (λ n. Some (Int n)) ns

two_held : (row : Option Value) (m n : ℤ) → Holds Int row m → IsTrue (int_le (pos 0) n) → Holds Decimal (two_rows row (Some (Int n))) (wide m n)
two_held None m n h e = tt
two_held (Some v) m (pos n) h e = rw h refl
two_held (Some v) m (negsuc n) h e = absurd (cc e)

-- the rows of two parts are their numbers as decimals
pub twos-held : (rows : List (Option Value)) (ms ns : List ℤ) → AllZip (Holds Int) rows ms → length ms ≡ length ns → FromZero ns → AllZip (Holds Decimal) (zip2 two_rows rows (full_rows ns)) (zip2 wide ms ns)
twos-held [] [] ns h e f = tt
twos-held [] (m ∷ ms) ns h e f = absurd h
twos-held (r ∷ rows) [] ns h e f = absurd h
twos-held (r ∷ rows) (m ∷ ms) [] h e f = absurd (omega (arith, e))
twos-held (r ∷ rows) (m ∷ ms) (n ∷ ns) h e f = (two_held r m n h.0 f.0, twos-held rows ms ns h.1 (omega (arith, e)) f.1)

two_some : (row : Option Value) (m n : ℤ) → Holds Int row m → IsTrue (int_le (pos 0) n) → is_some (two_rows row (Some (Int n))) ≡ is_some row
two_some None m n h e = refl
two_some (Some v) m (pos n) h e = rw h refl
two_some (Some v) m (negsuc n) h e = absurd (cc e)

-- and null where the most significant part is
pub twos-present : (rows : List (Option Value)) (ms ns : List ℤ) → AllZip (Holds Int) rows ms → length ms ≡ length ns → FromZero ns → map is_some (zip2 two_rows rows (full_rows ns)) ≡ map is_some rows
twos-present [] [] ns h e f = refl
twos-present [] (m ∷ ms) ns h e f = absurd h
twos-present (r ∷ rows) [] ns h e f = absurd h
twos-present (r ∷ rows) (m ∷ ms) [] h e f = absurd (omega (arith, e))
twos-present (r ∷ rows) (m ∷ ms) (n ∷ ns) h e f =
    ap (λ b. b ∷ map is_some (zip2 two_rows rows (full_rows ns))) (two_some r m n h.0 f.0)
    ∙ ap (λ bs. is_some r ∷ bs) (twos-present rows ms ns h.1 (omega (arith, e)) f.1)

-- what a test says of the number of a row that is not null
held_answer : (test : ℤ → Bool) (row : Option Value) (n : ℤ) → Holds Decimal row n → answer_if (is_some row) (test n) ≡ asked_row test row
held_answer test None n h = refl
held_answer test (Some v) n h = rw h refl

-- the answers of a test to the numbers in the rows' places, null where a row is
pub held-answers : (test : ℤ → Bool) (rows : List (Option Value)) (ns : List ℤ) → AllZip (Holds Decimal) rows ns → zip2 answer_if (map is_some rows) (map test ns) ≡ map (asked_row test) rows
held-answers test [] [] h = refl
held-answers test [] (n ∷ ns) h = absurd h
held-answers test (r ∷ rows) [] h = absurd h
held-answers test (r ∷ rows) (n ∷ ns) h =
    ap (λ a. a ∷ zip2 answer_if (map is_some rows) (map test ns)) (held_answer test r n h.0)
    ∙ ap (λ more. asked_row test r ∷ more) (held-answers test rows ns h.1)

row_held : (as_value : ℤ → Value) (row : Option Value) (n : ℤ) → Holds as_value row n → row_of (as_value n) (is_some row) ≡ row
row_held as_value None n h = refl
row_held as_value (Some v) n h = ap (λ x. Some x) (sym h)

-- the numbers in the rows' places, null where the rows are, are the rows
pub rows-held : (as_value : ℤ → Value) (rows : List (Option Value)) (ns : List ℤ) → AllZip (Holds as_value) rows ns → zip2 (λ n b. row_of (as_value n) b) ns (map is_some rows) ≡ rows
rows-held as_value [] [] h = refl
rows-held as_value [] (n ∷ ns) h = absurd h
rows-held as_value (r ∷ rows) [] h = absurd h
rows-held as_value (r ∷ rows) (n ∷ ns) h =
    ap (λ row. row ∷ zip2 (λ n b. row_of (as_value n) b) ns (map is_some rows)) (row_held as_value r n h.0)
    ∙ ap (λ more. r ∷ more) (rows-held as_value rows ns h.1)

-- and so under a validity that says which rows are not null
pub rows-under-held : (as_value : ℤ → Value) (v : Validity) (rows : List (Option Value)) (ns : List ℤ) → AllZip (Holds as_value) rows ns → valid_bits v (length ns) ≡ map is_some rows → rows_under v (map as_value ns) ≡ rows
rows-under-held as_value v rows ns h e = rows-present as_value v ns ∙ ap (zip2 (λ n b. row_of (as_value n) b) ns) e ∙ rows-held as_value rows ns h
