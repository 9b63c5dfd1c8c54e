-- What the rows of a text spell, one after another.
use Rattle.std.proofs.Common.{◌≡◌, ◌<◌, ◌≤◌, ◌++◌, ◌∙◌, ap, sym, arith, ℕ, List, [], ◌∷◌, length, length-append, Option, Some, None, refl, append_assoc}
use Rattle.std.specs.Prelude.{option_and_then}
use Rattle.std.proofs.lemmas.Bool.Decides.{nat_tests}
use Rattle.std.proofs.lemmas.List.{append-nil}
use Rattle.vortex_query.specs.Fields.{header_name, row_number}
use Rattle.vortex_query.specs.Numbered.{column_in, few, few_numbers, preceded, rows_numbers, under_name}

-- no row, no column
pub no_header : (rows : List (List (List ℕ))) → rows ≡ [] → column_in rows ≡ None
no_header rows e = ap column_in e

-- a first row without a name
pub bad_header : (rows rest : List (List (List ℕ))) (f : List (List ℕ)) → rows ≡ f ∷ rest → header_name f ≡ None → column_in rows ≡ None
bad_header rows rest f e h = ap column_in e ∙ ap (λ o. option_and_then (λ name. under_name name (rows_numbers rest)) o) h

-- a first row with a name
pub good_header : (rows rest : List (List (List ℕ))) (f : List (List ℕ)) (name : List ℕ) → rows ≡ f ∷ rest → header_name f ≡ Some name → column_in rows ≡ under_name name (rows_numbers rest)
good_header rows rest f name e h = ap column_in e ∙ ap (λ o. option_and_then (λ n. under_name n (rows_numbers rest)) o) h

-- a row that spells a number
pub good_row : (rows rest : List (List (List ℕ))) (f : List (List ℕ)) (n : ℕ) → rows ≡ f ∷ rest → row_number f ≡ Some n → rows_numbers rows ≡ preceded (n ∷ []) (rows_numbers rest)
unfolding rows_numbers
good_row rows rest f n e h = ap rows_numbers e ∙ ap (λ o. option_and_then (λ m. preceded (m ∷ []) (rows_numbers rest)) o) h

-- a row that spells none
pub bad_row : (rows rest : List (List (List ℕ))) (f : List (List ℕ)) → rows ≡ f ∷ rest → row_number f ≡ None → rows_numbers rows ≡ None
unfolding rows_numbers
bad_row rows rest f e h = ap rows_numbers e ∙ ap (λ o. option_and_then (λ m. preceded (m ∷ []) (rows_numbers rest)) o) h

after_one : (ns : List ℕ) (n : ℕ) (o : Option (List ℕ)) → preceded ns (preceded (n ∷ []) o) ≡ preceded (ns ++ n ∷ []) o
after_one ns n None = refl
after_one ns n (Some ms) = ap Some (sym (append_assoc ns (n ∷ []) ms))

-- one number more was read
pub one_more_read : (rows left rest : List (List (List ℕ))) (ns : List ℕ) (n : ℕ) → rows_numbers rows ≡ preceded ns (rows_numbers left) → rows_numbers left ≡ preceded (n ∷ []) (rows_numbers rest)
    → rows_numbers rows ≡ preceded (ns ++ n ∷ []) (rows_numbers rest)
one_more_read rows left rest ns n s e = s ∙ ap (preceded ns) e ∙ after_one ns n (rows_numbers rest)

few_enough : (ns : List ℕ) → length ns ≤ 65536 → few ns ≡ Some ns
few_enough ns h = grind (arith, nat_tests)

too_many : (ns : List ℕ) → 65536 < length ns → few ns ≡ None
too_many ns h = grind (arith, nat_tests)

-- all rows were read
pub all_read : (rows left : List (List (List ℕ))) (ns : List ℕ) → rows_numbers rows ≡ preceded ns (rows_numbers left) → left ≡ [] → length ns ≤ 65536 → few_numbers rows ≡ Some ns
unfolding rows_numbers
all_read rows left ns s e h =
    ap (option_and_then few) (s ∙ ap (λ r. preceded ns (rows_numbers r)) e ∙ ap Some (append-nil ns)) ∙ few_enough ns h

-- a row that is left spells no number
pub none_spelled : (rows left : List (List (List ℕ))) (ns : List ℕ) → rows_numbers rows ≡ preceded ns (rows_numbers left) → rows_numbers left ≡ None → few_numbers rows ≡ None
none_spelled rows left ns s e = ap (option_and_then few) (s ∙ ap (preceded ns) e)

past : (ns : List ℕ) (o : Option (List ℕ)) → 65536 < length ns → option_and_then few (preceded ns o) ≡ None
past ns None h = refl
past ns (Some ms) h = too_many (ns ++ ms) (omega (arith, length-append ns ms))

-- more rows than a table may have
pub past_limit : (rows left : List (List (List ℕ))) (ns : List ℕ) → rows_numbers rows ≡ preceded ns (rows_numbers left) → 65536 < length ns → few_numbers rows ≡ None
past_limit rows left ns s h = ap (option_and_then few) s ∙ past ns (rows_numbers left) h
