-- What a call of three values answers of one row.
use Rattle.std.proofs.Common.{rules, ℕ, zero, suc, ◌≡◌, ◌<◌, Bool, not, List, [], ◌∷◌, length, get_or, map, refl, ap, ◌∙◌, arith, Option, Some, None}
use Rattle.std.specs.Prelude.{option_map}
use Rattle.std.specs.Simd.Lanes.{zip2}
use Rattle.std.proofs.lemmas.List.{length-map, length-replicate, get_or-map, get_or-replicate}
use Rattle.std.proofs.lemmas.Simd.{get_or-zip2}
use Rattle.vortex_array_types.specs.Order.{compares}
use Rattle.vortex_array_types.specs.Truth.{and3, or3, both, all_three, is_like, lies_between, Cells, operand_value, truth}
use Rattle.vortex_array_types.specs.declared.scalar.Value.{Value}
use Rattle.vortex_buffer.specs.declared.compare_operator.CompareOperator.{CompareOperator}
use Rattle.vortex_array_types.specs.declared.filter.BetweenOptions.{BetweenOptions}
use Rattle.vortex_array_types.specs.declared.filter.Filter.{Filter, Compare, Between, Like, Not, And, Or, the_lemmas}
use Rattle.vortex_array_types.specs.declared.filter.Operand.{Operand}
use Rattle.vortex_array_types.specs.declared.filter.Operand.TheVariants.{Column as Named, Constant}
use Rattle.vortex_array_kinds.specs.Truths.{answer_in, answers, truth_row}
use Rattle.vortex_array_kinds.specs.TruthLaws.{AndByRow, BoundedByRow, ComparedByRow, LikedByRow, NegatedByRow, OrByRow, Columns, cells_at, operand_column}

answer_back : (a : Option Bool) → answer_in (truth_row a) ≡ a
answer_back None = refl
answer_back (Some b) = refl

-- the answers of a column that is made of answers
pub answers-back : (given : List (Option Bool)) → map answer_in (map truth_row given) ≡ given
answers-back [] = refl
answers-back (a ∷ given) = ap (λ b. b ∷ map answer_in (map truth_row given)) (answer_back a) ∙ ap (λ rest. a ∷ rest) (answers-back given)

by_row : {X Y : Type 0} (f : X → Y → Option Bool) (xs : List X) (ys : List Y) (i : ℕ) (x : X) (y : Y) → i < length xs → i < length ys
    → get_or (map answer_in (map truth_row (zip2 f xs ys))) i None ≡ f (get_or xs i x) (get_or ys i y)
by_row f xs ys i x y h l = ap (λ given. get_or given i None) (answers-back (zip2 f xs ys)) ∙ get_or-zip2 f xs ys i x y None h l

inside_answers : (rows : List (Option Value)) (i : ℕ) → i < length rows → i < length (map answer_in rows)
inside_answers rows i h = omega (arith, h, length-map rows answer_in)

-- row i of an operand is its value for the row
operand_row : (n : ℕ) (columns : Columns n) (i : ℕ) (x : Operand) → i < n → get_or (operand_column columns x).rows i None ≡ operand_value (cells_at columns i) x
operand_row n columns i (Named name) h = refl
operand_row n columns i (Constant scalar) h = get_or-replicate n i scalar.value None h

operand_long : (n : ℕ) (columns : Columns n) (i : ℕ) (x : Operand) → i < n → i < length (operand_column columns x).rows
operand_long n columns i (Named name) h = omega (arith, h, columns.long name)
operand_long n columns i (Constant scalar) h = omega (arith, h, length-replicate n scalar.value)

two_operands : (test : Value → Value → Bool) (n : ℕ) (columns : Columns n) (i : ℕ) (x y : Operand) → i < n
    → get_or (map answer_in (map truth_row (zip2 (both test) (operand_column columns x).rows (operand_column columns y).rows))) i None ≡ both test (operand_value (cells_at columns i) x) (operand_value (cells_at columns i) y)
two_operands test n columns i x y h =
    by_row (both test) (operand_column columns x).rows (operand_column columns y).rows i None None (operand_long n columns i x h) (operand_long n columns i y h)
    ∙ ap (λ a. both test a (get_or (operand_column columns y).rows i None)) (operand_row n columns i x h)
    ∙ ap (both test (operand_value (cells_at columns i) x)) (operand_row n columns i y h)

-- the truth of a filter by its parts
truth-compare : (cells : Cells) (operator : CompareOperator) (x y : Operand) → both (compares operator) (operand_value cells x) (operand_value cells y) ≡ truth cells (Compare operator x y)
truth-compare cells operator x y = search (rules, the_lemmas)

truth-between : (cells : Cells) (options : BetweenOptions) (x lower upper : Operand) → all_three (lies_between options) (operand_value cells x) (operand_value cells lower) (operand_value cells upper) ≡ truth cells (Between options x lower upper)
truth-between cells options x lower upper = search (rules, the_lemmas)

truth-like : (cells : Cells) (x pattern : Operand) → both is_like (operand_value cells x) (operand_value cells pattern) ≡ truth cells (Like x pattern)
truth-like cells x pattern = search (rules, the_lemmas)

truth-and : (cells : Cells) (f g : Filter) → and3 (truth cells f) (truth cells g) ≡ truth cells (And f g)
truth-and cells f g = search (rules, the_lemmas)

truth-or : (cells : Cells) (f g : Filter) → or3 (truth cells f) (truth cells g) ≡ truth cells (Or f g)
truth-or cells f g = search (rules, the_lemmas)

truth-not : (cells : Cells) (f : Filter) → option_map not (truth cells f) ≡ truth cells (Not f)
truth-not cells f = search (rules, the_lemmas)

pub compared-by-row : ComparedByRow
compared-by-row n columns i h operator x y = two_operands (compares operator) n columns i x y h ∙ truth-compare (cells_at columns i) operator x y

pub liked-by-row : LikedByRow
liked-by-row n columns i h x pattern = two_operands is_like n columns i x pattern h ∙ truth-like (cells_at columns i) x pattern

pub and-by-row : AndByRow
and-by-row cells f g a b i h l e k =
    by_row and3 (answers a) (answers b) i None None (inside_answers a.rows i h) (inside_answers b.rows i l) ∙ ap (λ p. and3 p (get_or (answers b) i None)) e ∙ ap (and3 (truth cells f)) k ∙ truth-and cells f g

pub or-by-row : OrByRow
or-by-row cells f g a b i h l e k =
    by_row or3 (answers a) (answers b) i None None (inside_answers a.rows i h) (inside_answers b.rows i l) ∙ ap (λ p. or3 p (get_or (answers b) i None)) e ∙ ap (or3 (truth cells f)) k ∙ truth-or cells f g

pub negated-by-row : NegatedByRow
negated-by-row cells f a i h e =
    ap (λ given. get_or given i None) (answers-back (map (option_map not) (answers a)))
    ∙ get_or-map (option_map not) (answers a) i None None (inside_answers a.rows i h)
    ∙ ap (option_map not) e
    ∙ truth-not cells f

inside_two : {X Y Z : Type 0} (f : X → Y → Z) (xs : List X) (ys : List Y) (i : ℕ) → i < length xs → i < length ys → i < length (zip2 f xs ys)
inside_two f [] ys i h l = absurd (omega (arith, h))
inside_two f (x ∷ xs) [] i h l = absurd (omega (arith, l))
inside_two f (x ∷ xs) (y ∷ ys) zero h l = omega arith
inside_two f (x ∷ xs) (y ∷ ys) (suc i) h l = omega (arith, inside_two f xs ys i (omega (arith, h)) (omega (arith, l)))

pub bounded-by-row : BoundedByRow
bounded-by-row n columns i h options x lower upper =
    let test = all_three (lies_between options) in
    let xs = (operand_column columns x).rows in
    let ls = (operand_column columns lower).rows in
    let us = (operand_column columns upper).rows in
    by_row (λ t z. t z) (zip2 test xs ls) us i (test None None) None (inside_two test xs ls i (operand_long n columns i x h) (operand_long n columns i lower h)) (operand_long n columns i upper h)
    ∙ ap (λ t. t (get_or us i None)) (get_or-zip2 test xs ls i None None (test None None) (operand_long n columns i x h) (operand_long n columns i lower h))
    ∙ ap (λ a. test a (get_or ls i None) (get_or us i None)) (operand_row n columns i x h)
    ∙ ap (λ b. test (operand_value (cells_at columns i) x) b (get_or us i None)) (operand_row n columns i lower h)
    ∙ ap (test (operand_value (cells_at columns i) x) (operand_value (cells_at columns i) lower)) (operand_row n columns i upper h)
    ∙ truth-between (cells_at columns i) options x lower upper
