-- What the parts of a filter tell of the whole, for each of some rows.
use Rattle.std.proofs.Common.{rules, arith, ℕ, ◌+◌, ◌≡◌, ◌∙◌, refl, sym, ap, subst, Bool, true, false, not, ◌&&◌, List, [], ◌++◌, length, map, replicate, Option, Some, Ok, Err}
use Rattle.std.specs.Prelude.{All, IfOk, IsTrue, Result, option_map, is_none}
use Rattle.std.specs.Simd.Lanes.{zip2}
use Rattle.std.specs.declared.alloc.AllocError.{AllocError}
use Rattle.std.proofs.lemmas.List.{get_or-append-add, get_or_append_left, length-append, length-map}
use Rattle.std.proofs.lemmas.List.Elements.{All-head}
use Rattle.vortex_buffer.specs.declared.compare_operator.CompareOperator.{CompareOperator}
use Rattle.vortex_array_types.specs.declared.column.ColumnDesc.{ColumnDesc}
use Rattle.vortex_array_types.specs.declared.filter.BetweenOptions.{BetweenOptions}
use Rattle.vortex_array_types.specs.declared.filter.Operand.{Operand}
use Rattle.vortex_array_types.specs.declared.filter.Operand.TheVariants.{Column as Named, Constant}
use Rattle.vortex_array_types.specs.declared.filter.Filter.{Filter, Truth, Compare, Between, Like, IsNull, Not, And, Or, the_lemmas}
use Rattle.vortex_array_types.specs.Order.{compares}
use Rattle.vortex_array_types.specs.Truth.{Cells, all_three, and3, both, is_like, lies_between, operand_value, or3, truth}
use Rattle.vortex_array_types.specs.Typed.{filter_names, is_constant, is_text, is_truth_value, operand_names, operand_type, same_type, well_typed}
use Rattle.vortex_array_types.specs.Row.{Column}
use Rattle.vortex_array_kinds.specs.Kinds.{bool_column}
use Rattle.vortex_array_kinds.specs.Parts.{PlainParts}
use Rattle.vortex_array_kinds.specs.Truths.{answer_in, answers, joined_by_and, joined_by_or, negated}
use Rattle.vortex_array_kinds.proofs.TruthLaws.{answers-back}
use Rattle.vortex_table_chunks.specs.declared.chunk.Chunk.{Chunk}
use Rattle.vortex_table_chunks.specs.Rows.{IsOperand, IsThere, truths_of, values_of}
use Rattle.vortex_table_chunks.proofs.Listed.{decided, map-maps, map-same, zip2-maps}

-- the truth of a filter by its parts
pub truth-compare : (cells : Cells) (operator : CompareOperator) (x y : Operand) → both (compares operator) (operand_value cells x) (operand_value cells y) ≡ truth cells (Compare operator x y)
truth-compare cells operator x y = search (rules, the_lemmas)

pub truth-between : (cells : Cells) (options : BetweenOptions) (x lower upper : Operand) → all_three (lies_between options) (operand_value cells x) (operand_value cells lower) (operand_value cells upper) ≡ truth cells (Between options x lower upper)
truth-between cells options x lower upper = search (rules, the_lemmas)

pub truth-like : (cells : Cells) (x pattern : Operand) → both is_like (operand_value cells x) (operand_value cells pattern) ≡ truth cells (Like x pattern)
truth-like cells x pattern = search (rules, the_lemmas)

pub truth-null : (cells : Cells) (x : Operand) → Some (is_none (operand_value cells x)) ≡ truth cells (IsNull x)
truth-null cells x = search (rules, the_lemmas)

pub truth-itself : (cells : Cells) (x : Operand) → answer_in (operand_value cells x) ≡ truth cells (Truth x)
truth-itself cells x = search (rules, the_lemmas)

pub truth-and : (cells : Cells) (f g : Filter) → and3 (truth cells f) (truth cells g) ≡ truth cells (And f g)
truth-and cells f g = search (rules, the_lemmas)

pub truth-or : (cells : Cells) (f g : Filter) → or3 (truth cells f) (truth cells g) ≡ truth cells (Or f g)
truth-or cells f g = search (rules, the_lemmas)

pub truth-not : (cells : Cells) (f : Filter) → option_map not (truth cells f) ≡ truth cells (Not f)
truth-not cells f = search (rules, the_lemmas)

pub compared-truths : (rows : List Cells) (operator : CompareOperator) (x y : Operand) → zip2 (both (compares operator)) (values_of rows x) (values_of rows y) ≡ truths_of rows (Compare operator x y)
compared-truths rows operator x y =
    zip2-maps (both (compares operator)) (λ cells. operand_value cells x) (λ cells. operand_value cells y) rows ∙ map-same _ _ rows (λ cells. truth-compare cells operator x y)

pub bounded-truths : (rows : List Cells) (options : BetweenOptions) (x lower upper : Operand)
    → zip2 (λ test z. test z) (zip2 (all_three (lies_between options)) (values_of rows x) (values_of rows lower)) (values_of rows upper) ≡ truths_of rows (Between options x lower upper)
bounded-truths rows options x lower upper =
    ap (λ tests. zip2 (λ test z. test z) tests (values_of rows upper)) (zip2-maps (all_three (lies_between options)) (λ cells. operand_value cells x) (λ cells. operand_value cells lower) rows)
    ∙ zip2-maps (λ test z. test z) (λ cells. all_three (lies_between options) (operand_value cells x) (operand_value cells lower)) (λ cells. operand_value cells upper) rows
    ∙ map-same _ _ rows (λ cells. truth-between cells options x lower upper)

pub liked-truths : (rows : List Cells) (x pattern : Operand) → zip2 (both is_like) (values_of rows x) (values_of rows pattern) ≡ truths_of rows (Like x pattern)
liked-truths rows x pattern =
    zip2-maps (both is_like) (λ cells. operand_value cells x) (λ cells. operand_value cells pattern) rows ∙ map-same _ _ rows (λ cells. truth-like cells x pattern)

pub null-truths : (rows : List Cells) (x : Operand) → map (λ row. Some (is_none row)) (values_of rows x) ≡ truths_of rows (IsNull x)
null-truths rows x = map-maps (λ row. Some (is_none row)) (λ cells. operand_value cells x) rows ∙ map-same _ _ rows (λ cells. truth-null cells x)

pub own-truths : (rows : List Cells) (x : Operand) → map answer_in (values_of rows x) ≡ truths_of rows (Truth x)
own-truths rows x = map-maps answer_in (λ cells. operand_value cells x) rows ∙ map-same _ _ rows (λ cells. truth-itself cells x)

pub not-truths : (rows : List Cells) (f : Filter) → map (option_map not) (truths_of rows f) ≡ truths_of rows (Not f)
not-truths rows f = map-maps (option_map not) (λ cells. truth cells f) rows ∙ map-same _ _ rows (λ cells. truth-not cells f)

pub and-truths : (rows : List Cells) (f g : Filter) → zip2 and3 (truths_of rows f) (truths_of rows g) ≡ truths_of rows (And f g)
and-truths rows f g = zip2-maps and3 (λ cells. truth cells f) (λ cells. truth cells g) rows ∙ map-same _ _ rows (λ cells. truth-and cells f g)

pub or-truths : (rows : List Cells) (f g : Filter) → zip2 or3 (truths_of rows f) (truths_of rows g) ≡ truths_of rows (Or f g)
or-truths rows f g = zip2-maps or3 (λ cells. truth cells f) (λ cells. truth cells g) rows ∙ map-same _ _ rows (λ cells. truth-or cells f g)

-- a side that is false of each row decides a conjunction, and one that is true of each a disjunction
pub and-decided : (rows : List Cells) (f g : Filter) (n : ℕ) (given : List (Option Bool)) → given ≡ truths_of rows f → given ≡ replicate n (Some false) → given ≡ zip2 and3 (truths_of rows f) (truths_of rows g)
and-decided rows f g n given e all =
    e ∙ decided and3 (Some false) (λ cells. truth cells f) (λ cells. truth cells g) n rows (λ b. refl) (sym e ∙ all) ∙ sym (zip2-maps and3 (λ cells. truth cells f) (λ cells. truth cells g) rows)

pub or-decided : (rows : List Cells) (f g : Filter) (n : ℕ) (given : List (Option Bool)) → given ≡ truths_of rows f → given ≡ replicate n (Some true) → given ≡ zip2 or3 (truths_of rows f) (truths_of rows g)
or-decided rows f g n given e all =
    e ∙ decided or3 (Some true) (λ cells. truth cells f) (λ cells. truth cells g) n rows (λ b. refl) (sym e ∙ all) ∙ sym (zip2-maps or3 (λ cells. truth cells f) (λ cells. truth cells g) rows)

-- answers that were made are those of a filter that is equal
pub told : (rows : List Cells) (f filter : Filter) (made : Result (PlainParts (List Bool)) AllocError) (given : List (Option Bool)) → filter ≡ f → given ≡ truths_of rows f → IfOk made (λ a. answers (bool_column a) ≡ given)
    → IfOk made (λ a. answers (bool_column a) ≡ truths_of rows filter)
told rows f filter (Err e) given is h k = tt
told rows f filter (Ok a) given is h k = k ∙ h ∙ ap (truths_of rows) (sym is)

-- the negation of answers
pub negated-answers : (rows : List Cells) (f : Filter) (given : PlainParts (List Bool)) (made : Result (PlainParts (List Bool)) AllocError) → answers (bool_column given) ≡ truths_of rows f
    → IfOk made (λ a. bool_column a ≡ negated (bool_column given)) → IfOk made (λ a. answers (bool_column a) ≡ truths_of rows (Not f))
negated-answers rows f given (Err e) h k = tt
negated-answers rows f given (Ok a) h k = ap answers k ∙ answers-back (map (option_map not) (answers (bool_column given))) ∙ ap (map (option_map not)) h ∙ not-truths rows f

-- the answers of two filters, joined
module _ (rows : List Cells) (f g : Filter) (left right : PlainParts (List Bool)) (first : answers (bool_column left) ≡ truths_of rows f) (second : answers (bool_column right) ≡ truths_of rows g) where
  joined : (join : Option Bool → Option Bool → Option Bool) → zip2 join (answers (bool_column left)) (answers (bool_column right)) ≡ zip2 join (truths_of rows f) (truths_of rows g)
  joined join = ap (λ given. zip2 join given (answers (bool_column right))) first ∙ ap (zip2 join (truths_of rows f)) second

  pub and-answers : (made : Result (PlainParts (List Bool)) AllocError) → IfOk made (λ a. bool_column a ≡ joined_by_and (bool_column left) (bool_column right)) → IfOk made (λ a. answers (bool_column a) ≡ zip2 and3 (truths_of rows f) (truths_of rows g))
  and-answers (Err e) k = tt
  and-answers (Ok a) k = ap answers k ∙ answers-back (zip2 and3 (answers (bool_column left)) (answers (bool_column right))) ∙ joined and3

  pub or-answers : (made : Result (PlainParts (List Bool)) AllocError) → IfOk made (λ a. bool_column a ≡ joined_by_or (bool_column left) (bool_column right)) → IfOk made (λ a. answers (bool_column a) ≡ zip2 or3 (truths_of rows f) (truths_of rows g))
  or-answers (Err e) k = tt
  or-answers (Ok a) k = ap answers k ∙ answers-back (zip2 or3 (answers (bool_column left)) (answers (bool_column right))) ∙ joined or3

  long_answers : (h : Filter) (c : Column) → answers c ≡ truths_of rows h → length c.rows ≡ length rows
  long_answers h c e = sym (length-map c.rows answer_in) ∙ ap length e ∙ length-map rows (λ cells. truth cells h)

  -- are as many
  pub same-long : length (bool_column left).rows ≡ length (bool_column right).rows
  same-long = long_answers f (bool_column left) first ∙ sym (long_answers g (bool_column right) second)

-- both truths hold
pub both-hold : (p q : Bool) → IsTrue (p && q) → IsTrue p × IsTrue q
both-hold true q h = (refl, h)
both-hold false q h = absurd (cc h)

-- the type rules by parts
typed_truth : (columns : List ColumnDesc) (x : Operand) → well_typed columns (Some (Truth x)) ≡ is_truth_value (operand_type columns x)
typed_truth columns x = search (rules, the_lemmas)

typed_compare : (columns : List ColumnDesc) (operator : CompareOperator) (x y : Operand) → well_typed columns (Some (Compare operator x y)) ≡ same_type (operand_type columns x) (operand_type columns y)
typed_compare columns operator x y = search (rules, the_lemmas)

typed_between : (columns : List ColumnDesc) (options : BetweenOptions) (x lower upper : Operand)
    → well_typed columns (Some (Between options x lower upper)) ≡ (same_type (operand_type columns x) (operand_type columns lower) && same_type (operand_type columns x) (operand_type columns upper))
typed_between columns options x lower upper = search (rules, the_lemmas)

typed_like : (columns : List ColumnDesc) (x pattern : Operand) → well_typed columns (Some (Like x pattern)) ≡ (is_text (operand_type columns x) && is_text (operand_type columns pattern) && is_constant pattern)
typed_like columns x pattern = search (rules, the_lemmas)

typed_not : (columns : List ColumnDesc) (f : Filter) → well_typed columns (Some (Not f)) ≡ well_typed columns (Some f)
typed_not columns f = search (rules, the_lemmas)

typed_and : (columns : List ColumnDesc) (f g : Filter) → well_typed columns (Some (And f g)) ≡ (well_typed columns (Some f) && well_typed columns (Some g))
typed_and columns f g = search (rules, the_lemmas)

typed_or : (columns : List ColumnDesc) (f g : Filter) → well_typed columns (Some (Or f g)) ≡ (well_typed columns (Some f) && well_typed columns (Some g))
typed_or columns f g = search (rules, the_lemmas)

-- what the type rules of a filter say of its parts
module _ (columns : List ColumnDesc) (filter : Filter) (typed : IsTrue (well_typed columns (Some filter))) where
  at : (f : Filter) → filter ≡ f → IsTrue (well_typed columns (Some f))
  at f is = subst (λ g. IsTrue (well_typed columns (Some g))) is typed

  pub truth-typed : (x : Operand) → filter ≡ Truth x → IsTrue (is_truth_value (operand_type columns x))
  truth-typed x is = subst IsTrue (typed_truth columns x) (at (Truth x) is)

  pub compare-typed : (operator : CompareOperator) (x y : Operand) → filter ≡ Compare operator x y → IsTrue (same_type (operand_type columns x) (operand_type columns y))
  compare-typed operator x y is = subst IsTrue (typed_compare columns operator x y) (at (Compare operator x y) is)

  pub between-typed : (options : BetweenOptions) (x lower upper : Operand) → filter ≡ Between options x lower upper
      → IsTrue (same_type (operand_type columns x) (operand_type columns lower)) × IsTrue (same_type (operand_type columns x) (operand_type columns upper))
  between-typed options x lower upper is = both-hold _ _ (subst IsTrue (typed_between columns options x lower upper) (at (Between options x lower upper) is))

  texts : (x pattern : Operand) → filter ≡ Like x pattern → IsTrue (is_text (operand_type columns x) && is_text (operand_type columns pattern) && is_constant pattern)
  texts x pattern is = subst IsTrue (typed_like columns x pattern) (at (Like x pattern) is)

  pub like-texts : (x pattern : Operand) → filter ≡ Like x pattern → IsTrue (is_text (operand_type columns x)) × IsTrue (is_text (operand_type columns pattern))
  like-texts x pattern is = both-hold _ _ ((both-hold (is_text (operand_type columns x) && is_text (operand_type columns pattern)) (is_constant pattern) (texts x pattern is)).0)

  pub like-constant : (x pattern : Operand) → filter ≡ Like x pattern → IsTrue (is_constant pattern)
  like-constant x pattern is = (both-hold (is_text (operand_type columns x) && is_text (operand_type columns pattern)) (is_constant pattern) (texts x pattern is)).1

  pub not-typed : (f : Filter) → filter ≡ Not f → IsTrue (well_typed columns (Some f))
  not-typed f is = subst IsTrue (typed_not columns f) (at (Not f) is)

  pub and-typed : (f g : Filter) → filter ≡ And f g → IsTrue (well_typed columns (Some f)) × IsTrue (well_typed columns (Some g))
  and-typed f g is = both-hold _ _ (subst IsTrue (typed_and columns f g) (at (And f g) is))

  pub or-typed : (f g : Filter) → filter ≡ Or f g → IsTrue (well_typed columns (Some f)) × IsTrue (well_typed columns (Some g))
  or-typed f g is = both-hold _ _ (subst IsTrue (typed_or columns f g) (at (Or f g) is))

-- the names by parts
names_truth : (x : Operand) → filter_names (Some (Truth x)) ≡ operand_names x
names_truth x = search (rules, the_lemmas)

names_compare : (operator : CompareOperator) (x y : Operand) → filter_names (Some (Compare operator x y)) ≡ operand_names x ++ operand_names y
names_compare operator x y = search (rules, the_lemmas)

names_between : (options : BetweenOptions) (x lower upper : Operand) → filter_names (Some (Between options x lower upper)) ≡ operand_names x ++ operand_names lower ++ operand_names upper
names_between options x lower upper = search (rules, the_lemmas)

names_like : (x pattern : Operand) → filter_names (Some (Like x pattern)) ≡ operand_names x ++ operand_names pattern
names_like x pattern = search (rules, the_lemmas)

names_null : (x : Operand) → filter_names (Some (IsNull x)) ≡ operand_names x
names_null x = search (rules, the_lemmas)

names_not : (f : Filter) → filter_names (Some (Not f)) ≡ filter_names (Some f)
names_not f = search (rules, the_lemmas)

names_and : (f g : Filter) → filter_names (Some (And f g)) ≡ filter_names (Some f) ++ filter_names (Some g)
names_and f g = search (rules, the_lemmas)

names_or : (f g : Filter) → filter_names (Some (Or f g)) ≡ filter_names (Some f) ++ filter_names (Some g)
names_or f g = search (rules, the_lemmas)

-- what holds of each of two lists in a row holds of each part's
first_all : (P : List ℕ → Type 0) (xs ys : List (List ℕ)) → All P (xs ++ ys) → All P xs
first_all P xs ys h k d inside = subst P (get_or_append_left xs ys d k inside) (h k d (omega (arith, inside, length-append xs ys)))

second_all : (P : List ℕ → Type 0) (xs ys : List (List ℕ)) → All P (xs ++ ys) → All P ys
second_all P xs ys h k d inside = subst P (get_or-append-add xs ys k d) (h (length xs + k) d (omega (arith, inside, length-append xs ys)))

-- the chunks of the names of a filter are there: so are those of its parts
module _ (columns : List ColumnDesc) (chunks : List (Option Chunk)) where
  held : (x : Operand) → All (IsThere columns chunks) (operand_names x) → IsOperand columns chunks x
  held (Named name) h = All-head (IsThere columns chunks) name [] h
  held (Constant scalar) h = tt

  first_held : (x : Operand) (names : List (List ℕ)) → All (IsThere columns chunks) (operand_names x ++ names) → IsOperand columns chunks x
  first_held x names h = held x (first_all (IsThere columns chunks) (operand_names x) names h)

  module _ (filter : Filter) (there : All (IsThere columns chunks) (filter_names (Some filter))) where
    names_at : (f : Filter) (names : List (List ℕ)) → filter ≡ f → filter_names (Some f) ≡ names → All (IsThere columns chunks) names
    names_at f names is e = subst (All (IsThere columns chunks)) (ap (λ g. filter_names (Some g)) is ∙ e) there

    pub truth-there : (x : Operand) → filter ≡ Truth x → IsOperand columns chunks x
    truth-there x is = held x (names_at (Truth x) (operand_names x) is (names_truth x))

    pub null-there : (x : Operand) → filter ≡ IsNull x → IsOperand columns chunks x
    null-there x is = held x (names_at (IsNull x) (operand_names x) is (names_null x))

    pub compare-there : (operator : CompareOperator) (x y : Operand) → filter ≡ Compare operator x y → IsOperand columns chunks x × IsOperand columns chunks y
    compare-there operator x y is =
        let names : All (IsThere columns chunks) (operand_names x ++ operand_names y) = names_at (Compare operator x y) (operand_names x ++ operand_names y) is (names_compare operator x y) in
        (first_held x (operand_names y) names, held y (second_all (IsThere columns chunks) (operand_names x) (operand_names y) names))

    pub like-there : (x pattern : Operand) → filter ≡ Like x pattern → IsOperand columns chunks x × IsOperand columns chunks pattern
    like-there x pattern is =
        let names : All (IsThere columns chunks) (operand_names x ++ operand_names pattern) = names_at (Like x pattern) (operand_names x ++ operand_names pattern) is (names_like x pattern) in
        (first_held x (operand_names pattern) names, held pattern (second_all (IsThere columns chunks) (operand_names x) (operand_names pattern) names))

    pub between-there : (options : BetweenOptions) (x lower upper : Operand) → filter ≡ Between options x lower upper → IsOperand columns chunks x × IsOperand columns chunks lower × IsOperand columns chunks upper
    between-there options x lower upper is =
        let front : List (List ℕ) = operand_names x ++ operand_names lower in
        let names : All (IsThere columns chunks) (front ++ operand_names upper) = names_at (Between options x lower upper) (front ++ operand_names upper) is (names_between options x lower upper) in
        let before : All (IsThere columns chunks) front = first_all (IsThere columns chunks) front (operand_names upper) names in
        (first_held x (operand_names lower) before, held lower (second_all (IsThere columns chunks) (operand_names x) (operand_names lower) before), held upper (second_all (IsThere columns chunks) front (operand_names upper) names))

    pub not-there : (f : Filter) → filter ≡ Not f → All (IsThere columns chunks) (filter_names (Some f))
    not-there f is = names_at (Not f) (filter_names (Some f)) is (names_not f)

    pub and-there-first : (f g : Filter) → filter ≡ And f g → All (IsThere columns chunks) (filter_names (Some f))
    and-there-first f g is = first_all (IsThere columns chunks) (filter_names (Some f)) (filter_names (Some g)) (names_at (And f g) (filter_names (Some f) ++ filter_names (Some g)) is (names_and f g))

    pub and-there-second : (f g : Filter) → filter ≡ And f g → All (IsThere columns chunks) (filter_names (Some g))
    and-there-second f g is = second_all (IsThere columns chunks) (filter_names (Some f)) (filter_names (Some g)) (names_at (And f g) (filter_names (Some f) ++ filter_names (Some g)) is (names_and f g))

    pub or-there-first : (f g : Filter) → filter ≡ Or f g → All (IsThere columns chunks) (filter_names (Some f))
    or-there-first f g is = first_all (IsThere columns chunks) (filter_names (Some f)) (filter_names (Some g)) (names_at (Or f g) (filter_names (Some f) ++ filter_names (Some g)) is (names_or f g))

    pub or-there-second : (f g : Filter) → filter ≡ Or f g → All (IsThere columns chunks) (filter_names (Some g))
    or-there-second f g is = second_all (IsThere columns chunks) (filter_names (Some f)) (filter_names (Some g)) (names_at (Or f g) (filter_names (Some f) ++ filter_names (Some g)) is (names_or f g))
