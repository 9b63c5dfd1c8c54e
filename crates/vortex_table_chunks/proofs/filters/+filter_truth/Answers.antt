use Rattle.std.proofs.Common.{rules, arith, ◌<◌, ◌≡◌, ◌∙◌, ap, length, refl, sym, List}
use Rattle.vortex_array_types.specs.declared.filter.Filter.{Filter, Truth, Compare, Between, Like, IsNull, And, Not, Or, size-Filter}
use Rattle.vortex_array_types.specs.declared.filter.Filter.TheViews as views
use Rattle.vortex_array_types.specs.Row.{Column}
use Rattle.vortex_array_types.specs.Truth.{Cells}
use Rattle.vortex_array_kinds.specs.Kinds.{bool_column}
use Rattle.vortex_array_kinds.specs.Truths.{answers}
use Rattle.vortex_table_chunks.specs.Rows.{cells_of, truths_of}
use Rattle.vortex_table_chunks.proofs.FilterParts as parts
use Rattle.vortex_table_chunks.proofs.filters.+filter_truth.Goals as goal

pub filter_truth-truth_operands-requires-clause-there : goal.filter_truth-truth_operands-requires-clause-there
filter_truth-truth_operands-requires-clause-there t c = parts.truth-there c.args.columns.now c.args.chunks.now c.args.filter.now c.requires.there c.in-Truth.x c.in-Truth.is

pub filter_truth-compared_operands-requires-clause-left : goal.filter_truth-compared_operands-requires-clause-left
filter_truth-compared_operands-requires-clause-left t c = (parts.compare-there c.args.columns.now c.args.chunks.now c.args.filter.now c.requires.there c.in-Compare.operator c.in-Compare.x c.in-Compare.y c.in-Compare.is).0

pub filter_truth-compared_operands-requires-clause-right : goal.filter_truth-compared_operands-requires-clause-right
filter_truth-compared_operands-requires-clause-right t c = (parts.compare-there c.args.columns.now c.args.chunks.now c.args.filter.now c.requires.there c.in-Compare.operator c.in-Compare.x c.in-Compare.y c.in-Compare.is).1

pub filter_truth-bounded_operands-requires-clause-value : goal.filter_truth-bounded_operands-requires-clause-value
filter_truth-bounded_operands-requires-clause-value t c =
    (parts.between-there c.args.columns.now c.args.chunks.now c.args.filter.now c.requires.there c.in-Between.options c.in-Between.x c.in-Between.lower c.in-Between.upper c.in-Between.is).0

pub filter_truth-bounded_operands-requires-clause-below : goal.filter_truth-bounded_operands-requires-clause-below
filter_truth-bounded_operands-requires-clause-below t c =
    (parts.between-there c.args.columns.now c.args.chunks.now c.args.filter.now c.requires.there c.in-Between.options c.in-Between.x c.in-Between.lower c.in-Between.upper c.in-Between.is).1

pub filter_truth-bounded_operands-requires-clause-above : goal.filter_truth-bounded_operands-requires-clause-above
filter_truth-bounded_operands-requires-clause-above t c =
    (parts.between-there c.args.columns.now c.args.chunks.now c.args.filter.now c.requires.there c.in-Between.options c.in-Between.x c.in-Between.lower c.in-Between.upper c.in-Between.is).2

pub filter_truth-liked_operands-requires-clause-there : goal.filter_truth-liked_operands-requires-clause-there
filter_truth-liked_operands-requires-clause-there t c = (parts.like-there c.args.columns.now c.args.chunks.now c.args.filter.now c.requires.there c.in-Like.x c.in-Like.pattern c.in-Like.is).0

pub filter_truth-null_operands-requires-clause-there : goal.filter_truth-null_operands-requires-clause-there
filter_truth-null_operands-requires-clause-there t c = parts.null-there c.args.columns.now c.args.chunks.now c.args.filter.now c.requires.there c.in-IsNull.x c.in-IsNull.is

pub filter_truth-conjunction-requires : goal.filter_truth-conjunction-requires
filter_truth-conjunction-requires t c =
    let f : Filter = c.get-in-And.result.now in
    let g : Filter = c.get-in-And-2.result.now in
    let is : c.args.filter.now ≡ And f g = c.in-And.is ∙ ap (λ h. And h c.in-And.g) (sym c.get-in-And.ensures) ∙ ap (And f) (sym c.get-in-And-2.ensures) in
    let first : size-Filter f < size-Filter c.args.filter.now = search (rules, views.the_lemmas) in
    let second : size-Filter g < size-Filter c.args.filter.now = search (rules, views.the_lemmas) in
    (omega arith, (c.requires.fits, (parts.and-there-first c.args.columns.now c.args.chunks.now c.args.filter.now c.requires.there f g is, ((parts.and-typed c.args.columns.now c.args.filter.now c.requires.types f g is).0, (parts.and-there-second c.args.columns.now c.args.chunks.now c.args.filter.now c.requires.there f g is, (parts.and-typed c.args.columns.now c.args.filter.now c.requires.types f g is).1)))))

pub filter_truth-returns-in-And : goal.filter_truth-returns-in-And
filter_truth-returns-in-And t c =
    let rows : List Cells = cells_of c.args.columns.now c.args.chunks.now c.args.rows in
    let f : Filter = c.get-in-And.result.now in
    let g : Filter = c.get-in-And-2.result.now in
    let is : c.args.filter.now ≡ And f g = c.in-And.is ∙ ap (λ h. And h c.in-And.g) (sym c.get-in-And.ensures) ∙ ap (And f) (sym c.get-in-And-2.ensures) in
    parts.told rows (And f g) c.args.filter.now c.conjunction.result _ is (parts.and-truths rows f g) c.conjunction.ensures

pub filter_truth-disjunction-requires : goal.filter_truth-disjunction-requires
filter_truth-disjunction-requires t c =
    let f : Filter = c.get-in-Or.result.now in
    let g : Filter = c.get-in-Or-2.result.now in
    let is : c.args.filter.now ≡ Or f g = c.in-Or.is ∙ ap (λ h. Or h c.in-Or.g) (sym c.get-in-Or.ensures) ∙ ap (Or f) (sym c.get-in-Or-2.ensures) in
    let first : size-Filter f < size-Filter c.args.filter.now = search (rules, views.the_lemmas) in
    let second : size-Filter g < size-Filter c.args.filter.now = search (rules, views.the_lemmas) in
    (omega arith, (c.requires.fits, (parts.or-there-first c.args.columns.now c.args.chunks.now c.args.filter.now c.requires.there f g is, ((parts.or-typed c.args.columns.now c.args.filter.now c.requires.types f g is).0, (parts.or-there-second c.args.columns.now c.args.chunks.now c.args.filter.now c.requires.there f g is, (parts.or-typed c.args.columns.now c.args.filter.now c.requires.types f g is).1)))))

pub filter_truth-returns-in-Or : goal.filter_truth-returns-in-Or
filter_truth-returns-in-Or t c =
    let rows : List Cells = cells_of c.args.columns.now c.args.chunks.now c.args.rows in
    let f : Filter = c.get-in-Or.result.now in
    let g : Filter = c.get-in-Or-2.result.now in
    let is : c.args.filter.now ≡ Or f g = c.in-Or.is ∙ ap (λ h. Or h c.in-Or.g) (sym c.get-in-Or.ensures) ∙ ap (Or f) (sym c.get-in-Or-2.ensures) in
    parts.told rows (Or f g) c.args.filter.now c.disjunction.result _ is (parts.or-truths rows f g) c.disjunction.ensures

pub filter_truth-returns-in-Truth : goal.filter_truth-returns-in-Truth
filter_truth-returns-in-Truth t c =
    let rows : List Cells = cells_of c.args.columns.now c.args.chunks.now c.args.rows in
    parts.told rows (Truth c.in-Truth.x) c.args.filter.now c.truth_operands.result _ c.in-Truth.is (parts.own-truths rows c.in-Truth.x) c.truth_operands.ensures

pub filter_truth-returns-in-Compare : goal.filter_truth-returns-in-Compare
filter_truth-returns-in-Compare t c =
    let rows : List Cells = cells_of c.args.columns.now c.args.chunks.now c.args.rows in
    parts.told rows (Compare c.in-Compare.operator c.in-Compare.x c.in-Compare.y) c.args.filter.now c.compared_operands.result _ c.in-Compare.is (parts.compared-truths rows c.in-Compare.operator c.in-Compare.x c.in-Compare.y) c.compared_operands.ensures

pub filter_truth-returns-in-Between : goal.filter_truth-returns-in-Between
filter_truth-returns-in-Between t c =
    let rows : List Cells = cells_of c.args.columns.now c.args.chunks.now c.args.rows in
    parts.told rows (Between c.in-Between.options c.in-Between.x c.in-Between.lower c.in-Between.upper) c.args.filter.now c.bounded_operands.result _ c.in-Between.is (parts.bounded-truths rows c.in-Between.options c.in-Between.x c.in-Between.lower c.in-Between.upper) c.bounded_operands.ensures

pub filter_truth-returns-in-Like : goal.filter_truth-returns-in-Like
filter_truth-returns-in-Like t c =
    let rows : List Cells = cells_of c.args.columns.now c.args.chunks.now c.args.rows in
    parts.told rows (Like c.in-Like.x c.in-Like.pattern) c.args.filter.now c.liked_operands.result _ c.in-Like.is (parts.liked-truths rows c.in-Like.x c.in-Like.pattern) c.liked_operands.ensures

pub filter_truth-returns-in-IsNull : goal.filter_truth-returns-in-IsNull
filter_truth-returns-in-IsNull t c =
    let rows : List Cells = cells_of c.args.columns.now c.args.chunks.now c.args.rows in
    parts.told rows (IsNull c.in-IsNull.x) c.args.filter.now c.null_operands.result _ c.in-IsNull.is (parts.null-truths rows c.in-IsNull.x) c.null_operands.ensures

pub filter_truth-returns-in_ok-answers-in-Not : goal.filter_truth-returns-in_ok-answers-in-Not
filter_truth-returns-in_ok-answers-in-Not t c =
    let rows : List Cells = cells_of c.args.columns.now c.args.chunks.now c.args.rows in
    let f : Filter = c.get.result.now in
    let is : c.args.filter.now ≡ Not f = c.in-Not.is ∙ ap Not (sym c.get.ensures) in
    parts.told rows (Not f) c.args.filter.now c.negate.result (truths_of rows (Not f)) is refl (parts.negated-answers rows f c.in_ok-answers-in-Not.answers c.negate.result c.in_ok-answers-in-Not.ensures c.negate.ensures)

pub conjunction-filter_truth-requires : goal.conjunction-filter_truth-requires
conjunction-filter_truth-requires t c = (omega arith, (c.requires.fits, (c.requires.first, c.requires.first_types)))

pub conjunction-filter_truth-requires-2 : goal.conjunction-filter_truth-requires-2
conjunction-filter_truth-requires-2 t c = (omega arith, (c.requires.fits, (c.requires.second, c.requires.second_types)))

pub conjunction-returns-then-is_all : goal.conjunction-returns-then-is_all
conjunction-returns-then-is_all t c =
    let rows : List Cells = cells_of c.args.columns.now c.args.chunks.now c.args.rows in
    let f : Filter = c.args.f.now in
    let g : Filter = c.args.g.now in
    let left : Column = bool_column c.in_ok-left.left in
    parts.and-decided rows f g (length left.rows) (answers left) c.in_ok-left.ensures (c.is_all.ensures c.if-is_all.true)

pub conjunction-kleene_and-requires : goal.conjunction-kleene_and-requires
conjunction-kleene_and-requires t c =
    let rows : List Cells = cells_of c.args.columns.now c.args.chunks.now c.args.rows in
    record { same_length = parts.same-long rows c.args.f.now c.args.g.now c.in_ok-left.left c.in_ok-right.right c.in_ok-left.ensures c.in_ok-right.ensures }

pub conjunction-returns : goal.conjunction-returns
conjunction-returns t c =
    let rows : List Cells = cells_of c.args.columns.now c.args.chunks.now c.args.rows in
    parts.and-answers rows c.args.f.now c.args.g.now c.in_ok-left.left c.in_ok-right.right c.in_ok-left.ensures c.in_ok-right.ensures c.kleene_and.result c.kleene_and.ensures

pub disjunction-filter_truth-requires : goal.disjunction-filter_truth-requires
disjunction-filter_truth-requires t c = (omega arith, (c.requires.fits, (c.requires.first, c.requires.first_types)))

pub disjunction-filter_truth-requires-2 : goal.disjunction-filter_truth-requires-2
disjunction-filter_truth-requires-2 t c = (omega arith, (c.requires.fits, (c.requires.second, c.requires.second_types)))

pub disjunction-returns-then-is_all : goal.disjunction-returns-then-is_all
disjunction-returns-then-is_all t c =
    let rows : List Cells = cells_of c.args.columns.now c.args.chunks.now c.args.rows in
    let f : Filter = c.args.f.now in
    let g : Filter = c.args.g.now in
    let left : Column = bool_column c.in_ok-left.left in
    parts.or-decided rows f g (length left.rows) (answers left) c.in_ok-left.ensures (c.is_all.ensures c.if-is_all.true)

pub disjunction-kleene_or-requires : goal.disjunction-kleene_or-requires
disjunction-kleene_or-requires t c =
    let rows : List Cells = cells_of c.args.columns.now c.args.chunks.now c.args.rows in
    record { same_length = parts.same-long rows c.args.f.now c.args.g.now c.in_ok-left.left c.in_ok-right.right c.in_ok-left.ensures c.in_ok-right.ensures }

pub disjunction-returns : goal.disjunction-returns
disjunction-returns t c =
    let rows : List Cells = cells_of c.args.columns.now c.args.chunks.now c.args.rows in
    parts.or-answers rows c.args.f.now c.args.g.now c.in_ok-left.left c.in_ok-right.right c.in_ok-left.ensures c.in_ok-right.ensures c.kleene_or.result c.kleene_or.ensures
