use Rattle.std.proofs.Common.{◌∙◌, Bool, ap}
use Rattle.vortex_array_types.specs.declared.scalar.Value.{Value}
use Rattle.vortex_array_select.specs.Selected.{taken}
use Rattle.vortex_array.specs.ColumnOf.{bool_column, column_of}
use Rattle.vortex_array.specs.declared.arrays.Array.{Array}
use Rattle.vortex_dict.specs.Answered.{tested}
use Rattle.vortex_dict.proofs.Gathered.{gathered-truths}
use Rattle.vortex_dict.proofs.dict.DictArray.apply.Goals as goal

pub returns-clause-rows : goal.returns-clause-rows
returns-clause-rows g c =
    let d = c.args.self.now in
    let truth : Value → Bool = g.Q.Predicate.truth c.args.q.now in
    c.in_ok-answers.ensures
    ∙ ap (λ (a : Array). taken (column_of a) (bool_column c.in_ok-truths.truths)) c.codes.ensures.value
    ∙ ap (taken (column_of d.codes)) (c.in_ok-truths.ensures.rows ∙ ap (λ (a : Array). tested truth (column_of a)) c.values.ensures.value)
    ∙ gathered-truths truth (column_of d.codes) (column_of d.values)
