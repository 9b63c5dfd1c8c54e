use Rattle.std.proofs.Common.{◌∙◌, ◌≡◌, ap, None}
use Rattle.std.specs.Prelude.{IsTrue, replicate}
use Rattle.std.proofs.lemmas.Result.{IfOk-weaker}
use Rattle.vortex_array_types.specs.Order.{compares}
use Rattle.vortex_array_types.specs.Row.{fits_type}
use Rattle.vortex_array_types.specs.declared.types.Nullability.TheVariants as nulls
use Rattle.vortex_array_kinds.specs.Truths.{truths}
use Rattle.vortex_array.specs.ColumnOf.{column_of}
use Rattle.vortex_array_compare.proofs.Equal.{constant-null}
use Rattle.vortex_array.proofs.compare.compare_constant.Goals as goal

pub returns-in-None : goal.returns-in-None
returns-in-None c =
    let k = c.args.constant.now in
    let is : None ≡ k.scalar.value = c.in-None.ensures.value ∙ ap (λ s. s.value) c.scalar.ensures in
    let fits : IsTrue (fits_type k.scalar.dtype k.scalar.value) = rw c.scalar.ensures at c.in-None.ensures.fits in
    IfOk-weaker c.null_answers.result _ _
    (λ a e.
    e
    ∙ ap (λ m. truths nulls.Nullable (replicate m None)) c.len.ensures.count
    ∙ constant-null (compares c.args.operator) (column_of c.args.left.now) k is fits c.requires.same_length)
    c.null_answers.ensures
