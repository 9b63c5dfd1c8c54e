use Rattle.std.proofs.Common.{◌∙◌, ap, None}
use Rattle.std.specs.Prelude.{replicate}
use Rattle.std.proofs.lemmas.Result.{IfOk-weaker}
use Rattle.vortex_array_types.specs.Truth.{is_like}
use Rattle.vortex_array_types.specs.declared.types.Nullability.TheVariants as nulls
use Rattle.vortex_array_kinds.specs.Truths.{truths}
use Rattle.vortex_array.specs.ColumnOf.{column_of}
use Rattle.vortex_array_compare.proofs.Equal.{constant-null}
use Rattle.vortex_array.proofs.like.like_constant.Goals as goal

pub returns-in-None : goal.returns-in-None
returns-in-None c =
    IfOk-weaker c.null_answers.result _ _
    (λ a e.
    e
    ∙ ap (λ m. truths nulls.Nullable (replicate m None)) c.len.ensures.count
    ∙ constant-null is_like (column_of c.args.texts.now) c.args.constant.now c.in-None.ensures.value c.in-None.ensures.fits c.requires.same_length)
    c.null_answers.ensures
