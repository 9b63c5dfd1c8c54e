use Rattle.std.proofs.Common.{◌∙◌, ap, replicate}
use Rattle.std.proofs.lemmas.Result.{IfOk-weaker}
use Rattle.vortex_array_types.specs.declared.types.Nullability.TheVariants as nulls
use Rattle.vortex_array_kinds.specs.Kinds.{bool_column}
use Rattle.vortex_table_chunks.proofs.Asked.{answers-of}
use Rattle.vortex_table_chunks.proofs.answers.repeated_truth.Goals as goal

pub returns-in-Some : goal.returns-in-Some
returns-in-Some c =
    IfOk-weaker c.equal_answers.result _ _ (λ a e. answers-of (bool_column a) nulls.Nullable _ e ∙ ap (replicate c.args.len) c.in-Some.ensures) c.equal_answers.ensures

pub returns-in-None : goal.returns-in-None
returns-in-None c =
    IfOk-weaker c.null_answers.result _ _ (λ a e. answers-of (bool_column a) nulls.Nullable _ e ∙ ap (replicate c.args.len) c.in-None.ensures) c.null_answers.ensures
