use Rattle.std.proofs.Common.{Some, ap, ◌∙◌, replicate}
use Rattle.std.proofs.lemmas.Result.{IfOk-weaker}
use Rattle.vortex_array_types.specs.declared.types.Nullability.TheVariants as nulls
use Rattle.vortex_array_kinds.specs.Kinds.{bool_column}
use Rattle.vortex_table_chunks.proofs.Asked.{answers-of, null-told}
use Rattle.vortex_table_chunks.proofs.answers.repeated_null.Goals as goal

pub returns : goal.returns
returns c =
    IfOk-weaker c.equal_answers.result _ _
    (λ a e. answers-of (bool_column a) nulls.NonNullable _ e ∙ ap (λ b. replicate c.args.len (Some b)) (null-told c.args.row.now.value c.is_null.result c.is_null.ensures))
    c.equal_answers.ensures
