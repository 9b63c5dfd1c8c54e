use Rattle.std.proofs.lemmas.Result.{IfOk-weaker}
use Rattle.vortex_array_types.specs.declared.types.Nullability.TheVariants as nulls
use Rattle.vortex_array_kinds.specs.Kinds.{bool_column}
use Rattle.vortex_table_chunks.specs.ChunkOf.{chunk_column}
use Rattle.vortex_table_chunks.proofs.Asked.{liked-null}
use Rattle.vortex_table_chunks.proofs.answers.asked_whether_like.Goals as goal

pub returns-in-None : goal.returns-in-None
returns-in-None c =
    IfOk-weaker c.null_answers.result _ _
    (λ a e. liked-null (chunk_column c.args.chunk.now) (bool_column a) c.args.pattern.now.value nulls.Nullable c.len.result c.in-None.ensures.value c.len.ensures e)
    c.null_answers.ensures
