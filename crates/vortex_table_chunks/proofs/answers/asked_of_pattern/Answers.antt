use Rattle.std.proofs.Common.{◌∙◌, ap}
use Rattle.vortex_array_predicates.specs.Predicates.{Likeness, matches_text}
use Rattle.vortex_array_kinds.specs.Kinds.{bool_column}
use Rattle.vortex_table_chunks.specs.ChunkOf.{chunk_column}
use Rattle.vortex_table_chunks.proofs.Asked.{tested-like}
use Rattle.vortex_table_chunks.proofs.answers.asked_of_pattern.Goals as goal

pub returns : goal.returns
returns c =
    tested-like c.args.text.now (matches_text c.new-test.result.pattern) (chunk_column c.args.chunk.now) (bool_column c.in_ok-answers.answers)
    (ap (λ (t : Likeness). matches_text t.pattern) c.new-test.ensures ∙ ap matches_text c.in_ok-pattern.ensures)
    c.in_ok-answers.ensures.rows
