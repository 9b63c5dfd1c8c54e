use Rattle.std.proofs.Common.{◌∙◌, ap, length, sym}
use Rattle.std.specs.Prelude.{IsTrue}
use Rattle.std.proofs.lemmas.List.{length-replicate}
use Rattle.vortex_array_types.specs.Row.{Column}
use Rattle.vortex_array_kinds.specs.Kinds.{bool_column}
use Rattle.vortex_array_kinds.specs.StringValues.{is_text_type}
use Rattle.vortex_array.specs.ColumnOf.{column_of}
use Rattle.vortex_table_chunks.proofs.Asked.{liked-equal}
use Rattle.vortex_table_chunks.proofs.answers.array_liked.Goals as goal

pub like-requires : goal.like-requires
like-requires c = record {
  same_length = sym (ap (λ (p : Column). length p.rows) c.in_ok-patterns.ensures ∙ length-replicate c.len.result c.args.pattern.now.value ∙ c.len.ensures);
  texts = c.requires.texts;
  patterns = rw c.in_ok-patterns.ensures c.requires.patterns;
}

pub returns : goal.returns
returns c =
    liked-equal (column_of c.args.array.now) (column_of c.in_ok-patterns.patterns) (bool_column c.in_ok-answers.answers) c.args.pattern.now c.len.result c.in_ok-patterns.ensures (sym c.len.ensures) c.in_ok-answers.ensures
