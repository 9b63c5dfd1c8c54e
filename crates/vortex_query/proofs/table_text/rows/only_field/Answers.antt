use Rattle.std.proofs.Common.{sym, ◌∙◌}
use Rattle.csv.specs.Records.{fields_of}
use Rattle.vortex_query.proofs.Only.{only-one, only-other}
use Rattle.vortex_query.proofs.table_text.rows.only_field.Goals as goal

pub returns-then-len-eq1 : goal.returns-then-len-eq1
returns-then-len-eq1 c = c.get.ensures.value ∙ only-one (fields_of c.args.row.now) (sym c.len.ensures ∙ c.if-len-eq1.true)

pub returns-else-len-eq1 : goal.returns-else-len-eq1
returns-else-len-eq1 c = sym (only-other (fields_of c.args.row.now) (λ e. c.if-len-eq1.false (c.len.ensures ∙ e)))
