use Rattle.vortex_table.specs.Given.{question}
use Rattle.vortex_query.specs.Spelled.{table_seen}
use Rattle.vortex_query.proofs.Forms.{spelled_request, spelled_table}
use Rattle.vortex_query.proofs.Answering.{one_column_each, one_type, shows_answer}
use Rattle.vortex_query.proofs.program.text_for.Goals as goal

pub rows_text-requires-clause-batches : goal.rows_text-requires-clause-batches
rows_text-requires-clause-batches c =
    let request = c.args.request.now in
    let table = c.args.table.now in
    let whole = (spelled_request request c.requires.request).whole in
    let typed = (spelled_table (table_seen table) c.requires.table).typed in
    rw c.as_slice.ensures.value (one_column_each (question table request) c.in-Ok.batches.items c.in-Ok.ensures.answers (one_type table.columns request.projection typed whole))

pub returns-in-Ok-rows_text-clause-shows : goal.returns-in-Ok-rows_text-clause-shows
returns-in-Ok-rows_text-clause-shows c =
    let request = c.args.request.now in
    let table = c.args.table.now in
    shows_answer (record { request = request; table = table_seen table }) c.in-Ok.batches.items c.in-Ok-rows_text.text c.in-Ok.ensures.answers c.in-Ok.ensures.known
    (rw (c.columns.ensures, c.in-Ok.ensures.columns, c.as_slice.ensures.value) at c.in-Ok-rows_text.ensures)
