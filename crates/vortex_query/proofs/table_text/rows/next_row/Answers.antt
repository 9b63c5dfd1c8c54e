use Rattle.std.proofs.Common.{Bor, List, ℕ, Some}
use Rattle.csv.specs.Records.{fields_of}
use Rattle.vortex_query.proofs.Gives.{gives}
use Rattle.vortex_query.proofs.table_text.rows.next_row.Goals as goal

pub returns : goal.returns
returns c rows l =
    gives (λ (s : Bor (List ℕ)). Some s.now) c.args.reader.now c.read_byte_record.new.self c.in-Ok.found (fields_of c.read_byte_record.new.row) rows l
    (c.in-Ok.ensures.reads l.trims l.is_ready) c.in-Ok.ensures.reads_on
