use Rattle.vortex_query_fields.proofs.Back.{field-read}
use Rattle.vortex_query_fields.proofs.laws.fields_are_read.Goals as goal

pub returns : goal.returns
returns c = field-read
