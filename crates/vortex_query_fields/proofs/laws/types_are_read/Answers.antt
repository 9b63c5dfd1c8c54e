use Rattle.vortex_query_fields.proofs.Named.{type-read}
use Rattle.vortex_query_fields.proofs.laws.types_are_read.Goals as goal

pub returns : goal.returns
returns c = type-read
