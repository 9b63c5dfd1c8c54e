use Rattle.vortex_query_fields.proofs.Named.{header-read}
use Rattle.vortex_query_fields.proofs.laws.headers_are_read.Goals as goal

pub returns : goal.returns
returns c = header-read
