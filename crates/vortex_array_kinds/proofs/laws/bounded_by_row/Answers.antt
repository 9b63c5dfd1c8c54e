use Rattle.vortex_array_kinds.proofs.TruthLaws.{bounded-by-row}
use Rattle.vortex_array_kinds.proofs.laws.bounded_by_row.Goals as goal

pub returns : goal.returns
returns c = bounded-by-row
