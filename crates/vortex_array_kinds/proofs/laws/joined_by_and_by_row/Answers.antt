use Rattle.vortex_array_kinds.proofs.TruthLaws.{and-by-row}
use Rattle.vortex_array_kinds.proofs.laws.joined_by_and_by_row.Goals as goal

pub returns : goal.returns
returns c = and-by-row
