use Rattle.vortex_array_kinds.proofs.TruthLaws.{compared-by-row}
use Rattle.vortex_array_kinds.proofs.laws.compared_by_row.Goals as goal

pub returns : goal.returns
returns c = compared-by-row
