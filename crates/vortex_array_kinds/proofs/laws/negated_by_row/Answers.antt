use Rattle.vortex_array_kinds.proofs.TruthLaws.{negated-by-row}
use Rattle.vortex_array_kinds.proofs.laws.negated_by_row.Goals as goal

pub returns : goal.returns
returns c = negated-by-row
