use Rattle.vortex_array_kinds.proofs.TruthLaws.{or-by-row}
use Rattle.vortex_array_kinds.proofs.laws.joined_by_or_by_row.Goals as goal

pub returns : goal.returns
returns c = or-by-row
