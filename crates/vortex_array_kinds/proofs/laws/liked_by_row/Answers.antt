use Rattle.vortex_array_kinds.proofs.TruthLaws.{liked-by-row}
use Rattle.vortex_array_kinds.proofs.laws.liked_by_row.Goals as goal

pub returns : goal.returns
returns c = liked-by-row
