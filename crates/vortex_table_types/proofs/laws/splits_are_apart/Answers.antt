use Rattle.vortex_table_types.proofs.Apart.{apart}
use Rattle.vortex_table_types.proofs.laws.splits_are_apart.Goals as goal

pub returns : goal.returns
returns c = apart
