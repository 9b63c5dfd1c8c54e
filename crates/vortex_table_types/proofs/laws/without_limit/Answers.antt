use Rattle.vortex_table_types.proofs.Whole.{whole}
use Rattle.vortex_table_types.proofs.laws.without_limit.Goals as goal

pub returns : goal.returns
returns c = whole
